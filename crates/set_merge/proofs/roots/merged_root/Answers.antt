use Rattle.std.proofs.Common.{arith, ℕ, [], ◌∷◌, sym, ap, subst, cond, Bool, refl, ◌∙◌}
use Rattle.std.proofs.lemmas.Bool.{eqb-true, eqb-false}
use Rattle.elem_core.specs.declared.codes.TheConstants.{DEEPEST}
use Rattle.node_heap.specs.Heap.{form_at, row_limit}
use Rattle.node_heap.specs.Links.{count}
use Rattle.node_heap.specs.Calls.{Builds}
use Rattle.node_heap.proofs.BuildLemmas.{Builds-hold, Builds-both, Builds-then, Builds-more, Builds-spare_nodes}
use Rattle.champ_chain.proofs.FrameLemmas.{forms-kept}
use Rattle.champ_trie.specs.Trie.{code_by}
use Rattle.champ_trie.specs.declared.place.Place.TheVariants.{Node}
use Rattle.champ_trie.proofs.StayLemmas.{canon-live}
use Rattle.champ_trie.proofs.LeftLemmas.{KeepsTries-same}
use Rattle.set_merge.specs.Merge.{merged}
use Rattle.set_merge.specs.Need.{sum_below}
use Rattle.set_merge.specs.Walk.{position_need}
use Rattle.set_merge.proofs.WalkLemmas.{need-more, spread-live, spread-held}
use Rattle.set_merge.proofs.RootLemmas.{need-one, need-two, root-sides, root-alive, root-stood, root-made, root-empty, root-same}
use Rattle.set_merge.proofs.roots.merged_root.Goals as goal

pub hold-requires-clause-live : goal.hold-requires-clause-live
hold-requires-clause-live g c = canon-live g.T.Ord.cmp (code_by g.T.Element.code_of c.args.roots.now.bits) c.args.heap.now c.args.roots.now.a c.requires.first.0 c.requires.first.1

pub returns-then-keeps-clause-entries : goal.returns-then-keeps-clause-entries
returns-then-keeps-clause-entries g c = λ E D first second.
    let cmp = g.T.Ord.cmp in
    let code = code_by g.T.Element.code_of c.args.roots.now.bits in
    let a = c.args.roots.now.a in
    let b = c.args.roots.now.b in
    root-same cmp code g.met.T.Ord.total c.args.keeps c.args.heap.now a b E D first second c.hold.new.self (eqb-true a b (sym c.if-eq.ensures)) c.if-keeps.true
    (KeepsTries-same c.args.heap.now c.hold.new.self c.hold.ensures.rows cmp code a E first)

pub make-requires-clause-held : goal.make-requires-clause-held
make-requires-clause-held g c = λ l. omega (arith, ap (count l) c.empty.ensures.blank.links)

pub make-requires-clause-live : goal.make-requires-clause-live
make-requires-clause-live g c = λ l some. absurd (omega (arith, some, ap (count l) c.empty.ensures.blank.stood))

pub make-requires-clause-spare : goal.make-requires-clause-spare
make-requires-clause-spare g c =
    let a = c.args.roots.now.a in
    let b = c.args.roots.now.b in
    let pick : Bool → ℕ = λ t. cond t 0 1 in
    let one = ap pick c.if-keeps.false in
    omega (arith, c.requires.spare, need-one g.T.Ord.cmp g.T.Element.code_of c.args.keeps c.args.heap.now c.args.roots.now.bits a b (eqb-true a b (sym c.if-eq.ensures)), one)

pub returns-then-eq-clause-builds : goal.returns-then-eq-clause-builds
returns-then-eq-clause-builds g c =
    let a = c.args.roots.now.a in
    let b = c.args.roots.now.b in
    let pick : Bool → ℕ = λ t. cond t 0 1 in
    let one = ap pick c.if-keeps.false in
    Builds-more 0 _ (c.make.ensures.builds [] (λ l. omega (arith, ap (count l) c.empty.ensures.blank.links, ap (count l) c.empty.ensures.blank.stood))) (omega arith)
    (omega (arith, need-one g.T.Ord.cmp g.T.Element.code_of c.args.keeps c.args.heap.now c.args.roots.now.bits a b (eqb-true a b (sym c.if-eq.ensures)), one))

pub returns-then-eq-clause-entries : goal.returns-then-eq-clause-entries
returns-then-eq-clause-entries g c = λ E D first second.
    let a = c.args.roots.now.a in
    let b = c.args.roots.now.b in
    root-empty g.T.Ord.cmp (code_by g.T.Element.code_of c.args.roots.now.bits) g.met.T.Ord.total c.args.keeps c.args.heap.now a b E D first second c.make.new.heap c.make.result c.empty.result c.empty.ensures.blank
    (eqb-true a b (sym c.if-eq.ensures)) c.if-keeps.false c.make.ensures.row

pub rows_merged-requires-clause-sides : goal.rows_merged-requires-clause-sides
rows_merged-requires-clause-sides g c =
    let cmp = g.T.Ord.cmp in
    let code = code_by g.T.Element.code_of c.args.roots.now.bits in
    let one = c.requires.first in
    let two = c.requires.second in
    let h = c.args.heap.now in
    let a = c.args.roots.now.a in
    let b = c.args.roots.now.b in (
      form_at h,
      DEEPEST,
      one.0,
      two.0,
      (λ l f is. is),
      root-sides cmp code g.met.T.Ord.total c.args.keeps h a b one.0 two.0 one.1 two.1,
      omega (arith, c.requires.spare, need-two cmp g.T.Element.code_of c.args.keeps h c.args.roots.now.bits a b (eqb-false a b (sym c.if-eq.ensures))),
    )

pub hold-requires-in-Some-clause-live : goal.hold-requires-in-Some-clause-live
hold-requires-in-Some-clause-live g c =
    let cmp = g.T.Ord.cmp in
    let code = code_by g.T.Element.code_of c.args.roots.now.bits in
    let one = c.requires.first in
    let two = c.requires.second in
    let h = c.args.heap.now in
    let a = c.args.roots.now.a in
    let b = c.args.roots.now.b in
    let did = c.rows_merged.ensures.spread (form_at h) DEEPEST one.0 two.0 (λ l f is. is) (root-sides cmp code g.met.T.Ord.total c.args.keeps h a b one.0 two.0 one.1 two.1) in
    root-alive cmp code g.met.T.Ord.total c.args.keeps h a b one.0 two.0 one.1 two.1 c.rows_merged.new.heap _ _ c.in-Some.root did.builds.extends c.in-Some.ensures.some.1

pub hold-requires-in-Some-clause-few : goal.hold-requires-in-Some-clause-few
hold-requires-in-Some-clause-few g c =
    let one = c.requires.first in
    let two = c.requires.second in
    let h = c.args.heap.now in
    let did = c.rows_merged.ensures.spread (form_at h) DEEPEST one.0 two.0 (λ l f is. is)
    (root-sides g.T.Ord.cmp (code_by g.T.Element.code_of c.args.roots.now.bits) g.met.T.Ord.total c.args.keeps h c.args.roots.now.a c.args.roots.now.b one.0 two.0 one.1 two.1) in
    omega (arith, c.requires.few, did.builds.total, did.few)

pub make-requires-in-None-clause-graph : goal.make-requires-in-None-clause-graph
make-requires-in-None-clause-graph g c =
    let one = c.requires.first in
    let two = c.requires.second in
    let h = c.args.heap.now in
    let did = c.rows_merged.ensures.spread (form_at h) DEEPEST one.0 two.0 (λ l f is. is)
    (root-sides g.T.Ord.cmp (code_by g.T.Element.code_of c.args.roots.now.bits) g.met.T.Ord.total c.args.keeps h c.args.roots.now.a c.args.roots.now.b one.0 two.0 one.1 two.1) in
    did.builds.graph

pub make-requires-in-None-clause-sets : goal.make-requires-in-None-clause-sets
make-requires-in-None-clause-sets g c =
    let one = c.requires.first in
    let two = c.requires.second in
    let h = c.args.heap.now in
    let did = c.rows_merged.ensures.spread (form_at h) DEEPEST one.0 two.0 (λ l f is. is)
    (root-sides g.T.Ord.cmp (code_by g.T.Element.code_of c.args.roots.now.bits) g.met.T.Ord.total c.args.keeps h c.args.roots.now.a c.args.roots.now.b one.0 two.0 one.1 two.1) in
    did.sets

pub make-requires-in-None-clause-live : goal.make-requires-in-None-clause-live
make-requires-in-None-clause-live g c =
    let cmp = g.T.Ord.cmp in
    let code = code_by g.T.Element.code_of c.args.roots.now.bits in
    let one = c.requires.first in
    let two = c.requires.second in
    let h = c.args.heap.now in
    let a = c.args.roots.now.a in
    let b = c.args.roots.now.b in
    let did = c.rows_merged.ensures.spread (form_at h) DEEPEST one.0 two.0 (λ l f is. is) (root-sides cmp code g.met.T.Ord.total c.args.keeps h a b one.0 two.0 one.1 two.1) in
    spread-live cmp code row_limit c.args.keeps (form_at h) h c.rows_merged.new.heap DEEPEST 0 (Node a) (Node b) (merged cmp c.args.keeps one.0 two.0) c.rows_merged.new.spread did

pub make-requires-in-None-clause-held : goal.make-requires-in-None-clause-held
make-requires-in-None-clause-held g c =
    let cmp = g.T.Ord.cmp in
    let code = code_by g.T.Element.code_of c.args.roots.now.bits in
    let one = c.requires.first in
    let two = c.requires.second in
    let h = c.args.heap.now in
    let a = c.args.roots.now.a in
    let b = c.args.roots.now.b in
    let did = c.rows_merged.ensures.spread (form_at h) DEEPEST one.0 two.0 (λ l f is. is) (root-sides cmp code g.met.T.Ord.total c.args.keeps h a b one.0 two.0 one.1 two.1) in
    spread-held cmp code row_limit c.args.keeps (form_at h) h c.rows_merged.new.heap DEEPEST 0 (Node a) (Node b) (merged cmp c.args.keeps one.0 two.0) c.rows_merged.new.spread did

pub make-requires-in-None-clause-few : goal.make-requires-in-None-clause-few
make-requires-in-None-clause-few g c =
    let one = c.requires.first in
    let two = c.requires.second in
    let h = c.args.heap.now in
    let did = c.rows_merged.ensures.spread (form_at h) DEEPEST one.0 two.0 (λ l f is. is)
    (root-sides g.T.Ord.cmp (code_by g.T.Element.code_of c.args.roots.now.bits) g.met.T.Ord.total c.args.keeps h c.args.roots.now.a c.args.roots.now.b one.0 two.0 one.1 two.1) in
    omega (arith, c.requires.few, did.builds.total, did.few)

pub make-requires-in-None-clause-spare : goal.make-requires-in-None-clause-spare
make-requires-in-None-clause-spare g c =
    let cmp = g.T.Ord.cmp in
    let code = code_by g.T.Element.code_of c.args.roots.now.bits in
    let one = c.requires.first in
    let two = c.requires.second in
    let h = c.args.heap.now in
    let a = c.args.roots.now.a in
    let b = c.args.roots.now.b in
    let did = c.rows_merged.ensures.spread (form_at h) DEEPEST one.0 two.0 (λ l f is. is) (root-sides cmp code g.met.T.Ord.total c.args.keeps h a b one.0 two.0 one.1 two.1) in
    omega (arith, c.requires.spare, need-two cmp g.T.Element.code_of c.args.keeps h c.args.roots.now.bits a b (eqb-false a b (sym c.if-eq.ensures)), need-more cmp code row_limit (form_at h) c.args.keeps DEEPEST 0 (Node a) (Node b), Builds-spare_nodes did.builds)

pub returns-in-Some-clause-builds : goal.returns-in-Some-clause-builds
returns-in-Some-clause-builds g c =
    let cmp = g.T.Ord.cmp in
    let code = code_by g.T.Element.code_of c.args.roots.now.bits in
    let one = c.requires.first in
    let two = c.requires.second in
    let h = c.args.heap.now in
    let mid = c.rows_merged.new.heap in
    let a = c.args.roots.now.a in
    let b = c.args.roots.now.b in
    let did = c.rows_merged.ensures.spread (form_at h) DEEPEST one.0 two.0 (λ l f is. is) (root-sides cmp code g.met.T.Ord.total c.args.keeps h a b one.0 two.0 one.1 two.1) in
    let held = Builds-hold c.hold-in-Some.ensures.holds c.hold-in-Some.ensures.makes c.hold-in-Some.ensures.count c.hold-in-Some.ensures.graph c.hold-in-Some.ensures.extends in
    let unmade = subst (λ xs. Builds h mid [] xs 0 (sum_below 32 (position_need cmp code row_limit (form_at h) c.args.keeps DEEPEST 0 (Node a) (Node b)))) (did.unmade c.in-Some.ensures.some.0) did.builds in
    Builds-more 0 _ (Builds-both [] (c.in-Some.root ∷ []) unmade held (λ l. omega arith) (omega arith)) (omega arith)
    (omega (arith, need-two cmp g.T.Element.code_of c.args.keeps h c.args.roots.now.bits a b (eqb-false a b (sym c.if-eq.ensures)), need-more cmp code row_limit (form_at h) c.args.keeps DEEPEST 0 (Node a) (Node b)))

pub returns-in-Some-clause-entries : goal.returns-in-Some-clause-entries
returns-in-Some-clause-entries g c = λ E D first second.
    let cmp = g.T.Ord.cmp in
    let code = code_by g.T.Element.code_of c.args.roots.now.bits in
    let h = c.args.heap.now in
    let mid = c.rows_merged.new.heap in
    let a = c.args.roots.now.a in
    let b = c.args.roots.now.b in
    let did = c.rows_merged.ensures.spread (form_at h) DEEPEST E D (λ l f is. is) (root-sides cmp code g.met.T.Ord.total c.args.keeps h a b E D first second) in
    KeepsTries-same mid c.hold-in-Some.new.self c.hold-in-Some.ensures.rows cmp code c.in-Some.root (merged cmp c.args.keeps E D)
    (root-stood cmp code g.met.T.Ord.total c.args.keeps h a b E D first second mid c.rows_merged.new.spread (forms-kept h mid did.builds.extends) did c.in-Some.root c.in-Some.ensures.some.1)

pub returns-in-None-clause-builds : goal.returns-in-None-clause-builds
returns-in-None-clause-builds g c =
    let cmp = g.T.Ord.cmp in
    let code = code_by g.T.Element.code_of c.args.roots.now.bits in
    let one = c.requires.first in
    let two = c.requires.second in
    let h = c.args.heap.now in
    let a = c.args.roots.now.a in
    let b = c.args.roots.now.b in
    let did = c.rows_merged.ensures.spread (form_at h) DEEPEST one.0 two.0 (λ l f is. is) (root-sides cmp code g.met.T.Ord.total c.args.keeps h a b one.0 two.0 one.1 two.1) in
    Builds-more 0 _ (Builds-then did.builds (c.make-in-None.ensures.builds did.news did.counted)) (omega arith)
    (omega (arith, need-two cmp g.T.Element.code_of c.args.keeps h c.args.roots.now.bits a b (eqb-false a b (sym c.if-eq.ensures)), need-more cmp code row_limit (form_at h) c.args.keeps DEEPEST 0 (Node a) (Node b)))

pub returns-in-None-clause-entries : goal.returns-in-None-clause-entries
returns-in-None-clause-entries g c = λ E D first second.
    let cmp = g.T.Ord.cmp in
    let code = code_by g.T.Element.code_of c.args.roots.now.bits in
    let h = c.args.heap.now in
    let mid = c.rows_merged.new.heap in
    let a = c.args.roots.now.a in
    let b = c.args.roots.now.b in
    let did = c.rows_merged.ensures.spread (form_at h) DEEPEST E D (λ l f is. is) (root-sides cmp code g.met.T.Ord.total c.args.keeps h a b E D first second) in
    let made = c.make-in-None.ensures.builds did.news did.counted in
    root-made cmp code g.met.T.Ord.total c.args.keeps h a b E D first second mid c.rows_merged.new.spread (forms-kept h mid did.builds.extends) did c.make-in-None.new.heap c.make-in-None.result
    (forms-kept mid c.make-in-None.new.heap made.extends) c.make-in-None.ensures.row

pub returns-then-keeps-clause-same : goal.returns-then-keeps-clause-same
returns-then-keeps-clause-same g c = λ same so. (refl, c.hold.ensures.rows, Builds-hold c.hold.ensures.holds c.hold.ensures.makes c.hold.ensures.count c.hold.ensures.graph c.hold.ensures.extends)

pub returns-then-eq-clause-same : goal.returns-then-eq-clause-same
returns-then-eq-clause-same g c = λ same so. absurd (let bad = sym so ∙ c.if-keeps.false in cc)

pub returns-in-Some-clause-same : goal.returns-in-Some-clause-same
returns-in-Some-clause-same g c = λ same so. absurd (eqb-false c.args.roots.now.a c.args.roots.now.b (sym c.if-eq.ensures) same)

pub returns-in-None-clause-same : goal.returns-in-None-clause-same
returns-in-None-clause-same g c = λ same so. absurd (eqb-false c.args.roots.now.a c.args.roots.now.b (sym c.if-eq.ensures) same)
