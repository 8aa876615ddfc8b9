use Rattle.std.proofs.Common.{arith, subst, [], ◌∷◌, ap, ℕ, Bool, cond, Ok, ◌∙◌}
use Rattle.node_heap.specs.Calls.{Builds}
use Rattle.node_heap.proofs.BuildLemmas.{Builds-Answered, Builds-MakesJust, Builds-then}
use Rattle.node_heap.proofs.RoomLemmas.{KeepsToNeed-more, Builds-KeepsToNeed}
use Rattle.champ_chain.proofs.WithLemmas.{not-ok}
use Rattle.champ_trie.specs.Trie.{code_by}
use Rattle.champ_trie.proofs.LeftLemmas.{KeepsTries-same}
use Rattle.set_merge.proofs.RootLemmas.{need-kept, need-one, reserved-none}
use Rattle.set_merge.proofs.roots.merge.Goals as goal

pub merged_root-requires-clause-first : goal.merged_root-requires-clause-first
merged_root-requires-clause-first g c =
    let one = c.requires.first in
    (one.0, KeepsTries-same c.args.heap.now c.reserve.new.self c.in_ok-reserve.ensures.rest.rows g.T.Ord.cmp (code_by g.T.Element.code_of c.args.roots.now.bits) c.args.roots.now.a one.0 one.1)

pub merged_root-requires-clause-second : goal.merged_root-requires-clause-second
merged_root-requires-clause-second g c =
    let two = c.requires.second in
    (two.0, KeepsTries-same c.args.heap.now c.reserve.new.self c.in_ok-reserve.ensures.rest.rows g.T.Ord.cmp (code_by g.T.Element.code_of c.args.roots.now.bits) c.args.roots.now.b two.0 two.1)

pub merged_root-requires-clause-spare : goal.merged_root-requires-clause-spare
merged_root-requires-clause-spare g c =
    omega (
      arith,
      c.need-rows.ensures.rows,
      c.in_ok-reserve.ensures.spares.1,
      need-kept g.T.Ord.cmp g.T.Element.code_of c.args.keeps c.args.heap.now c.reserve.new.self c.args.roots.now.bits c.args.roots.now.a c.args.roots.now.b c.in_ok-reserve.ensures.rest.rows,
    )

pub returns-clause-answered : goal.returns-clause-answered
returns-clause-answered g c =
    let same = need-kept g.T.Ord.cmp g.T.Element.code_of c.args.keeps c.args.heap.now c.reserve.new.self c.args.roots.now.bits c.args.roots.now.a c.args.roots.now.b c.in_ok-reserve.ensures.rest.rows in
    Builds-Answered c.in_ok-reserve.ensures.rest (subst (λ n. Builds c.reserve.new.self c.merged_root.new.heap [] (c.merged_root.result ∷ []) 0 n) same c.merged_root.ensures.builds)

pub returns-clause-entries : goal.returns-clause-entries
returns-clause-entries g c = λ E D first second.
    let cmp = g.T.Ord.cmp in
    let code = code_by g.T.Element.code_of c.args.roots.now.bits in
    let keeps = KeepsTries-same c.args.heap.now c.reserve.new.self c.in_ok-reserve.ensures.rest.rows in
    c.merged_root.ensures.entries E D (keeps cmp code c.args.roots.now.a E first) (keeps cmp code c.args.roots.now.b D second)

pub returns-clause-made : goal.returns-clause-made
returns-clause-made g c = Builds-MakesJust c.in_ok-reserve.ensures.rest c.merged_root.ensures.builds

pub returns-clause-spares : goal.returns-clause-spares
returns-clause-spares g c =
    KeepsToNeed-more 0 _ (omega arith) (omega (arith, c.need-rows.ensures.rows))
    (Builds-KeepsToNeed c.in_ok-reserve.ensures.greater c.in_ok-reserve.ensures.rest c.merged_root.ensures.builds)

pub returns-in_err-reserve-clause-ample : goal.returns-in_err-reserve-clause-ample
returns-in_err-reserve-clause-ample g c = λ spares.
    absurd (not-ok c.reserve.result _ c.in_err-reserve.was (c.reserve.ensures.ample (omega arith) (omega (arith, c.need-rows.ensures.rows, spares.1))))

pub returns-clause-same : goal.returns-clause-same
returns-clause-same g c = λ same so.
    let pick : Bool → ℕ = λ t. cond t 0 1 in
    let none = ap pick so in
    let rows = c.in_ok-reserve.ensures.rest.rows in
    let did = c.merged_root.ensures.same same so in (
      ap (λ l. Ok l) did.0,
      (λ k. did.1 k ∙ rows k),
      Builds-then (reserved-none c.args.heap.now c.reserve.new.self c.need-rows.result
          (omega (arith, c.need-rows.ensures.rows, need-one g.T.Ord.cmp g.T.Element.code_of c.args.keeps c.args.heap.now c.args.roots.now.bits c.args.roots.now.a c.args.roots.now.b same, none)) c.in_ok-reserve.ensures.rest c.in_ok-reserve.ensures.greater) did.2,
    )

pub returns-in_err-reserve-clause-same : goal.returns-in_err-reserve-clause-same
returns-in_err-reserve-clause-same g c = λ same so.
    let pick : Bool → ℕ = λ t. cond t 0 1 in
    let none = ap pick so in
    absurd (not-ok c.reserve.result _ c.in_err-reserve.was (c.reserve.ensures.ample (omega arith)
    (omega (arith, c.need-rows.ensures.rows, need-one g.T.Ord.cmp g.T.Element.code_of c.args.keeps c.args.heap.now c.args.roots.now.bits c.args.roots.now.a c.args.roots.now.b same, none))))

pub returns-clause-apart : goal.returns-clause-apart
returns-clause-apart g c = λ rows others has back.
    let did = c.merged_root.ensures.builds in
    omega (
      arith,
      c.need-rows.ensures.apart rows others has back,
      c.need-rows.ensures.rows,
      did.makes.nodes,
      did.few_nodes,
      c.in_ok-reserve.ensures.rest.nodes,
      need-kept g.T.Ord.cmp g.T.Element.code_of c.args.keeps c.args.heap.now c.reserve.new.self c.args.roots.now.bits c.args.roots.now.a c.args.roots.now.b c.in_ok-reserve.ensures.rest.rows,
    )

pub returns-clause-few_nodes : goal.returns-clause-few_nodes
returns-clause-few_nodes g c = λ E D first second.
    let did = c.merged_root.ensures.builds in
    omega (
      arith,
      c.need-rows.ensures.entries E D first second,
      c.need-rows.ensures.rows,
      did.makes.nodes,
      did.few_nodes,
      c.in_ok-reserve.ensures.rest.nodes,
      need-kept g.T.Ord.cmp g.T.Element.code_of c.args.keeps c.args.heap.now c.reserve.new.self c.args.roots.now.bits c.args.roots.now.a c.args.roots.now.b c.in_ok-reserve.ensures.rest.rows,
    )
