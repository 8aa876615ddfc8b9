use Rattle.std.proofs.Common.{◌≡◌, ℕ, ◌+◌, ◌∙◌, ap, sym, subst, arith, List, [], ◌∷◌, Some, None, Ok, false, refl, is_some}
use Rattle.std.specs.Prelude.{Option, option_map}
use Rattle.elem_core.specs.declared.codes.TheConstants.{LEVELS}
use Rattle.champ_trie.specs.declared.TheConstants.{ADD_NODES}
use Rattle.node_heap.specs.Forms.{cell, form_of}
use Rattle.node_heap.specs.Heap.{form_at}
use Rattle.node_heap.specs.Calls.{Answered, Builds}
use Rattle.node_heap.proofs.BuildLemmas.{Builds-cell, Builds-hold, Builds-then, Builds-more, Builds-Answered, Builds-MakesJust}
use Rattle.node_heap.proofs.Frames.{Extends-trans, Extends-Unchanged}
use Rattle.champ_chain.specs.Entry.{Entry, key_of, key_at, link_with, entry}
use Rattle.champ_chain.proofs.FrameLemmas.{forms-kept}
use Rattle.champ_trie.specs.Trie.{IsTrieOf, code_by}
use Rattle.champ_trie.specs.Edit.{SharesBeside}
use Rattle.champ_trie.specs.Reach.{alike_to}
use Rattle.champ_trie.proofs.StayLemmas.{canon-extended}
use Rattle.champ_kinds.specs.Root.{Root}
use Rattle.champ_kinds.specs.Kinds.{IsSetOf}
use Rattle.champ_kinds.proofs.StayLemmas.{set-seen, set-live, containers-extended}
use Rattle.champ_kinds.proofs.EditLemmas.{at-ok, not-err, set-with}
use Rattle.champ_trie.proofs.BesideLemmas.{shares-before, shares-itself}
use Rattle.champ_kinds.proofs.set.set_insert.Given.{Over}
use Rattle.node_heap.proofs.RoomLemmas.{KeepsToNeed-more, KeepsToNeed-Builds, Builds-KeepsToNeed}
use Rattle.champ_kinds.proofs.EditLemmas.{at-err}
use Rattle.champ_kinds.proofs.set.set_insert.Goals as goal

pub hold-requires-clause-live : goal.hold-requires-clause-live
hold-requires-clause-live g c = set-live c.args.heap.now c.args.set c.set.inside.root (ap (λ (r : Root). r.root) c.set.view_is) c.requires.contents.1

pub returns-then-is_err-clause-ample : goal.returns-then-is_err-clause-ample
returns-then-is_err-clause-ample g c = λ E here spares.
    let is = set-seen c.set.view_is here in
    let bits = ap (λ (r : Root). alike_to g.T.Element.code_of r.bits c.args.key E) c.set.view_is in
    let counted = c.look_up-found.ensures.alike E is.rooted.trie in
    absurd (not-err c.reserve.result (sym c.is_err.ensures.value ∙ c.if-is_err.true) (c.reserve.ensures.ample (omega (arith, spares.0)) (omega (arith, spares.1, counted, bits))))

pub added-root-requires-clause-trie : goal.added-root-requires-clause-trie
added-root-requires-clause-trie g c =
    let is = set-seen c.set.view_is c.requires.contents.1 in
    let room = at-ok c.reserve.result (sym c.is_err.ensures.value ∙ c.if-is_err.false) c.reserve.ensures.spares in
    let counted = c.look_up-found.ensures.alike c.requires.contents.0 is.rooted.trie in (
      c.requires.contents.0,
      c.args.key,
      canon-extended g.T.Ord.cmp (code_by g.T.Element.code_of c.set.inside.bits) c.args.heap.now c.cell-cell.new.self (Extends-trans (Extends-Unchanged c.reserve.ensures.rest) c.cell-cell.ensures.extends) c.set.inside.root c.requires.contents.0 is.rooted.trie,
      ap (λ r. key_of (form_at c.cell-cell.new.self) (option_map form_of r)) c.cell-cell.ensures.adds.here,
      omega (arith, room.1, counted, c.cell-cell.ensures.makes.spare_nodes),
    )

module _ (g : Over) (c : goal.After-from_root-2 g) where
  abbrev given : Root
  given = record { root = c.set.inside.root; bits = c.set.inside.bits }

  cell-here : form_at c.cell-cell.new.self c.cell-cell.result ≡ Some (cell c.args.key)
  cell-here = ap (option_map form_of) c.cell-cell.ensures.adds.here

  module _ (E : List (Entry g.row.T.Denot)) (is : IsSetOf g.T.Ord.cmp g.T.Element.code_of c.args.heap.now given E) where
    trie-here : IsTrieOf g.T.Ord.cmp g.T.Element.code_of given.bits c.cell-cell.new.self given.root E
    trie-here = canon-extended g.T.Ord.cmp (code_by g.T.Element.code_of c.set.inside.bits) c.args.heap.now c.cell-cell.new.self (Extends-trans (Extends-Unchanged c.reserve.ensures.rest) c.cell-cell.ensures.extends) c.set.inside.root E is.rooted.trie

    key-here : key_at (form_at c.cell-cell.new.self) c.cell-cell.result ≡ Some c.args.key
    key-here = ap (key_of (form_at c.cell-cell.new.self)) cell-here

    all-rows : Builds c.reserve.new.self c.added-root.new.heap [] (c.added-root.result ∷ []) 1 (ADD_NODES + alike_to g.T.Element.code_of given.bits c.args.key E)
    all-rows =
        let cell = Builds-cell c.cell-cell.ensures.adds c.cell-cell.ensures.makes c.cell-cell.ensures.count c.cell-cell.ensures.graph c.cell-cell.ensures.extends in
        Builds-more 1 (ADD_NODES + alike_to g.T.Element.code_of given.bits c.args.key E) (Builds-then cell (c.added-root.ensures.builds E c.args.key trie-here key-here)) (omega arith) (omega arith)

    set-made : link_with g.T.Ord.cmp c.args.key E ≡ None → IsSetOf g.T.Ord.cmp g.T.Element.code_of c.added-root.new.heap (record { root = c.added-root.result; bits = given.bits }) (entry c.args.key c.cell-cell.result ∷ E)
    set-made none =
        let built = c.added-root.ensures.builds E c.args.key trie-here key-here in
        let later = forms-kept c.cell-cell.new.self c.added-root.new.heap built.extends in
        set-with g.T.Ord.cmp g.T.Element.code_of (Extends-trans (Extends-Unchanged c.reserve.ensures.rest) all-rows.extends) given c.added-root.result c.args.key c.cell-cell.result E is none (later.kept c.cell-cell.result _ cell-here) (c.added-root.ensures.entries E c.args.key trie-here key-here)

pub returns-clause-answered : goal.returns-clause-answered
returns-clause-answered g c = λ E here.
    let bits = ap (λ (r : Root). alike_to g.T.Element.code_of r.bits c.args.key E) c.set.view_is in
    let done = Builds-Answered c.reserve.ensures.rest (all-rows g c E (set-seen c.set.view_is here)) in
    subst (λ (r : Root). Answered c.args.heap.now c.added-root.new.heap [] r.root 1 (ADD_NODES + alike_to g.T.Element.code_of c.args.set.bits c.args.key E)) (sym c.from_root-2.ensures)
    (subst (λ n. Answered c.args.heap.now c.added-root.new.heap [] c.added-root.result 1 (ADD_NODES + n)) bits done)

pub returns-clause-made : goal.returns-clause-made
returns-clause-made g c = Builds-MakesJust c.reserve.ensures.rest (all-rows g c c.requires.contents.0 (set-seen c.set.view_is c.requires.contents.1))

pub returns-clause-added : goal.returns-clause-added
returns-clause-added g c = λ E here none. (c.cell-cell.result, set-seen c.from_root-2.ensures (set-made g c E (set-seen c.set.view_is here) none))

pub returns-clause-containers : goal.returns-clause-containers
returns-clause-containers g c = containers-extended _ _ (Extends-trans (Extends-Unchanged c.reserve.ensures.rest) (all-rows g c c.requires.contents.0 (set-seen c.set.view_is c.requires.contents.1)).extends)

none-there : (found : Option ℕ) → is_some found ≡ false → found ≡ None
none-there None is = refl
none-there (Some x) is = absurd (cc)

pub returns-clause-present : goal.returns-clause-present
returns-clause-present g c = λ E here there.
    let is = set-seen c.set.view_is here in
    absurd (there (sym (c.look_up-found.ensures.entry E is.rooted.trie) ∙ none-there c.look_up-found.result.entry (sym c.is_some.ensures ∙ c.if-is_some.false)))

pub returns-then-is_some-clause-present : goal.returns-then-is_some-clause-present
returns-then-is_some-clause-present g c = λ E here there.
    let held = Builds-hold c.hold.ensures.holds c.hold.ensures.makes c.hold.ensures.count c.hold.ensures.graph c.hold.ensures.extends in
    (ap Ok (c.from_root.ensures ∙ c.set.view_is), c.hold.ensures.rows, subst (λ (r : Root). Builds c.args.heap.now c.hold.new.self [] (r.root ∷ []) 0 0) c.set.view_is held)

pub returns-then-is_some-clause-shares : goal.returns-then-is_some-clause-shares
returns-then-is_some-clause-shares g c =
    let is = set-seen c.set.view_is c.requires.contents.1 in
    let F = form_at c.args.heap.now in
    let G = form_at c.hold.new.self in
    let code = g.T.Element.code_of in
    let itself = shares-itself g.T.Ord.cmp (code_by code c.set.inside.bits) F G (forms-kept c.args.heap.now c.hold.new.self c.hold.ensures.extends) (code_by code c.set.inside.bits c.args.key) LEVELS 0 c.set.inside.root c.requires.contents.0 is.rooted.trie.trie in
    subst (λ (r : Root). SharesBeside F G (code_by code c.args.set.bits c.args.key) LEVELS 0 c.args.set.root r.root) (sym c.from_root.ensures)
    (subst (λ (r : Root). SharesBeside F G (code_by code r.bits c.args.key) LEVELS 0 r.root c.set.inside.root) c.set.view_is itself)

pub returns-clause-shares : goal.returns-clause-shares
returns-clause-shares g c =
    let is = set-seen c.set.view_is c.requires.contents.1 in
    let E = c.requires.contents.0 in
    let F = form_at c.args.heap.now in
    let G = form_at c.added-root.new.heap in
    let code = g.T.Element.code_of in
    let more = Extends-trans (Extends-Unchanged c.reserve.ensures.rest) c.cell-cell.ensures.extends in
    let there = c.added-root.ensures.shares E c.args.key (trie-here g c E is) (key-here g c E is) in
    let before = shares-before g.T.Ord.cmp (code_by code c.set.inside.bits) (form_at c.cell-cell.new.self) F G (forms-kept c.args.heap.now c.cell-cell.new.self more) (code_by code c.set.inside.bits c.args.key) LEVELS 0 c.set.inside.root c.added-root.result E is.rooted.trie.trie there in
    subst (λ (r : Root). SharesBeside F G (code_by code c.args.set.bits c.args.key) LEVELS 0 c.args.set.root r.root) (sym c.from_root-2.ensures)
    (subst (λ (r : Root). SharesBeside F G (code_by code r.bits c.args.key) LEVELS 0 r.root c.added-root.result) c.set.view_is before)

pub returns-then-is_err-clause-handed_back : goal.returns-then-is_err-clause-handed_back
returns-then-is_err-clause-handed_back g c = (refl, at-err c.reserve.result (sym c.is_err.ensures.value ∙ c.if-is_err.true) c.reserve.ensures.refused)

pub returns-then-is_some-clause-spares : goal.returns-then-is_some-clause-spares
returns-then-is_some-clause-spares g c = λ E here. KeepsToNeed-Builds 1 _ (Builds-hold c.hold.ensures.holds c.hold.ensures.makes c.hold.ensures.count c.hold.ensures.graph c.hold.ensures.extends)

pub returns-clause-spares : goal.returns-clause-spares
returns-clause-spares g c = λ E here.
    let is = set-seen c.set.view_is here in
    let bits = ap (λ (r : Root). alike_to g.T.Element.code_of r.bits c.args.key E) c.set.view_is in
    let counted = c.look_up-found.ensures.alike E is.rooted.trie in
    KeepsToNeed-more 1 _ (omega arith) (omega (arith, counted, bits))
    (Builds-KeepsToNeed (at-ok c.reserve.result (sym c.is_err.ensures.value ∙ c.if-is_err.false) c.reserve.ensures.greater) c.reserve.ensures.rest (all-rows g c E is))
