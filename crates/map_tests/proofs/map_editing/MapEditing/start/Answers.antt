use Rattle.std.proofs.Common.{List, [], ◌∷◌, ◌++◌, refl, ap, sym, subst, ◌∙◌, arith}
use Rattle.champ_kinds.specs.Root.{Root}
use Rattle.std.specs.Prelude.{sum}
use Rattle.std.proofs.lemmas.Result.{IfOk-at_ok}
use Rattle.node_heap.proofs.Counts.{test_same}
use Rattle.map_tests.specs.Stands.{AreHeld}
use Rattle.map_tests.proofs.HeldLemmas.{first-made, are-front}
use Rattle.map_tests.proofs.map_editing.MapEditing.start.Goals as goal

pub opened-edit-requires-clause-cells : goal.opened-edit-requires-clause-cells
opened-edit-requires-clause-cells g c = IfOk-at_ok _ c.expect-map.ensures c.no_cells.ensures.good

pub opened-edit-requires-clause-held : goal.opened-edit-requires-clause-held
opened-edit-requires-clause-held g c =
    let root = c.expect-map.result.root in
    omega (arith, (IfOk-at_ok _ c.expect-map.ensures c.no_cells.ensures.holds) root, test_same root root refl)

pub invariant_of-result : goal.invariant_of-result
invariant_of-result g c =
    let made = c.no_cells.ensures in
    let map = c.expect-map.result in
    let first = first-made g.T.Ord.cmp g.T.Element.code_of c.new-heap.result c.no_cells.new.heap map (IfOk-at_ok _ c.expect-map.ensures made.good) (ap sum c.new-heap.ensures.holds) (IfOk-at_ok _ c.expect-map.ensures made.holds) (IfOk-at_ok _ c.expect-map.ensures made.count) in
    let did = c.opened-edit.ensures in
    let both = are-front g.T.Ord.cmp g.T.Element.code_of c.no_cells.new.heap c.opened-edit.new.heap (map ∷ []) c.opened-edit.result did.cells did.others did.holds did.count first in
    let list = (rw c.expect.ensures at c.push.ensures.items) ∙ ap (λ (ms : List Root). ms ++ map ∷ []) c.new-maps.ensures.items in
    subst (λ ms. AreHeld g.T.Ord.cmp g.T.Element.code_of c.opened-edit.new.heap (c.opened-edit.result ∷ ms)) (sym list) both
