use Rattle.std.proofs.Common.{◌<◌, length, sym, subst, arith}
use Rattle.champ_kinds.specs.Root.{Root}
use Rattle.node_heap.specs.Heap.{holds_at}
use Rattle.map_tests.specs.Stands.{IsCellMap}
use Rattle.map_tests.proofs.HeldLemmas.{turn-is, turn-held}
use Rattle.map_tests.proofs.map_editing.kept_at.Goals as goal

pub returns-clause-cells : goal.returns-clause-cells
returns-clause-cells g c =
    let inside : c.args.turn < length c.args.maps.now.items = omega arith in
    subst (λ (r : Root). IsCellMap g.T.Ord.cmp g.T.Element.code_of c.args.heap.now r) (sym c.index.ensures) (turn-is g.T.Ord.cmp g.T.Element.code_of c.args.heap.now c.requires.0 c.args.maps.now.items c.args.turn c.index.result.now inside c.requires.1)

pub returns-clause-held : goal.returns-clause-held
returns-clause-held g c =
    let inside : c.args.turn < length c.args.maps.now.items = omega arith in
    subst (λ (r : Root). 0 < holds_at c.args.heap.now r.root) (sym c.index.ensures) (turn-held g.T.Ord.cmp g.T.Element.code_of c.args.heap.now c.requires.0 c.args.maps.now.items c.args.turn c.index.result.now inside c.requires.1)
