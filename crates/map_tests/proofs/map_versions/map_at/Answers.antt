use Rattle.std.proofs.Common.{◌<◌, length, sym, subst, arith}
use Rattle.champ_kinds.specs.Root.{Root}
use Rattle.map_tests.specs.Stands.{IsCellMap}
use Rattle.map_tests.proofs.map_versions.map_at.Goals as goal

pub returns-clause-cells : goal.returns-clause-cells
returns-clause-cells g c =
    let inside : c.args.turn < length c.args.maps.now.items = omega arith in
    subst (λ (r : Root). IsCellMap g.T.Ord.cmp g.T.Element.code_of c.args.heap.now r) (sym c.index.ensures) (c.requires.are c.args.turn c.index.result.now inside)

pub returns-clause-map : goal.returns-clause-map
returns-clause-map g c =
    let inside : c.args.turn < length c.args.maps.now.items = omega arith in
    let is = subst (λ (r : Root). IsCellMap g.T.Ord.cmp g.T.Element.code_of c.args.heap.now r) (sym c.index.ensures) (c.requires.are c.args.turn c.index.result.now inside) in
    (is.0, is.1.map)
