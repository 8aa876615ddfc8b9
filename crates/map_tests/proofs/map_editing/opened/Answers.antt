use Rattle.map_tests.specs.Stands.{IsCellMap}
use Rattle.std.proofs.Common.{sym, subst}
use Rattle.champ_kinds.proofs.StayLemmas.{map-live}
use Rattle.map_tests.proofs.StandLemmas.{cell-maps-stay}
use Rattle.map_tests.proofs.HeldLemmas.{same-root, map-opened}
use Rattle.map_tests.proofs.map_editing.opened.Goals as goal

pub hold-requires-clause-live : goal.hold-requires-clause-live
hold-requires-clause-live g c = map-live c.args.heap.now c.args.map c.root.result c.root.ensures c.requires.cells.1.map

pub open-requires-clause-contents : goal.open-requires-clause-contents
open-requires-clause-contents g c =
    let same = same-root c.from_root.result c.args.map c.root-2.result c.bits.result c.from_root.ensures c.root-2.ensures c.bits.ensures in
    let M = subst (IsCellMap g.T.Ord.cmp g.T.Element.code_of c.hold.new.self) (sym same) (cell-maps-stay c.hold.ensures.extends g.T.Ord.cmp g.T.Element.code_of c.args.map c.requires.cells) in
    (M.0, M.1.map)

pub returns-clause-cells : goal.returns-clause-cells
returns-clause-cells g c =
    let same = same-root c.from_root.result c.args.map c.root-2.result c.bits.result c.from_root.ensures c.root-2.ensures c.bits.ensures in
    let holds = rw c.root.ensures at c.hold.ensures.holds in
    (map-opened g.T.Ord.cmp g.T.Element.code_of c.args.heap.now c.hold.new.self c.open.new.heap c.args.map c.from_root.result c.in-Ok.edit _ _ same c.requires.cells c.requires.held c.hold.ensures.extends holds c.hold.ensures.count c.in-Ok.ensures.contents c.in-Ok.ensures.edits).cells

pub returns-clause-others : goal.returns-clause-others
returns-clause-others g c =
    let same = same-root c.from_root.result c.args.map c.root-2.result c.bits.result c.from_root.ensures c.root-2.ensures c.bits.ensures in
    let holds = rw c.root.ensures at c.hold.ensures.holds in
    (map-opened g.T.Ord.cmp g.T.Element.code_of c.args.heap.now c.hold.new.self c.open.new.heap c.args.map c.from_root.result c.in-Ok.edit _ _ same c.requires.cells c.requires.held c.hold.ensures.extends holds c.hold.ensures.count c.in-Ok.ensures.contents c.in-Ok.ensures.edits).others

pub returns-clause-holds : goal.returns-clause-holds
returns-clause-holds g c =
    let same = same-root c.from_root.result c.args.map c.root-2.result c.bits.result c.from_root.ensures c.root-2.ensures c.bits.ensures in
    let holds = rw c.root.ensures at c.hold.ensures.holds in
    (map-opened g.T.Ord.cmp g.T.Element.code_of c.args.heap.now c.hold.new.self c.open.new.heap c.args.map c.from_root.result c.in-Ok.edit _ _ same c.requires.cells c.requires.held c.hold.ensures.extends holds c.hold.ensures.count c.in-Ok.ensures.contents c.in-Ok.ensures.edits).holds
