use Rattle.std.proofs.Common.{ℕ, arith}
use Rattle.node_heap.proofs.Frames.{Extends-trans}
use Rattle.map_tests.proofs.StandLemmas.{cell-maps-stay, row-cell}
use Rattle.map_tests.proofs.HeldLemmas.{rise, both-held, puts-edited, cell-edited, some-held, gives-up}
use Rattle.map_tests.proofs.map_editing.put.Goals as goal

pub insert-requires-clause-contents : goal.insert-requires-clause-contents
insert-requires-clause-contents g c =
    let old = c.cell-value.new.self in
    let before = Extends-trans {new = old} c.reserve.ensures.extends c.cell-value.ensures.extends in
    let M = cell-maps-stay before g.T.Ord.cmp g.T.Element.code_of c.args.edit.now c.requires.cells in
    (M.0, M.1.map)

pub came_back-requires : goal.came_back-requires
came_back-requires g c =
    let old = c.cell-value.new.self in
    let before = Extends-trans {new = old} c.reserve.ensures.extends c.cell-value.ensures.extends in
    let M = cell-maps-stay before g.T.Ord.cmp g.T.Element.code_of c.args.edit.now c.requires.cells in
    let more = λ (k : ℕ). rise c.args.heap.now c.reserve.new.self old c.cell-value.result _ c.reserve.ensures.rest c.cell-value.ensures.adds k in
    let held = both-held c.args.heap.now old c.args.edit.now c.cell-value.result c.requires.held more in
    let cell = row-cell old c.cell-value.result _ c.cell-value.ensures.adds.here in
    let puts = puts-edited g.T.Ord.cmp g.T.Element.code_of old c.insert.new.heap c.args.edit.now c.insert.new.self c.args.key c.cell-value.ensures.graph M c.insert.ensures.bits c.edits_keep_values.ensures.edits c.cell-value.result c.in-Ok.given held cell (c.in-Ok.ensures.puts M.0 M.1.map) in
    let did = cell-edited g.T.Ord.cmp g.T.Element.code_of c.args.heap.now old c.insert.new.heap c.args.edit.now c.insert.new.self c.cell-value.result _ before more (omega (arith, c.cell-value.ensures.count, c.reserve.ensures.rest.count)) puts in
    record { held = some-held g.T.Ord.cmp g.T.Element.code_of c.args.heap.now c.insert.new.heap c.args.edit.now c.insert.new.self c.in-Ok.given c.requires.held did }

pub returns : goal.returns
returns g c =
    let old = c.cell-value.new.self in
    let before = Extends-trans {new = old} c.reserve.ensures.extends c.cell-value.ensures.extends in
    let M = cell-maps-stay before g.T.Ord.cmp g.T.Element.code_of c.args.edit.now c.requires.cells in
    let more = λ (k : ℕ). rise c.args.heap.now c.reserve.new.self old c.cell-value.result _ c.reserve.ensures.rest c.cell-value.ensures.adds k in
    let held = both-held c.args.heap.now old c.args.edit.now c.cell-value.result c.requires.held more in
    let cell = row-cell old c.cell-value.result _ c.cell-value.ensures.adds.here in
    let puts = puts-edited g.T.Ord.cmp g.T.Element.code_of old c.insert.new.heap c.args.edit.now c.insert.new.self c.args.key c.cell-value.ensures.graph M c.insert.ensures.bits c.edits_keep_values.ensures.edits c.cell-value.result c.in-Ok.given held cell (c.in-Ok.ensures.puts M.0 M.1.map) in
    let did = cell-edited g.T.Ord.cmp g.T.Element.code_of c.args.heap.now old c.insert.new.heap c.args.edit.now c.insert.new.self c.cell-value.result _ before more (omega (arith, c.cell-value.ensures.count, c.reserve.ensures.rest.count)) puts in
    gives-up g.T.Ord.cmp g.T.Element.code_of c.args.heap.now c.insert.new.heap c.came_back.new.heap c.args.edit.now c.insert.new.self c.in-Ok.given c.requires.held did c.came_back.ensures
