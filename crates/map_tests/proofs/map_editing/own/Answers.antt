use Rattle.std.proofs.Common.{arith}
use Rattle.std.proofs.lemmas.Result.{IfOk-at_ok}
use Rattle.node_heap.proofs.EditLaws.{owned-live}
use Rattle.map_tests.proofs.HeldLemmas.{owns-edited, edits-edited}
use Rattle.map_tests.proofs.map_editing.own.Goals as goal

pub owners-requires : goal.owners-requires
owners-requires g c =
    let M = c.requires.cells in
    let did = rw c.in-Some.is at (IfOk-at_ok _ c.expect.ensures (c.own_value.ensures.owns M.0 M.1.map)) in
    owned-live c.own_value.new.heap did.edits.trades.graph c.in-Some.pair (omega (arith, did.sole))

pub is_second-requires : goal.is_second-requires
is_second-requires g c =
    let M = c.requires.cells in
    let did = rw c.in-Some.is at (IfOk-at_ok _ c.expect.ensures (c.own_value.ensures.owns M.0 M.1.map)) in
    record { live = owned-live c.own_value.new.heap did.edits.trades.graph c.in-Some.pair (omega (arith, did.sole)) }

pub returns : goal.returns
returns g c =
    let M = c.requires.cells in
    let did = rw c.in-Some.is at (IfOk-at_ok _ c.expect.ensures (c.own_value.ensures.owns M.0 M.1.map)) in
    edits-edited g.T.Ord.cmp g.T.Element.code_of c.args.heap.now c.own_value.new.heap c.args.edit.now c.own_value.new.self
    (owns-edited g.T.Ord.cmp g.T.Element.code_of c.args.heap.now c.own_value.new.heap c.args.edit.now c.own_value.new.self (g.P.Probe.stands_for c.args.key.now) c.gone-before.ensures M c.own_value.ensures.bits c.edits_keep_values.ensures.edits c.in-Some.pair c.requires.held did)
