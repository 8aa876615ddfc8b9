use Rattle.std.proofs.Common.{ap, Ok, ◌∙◌}
use Rattle.std.proofs.lemmas.Result.{IfOk-at_ok}
use Rattle.map_tests.proofs.HeldLemmas.{cuts-answered, some-held, gives-up}
use Rattle.map_tests.proofs.map_editing.cut.Goals as goal

pub came_back-requires : goal.came_back-requires
came_back-requires g c =
    let M = c.requires.cells in
    let laws = c.edits_keep_values.ensures in
    let did =
    cuts-answered g.T.Ord.cmp g.T.Element.code_of laws.cuts laws.cuts_held c.args.heap.now c.remove.new.heap c.args.edit.now c.remove.new.self (g.P.Probe.stands_for c.args.key.now) c.expect-given.result c.live-live.ensures.graph M c.remove.ensures.bits c.requires.held
    (λ none. c.remove.ensures.nothing (c.expect-given.ensures ∙ ap Ok none)) (IfOk-at_ok _ c.expect-given.ensures (c.remove.ensures.cuts M.0 M.1.map)) in
    record { held = some-held g.T.Ord.cmp g.T.Element.code_of c.args.heap.now c.remove.new.heap c.args.edit.now c.remove.new.self c.expect-given.result c.requires.held did }

pub returns : goal.returns
returns g c =
    let M = c.requires.cells in
    let laws = c.edits_keep_values.ensures in
    let did =
    cuts-answered g.T.Ord.cmp g.T.Element.code_of laws.cuts laws.cuts_held c.args.heap.now c.remove.new.heap c.args.edit.now c.remove.new.self (g.P.Probe.stands_for c.args.key.now) c.expect-given.result c.live-live.ensures.graph M c.remove.ensures.bits c.requires.held
    (λ none. c.remove.ensures.nothing (c.expect-given.ensures ∙ ap Ok none)) (IfOk-at_ok _ c.expect-given.ensures (c.remove.ensures.cuts M.0 M.1.map)) in
    gives-up g.T.Ord.cmp g.T.Element.code_of c.args.heap.now c.remove.new.heap c.came_back.new.heap c.args.edit.now c.remove.new.self c.expect-given.result c.requires.held did c.came_back.ensures
