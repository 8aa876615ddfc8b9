use Rattle.std.proofs.Common.{[], ap, length, ◌∙◌}
use Rattle.rrb_core.specs.Vector.{elements}
use Rattle.rrb_core.proofs.Lists.{empty-list}
use Rattle.state_rows.proofs.Edited.{emptied-keeps, emptied-history, vector-many}
use Rattle.state_rows.proofs.Room.{room-made, room-freed, room-then}
use Rattle.state_rows.proofs.histories.emptied.Goals as goal

pub returns-clause-keeps : goal.returns-clause-keeps
returns-clause-keeps c = emptied-keeps c.args.history c.empty_history-empty.ensures.answered c.release.ensures.keeps c.rows_form_a_graph.ensures c.release.ensures.releases.holds

pub returns-clause-spares : goal.returns-clause-spares
returns-clause-spares c = room-then (room-made c.empty_history-empty.ensures.makes) (room-freed c.release.ensures.releases)

pub returns-clause-history : goal.returns-clause-history
returns-clause-history c = λ bits. emptied-history c.args.history c.empty_history-empty.ensures.answered c.release.ensures.keeps bits [] c.requires.held (c.empty_history-empty.ensures.history bits)

pub returns-clause-same : goal.returns-clause-same
returns-clause-same c = λ bits history.
    let none = empty-list (elements c.args.heap.now c.view.result) (ap (λ l. length (elements c.args.heap.now l)) c.view.ensures ∙ vector-many history) in
    let yes = c.is_empty.ensures.1 none in
    let no = c.if-is_empty.false in
    absurd cc
