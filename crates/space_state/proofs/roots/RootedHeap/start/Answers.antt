use Rattle.std.proofs.Common.{◌∙◌, ap, refl, arith}
use Rattle.std.specs.Prelude.{slice_index_or, sum}
use Rattle.space_state.proofs.Beginning.{starts}
use Rattle.space_state.proofs.Keeping.{room-made, room-begun}
use Rattle.space_state.proofs.roots.RootedHeap.start.Goals as goal

pub returns-clause-keeps : goal.returns-clause-keeps
returns-clause-keeps c =
    let rest = c.reserve.ensures.rest in
    rw (c.into_root-versions.ensures, c.into_root-undo.ensures, c.into_root-redo.ensures)
    (starts _ c.reserve.new.self c.empty_state-current.new.heap c.empty_versions.new.heap c.empty_history.new.heap refl c.requires (refl, omega arith, omega arith)
    (λ k. rest.holds k ∙ ap (λ hs. slice_index_or hs k 0) c.new-heap.ensures.holds) (rest.count ∙ ap sum c.new-heap.ensures.holds)
    c.empty_state-current.ensures.answered c.empty_versions.ensures.answered c.empty_history.ensures.answered c.empty_history-2.ensures.answered
    c.empty_state-current.ensures.state c.empty_versions.ensures.versions (c.empty_history.ensures.history c.args.bits) (c.empty_history-2.ensures.history c.args.bits))

pub returns-clause-room : goal.returns-clause-room
returns-clause-room c =
    let new = c.new-heap.ensures in
    room-made c.empty_history-2.ensures.makes ∙ room-made c.empty_history.ensures.makes ∙ room-made c.empty_versions.ensures.makes ∙ room-made c.empty_state-current.ensures.makes
    ∙ room-begun 0 6 new.rows new.spare_cells new.spare_nodes c.reserve.ensures.rest c.in_ok-reserve.ensures.greater
