use Rattle.std.proofs.Common.{List, length, ◌+◌}
use Rattle.node_heap.specs.Heap.{form_at, row_limit}
use Rattle.champ_chain.specs.Entry.{Entry}
use Rattle.set_merge.specs.Need.{run_rows}
use Rattle.set_merge.specs.Walk.{IsRisingRun}
use Rattle.set_merge.proofs.MeetingLemmas.{Meets}
use Rattle.set_merge.proofs.runs.meeting_of.Given as goal

abbrev pub decreases-loop-right : goal.decreases-loop-right
decreases-loop-right g l = length (run_rows row_limit (form_at l.heap) l.left) + length (run_rows row_limit (form_at l.heap) l.right)

abbrev pub invariant-loop-right : goal.invariant-loop-right
invariant-loop-right g l =
    (es ds : List (Entry g.row.T.Denot)) → IsRisingRun (form_at l.heap) g.T.Ord.cmp l.fn.a es → IsRisingRun (form_at l.heap) g.T.Ord.cmp l.fn.b ds
    → Meets (form_at l.heap) g.T.Ord.cmp g.met.T.Ord.total row_limit es ds (run_rows row_limit (form_at l.heap) l.fn.a) (run_rows row_limit (form_at l.heap) l.fn.b) l.left l.right l.first l.second
