use Rattle.std.proofs.Common.{List, length, drop, ◌≤◌}
use Rattle.node_heap.specs.Heap.{form_at}
use Rattle.champ_chain.specs.Entry.{Entry}
use Rattle.set_merge.specs.Walk.{IsRun}
use Rattle.set_merge.proofs.runs.run_after.Given as goal

abbrev pub invariant-loop-passed : goal.invariant-loop-passed
invariant-loop-passed g l = (es : List (Entry g.row.T.Denot)) → IsRun (form_at l.heap) l.fn.run es → l.number ≤ length es → IsRun (form_at l.heap) l.left (drop l._passed es)
