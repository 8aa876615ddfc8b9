use Rattle.std.proofs.Common.{◌≡◌, List, length, take, drop, ◌≤◌, Some}
use Rattle.node_heap.specs.Heap.{form_at}
use Rattle.champ_chain.specs.Entry.{Entry, key_at}
use Rattle.champ_chain.specs.Chain.{AreBelow}
use Rattle.set_merge.specs.Walk.{IsRun, IsRisingRun}
use Rattle.set_merge.proofs.runs.smaller_in.Given as goal

abbrev pub invariant-loop-passed : goal.invariant-loop-passed
invariant-loop-passed g l =
    (es : List (Entry g.row.T.Denot)) (k : g.row.T.Denot) → IsRisingRun (form_at l.heap) g.T.Ord.cmp l.fn.run es → key_at (form_at l.heap) l.entry ≡ Some k → l.number ≤ length es
    → IsRun (form_at l.heap) l.left (drop l.passed es) × AreBelow g.T.Ord.cmp k (take l.passed es)
