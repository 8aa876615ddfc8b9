use Rattle.std.proofs.Common.{List, length, drop, ◌≤◌}
use Rattle.node_heap.specs.Heap.{form_at}
use Rattle.champ_chain.specs.Entry.{Entry}
use Rattle.champ_chain.specs.Chain.{AreChainRows}
use Rattle.champ_chain.proofs.rows.rows_from.Given as goal

abbrev pub invariant-loop-passed : goal.invariant-loop-passed
invariant-loop-passed g l = (es : List (Entry g.row.T.Denot)) → AreChainRows (form_at l.heap) l.fn.first es → AreChainRows (form_at l.heap) l.row (drop l.passed es) × (l.passed ≤ length es)
