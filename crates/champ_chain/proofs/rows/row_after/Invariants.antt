use Rattle.std.proofs.Common.{List, length, drop, ◌<◌, Some}
use Rattle.node_heap.specs.Heap.{form_at}
use Rattle.champ_chain.specs.Entry.{Entry}
use Rattle.champ_chain.specs.Chain.{AreChainRows}
use Rattle.champ_chain.proofs.rows.row_after.Given as goal

abbrev pub invariant-loop-passed : goal.invariant-loop-passed
invariant-loop-passed g l = (es : List (Entry g.row.T.Denot)) → AreChainRows (form_at l.heap) (Some l.fn.from) es → l.number < length es → AreChainRows (form_at l.heap) (Some l.row) (drop l._passed es)
