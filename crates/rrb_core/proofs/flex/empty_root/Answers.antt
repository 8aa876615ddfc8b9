use Rattle.std.proofs.Common.{arith, []}
use Rattle.node_heap.specs.Heap.{form_at}
use Rattle.rrb_core.proofs.FillRule.{height-is}
use Rattle.rrb_core.proofs.RowLists.{good-row}
use Rattle.rrb_core.proofs.flex.empty_root.Goals as goal

pub returns-clause-vector : goal.returns-clause-vector
returns-clause-vector g c = good-row c.leaf_over.new.heap 0 c.leaf_over.result [] c.leaf_over.ensures.row (omega arith) (λ some. absurd (omega (arith, some))) (omega arith)

pub returns-clause-flat : goal.returns-clause-flat
returns-clause-flat g c = height-is (form_at c.leaf_over.new.heap) 0 c.leaf_over.result c.leaf_over.ensures.row.well
