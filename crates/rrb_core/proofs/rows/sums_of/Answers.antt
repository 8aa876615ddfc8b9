use Rattle.std.proofs.Common.{◌∙◌}
use Rattle.node_heap.specs.Heap.{row_at}
use Rattle.rrb_core.proofs.Stays.{sums-row}
use Rattle.rrb_core.proofs.rows.sums_of.Goals as goal

pub returns : goal.returns
returns g c = c.sums.ensures ∙ sums-row (row_at c.args.heap.now c.args.link)
