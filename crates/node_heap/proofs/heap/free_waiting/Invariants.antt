use Rattle.std.proofs.Common.{◌≡◌, ℕ, ◌+◌, ◌≤◌, []}
use Rattle.node_heap.specs.Layout.{IsDying, IsLow, Thins, cells_in, nodes_in, filled_count}
use Rattle.node_heap.proofs.heap.free_waiting.Given as goal

abbrev pub invariant-loop-next : goal.invariant-loop-next
invariant-loop-next g l = record {
  dying : (H : ℕ → ℕ) → IsDying H l.fn.table.slots l.fn.first [] → IsDying H l.table.slots l.next [];
  low : IsLow l.table.slots;
  rows : Thins l.fn.table.slots l.table.slots;
  cells : l.table.spare_cells + cells_in l.table.slots ≡ l.fn.table.spare_cells + cells_in l.fn.table.slots;
  nodes : l.table.spare_nodes + nodes_in l.table.slots ≡ l.fn.table.spare_nodes + nodes_in l.fn.table.slots;
  more_cells : l.fn.table.spare_cells ≤ l.table.spare_cells;
  more_nodes : l.fn.table.spare_nodes ≤ l.table.spare_nodes;
  len : filled_count l.table.slots + (l.table.spare_cells + l.table.spare_nodes) ≡ filled_count l.fn.table.slots + (l.fn.table.spare_cells + l.fn.table.spare_nodes);
}

abbrev pub decreases-loop-next : goal.decreases-loop-next
decreases-loop-next g l = filled_count l.table.slots
