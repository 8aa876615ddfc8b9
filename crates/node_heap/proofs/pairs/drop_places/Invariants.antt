use Rattle.std.proofs.Common.{◌≡◌, ◌≤◌, ◌*◌, ℕ, drop}
use Rattle.node_heap.specs.Layout.{rows_of_slots, places_at, IsDying, IsLow, KeepsRoom}
use Rattle.node_heap.specs.Pairs.{more}
use Rattle.node_heap.proofs.pairs.drop_places.Given as goal

abbrev pub invariant-loop-link : goal.invariant-loop-link
invariant-loop-link g l = record {
  dying : (H C : ℕ → ℕ) → ((k : ℕ) → 2 * C k ≤ places_at l.fn.table.slots k) → IsDying H (more C 0 l.fn.table.slots) l.fn.first l.links → IsDying H (more C 0 l.table.slots) l.next (drop l.link-index l.links);
  low : IsLow l.table.slots;
  rows : rows_of_slots l.table.slots ≡ rows_of_slots l.fn.table.slots;
  room : KeepsRoom l.fn.table l.table;
}
