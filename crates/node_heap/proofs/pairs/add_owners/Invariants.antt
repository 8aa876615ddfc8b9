use Rattle.std.proofs.Common.{◌≡◌, ℕ, ◌+◌, drop}
use Rattle.node_heap.specs.Links.{count}
use Rattle.node_heap.specs.Layout.{rows_of_slots, slot_at, owners_in, KeepsRoom}
use Rattle.node_heap.proofs.pairs.add_owners.Given as goal

abbrev pub invariant-loop-child : goal.invariant-loop-child
invariant-loop-child g l = record {
  owners : (k : ℕ) → owners_in (slot_at l.table.slots k) + count k (drop l.child-index l.links) ≡ owners_in (slot_at l.fn.table.slots k) + count k l.links;
  rows : rows_of_slots l.table.slots ≡ rows_of_slots l.fn.table.slots;
  room : KeepsRoom l.fn.table l.table;
}
