-- Calls that take no room, one after the other: what has the spares that it wants hoards none.
use Rattle.std.proofs.Common.{ℕ, arith}
use Rattle.node_heap.specs.Heap.{Heap, HasSpares}
use Rattle.node_heap.specs.Calls.{KeepsToNeed, Makes, Releases}

module _ {T : Type 0} {old new : Heap T} where
  -- where there are spares for what was needed
  pub room-spared : {c n : ℕ} → HasSpares old c n → KeepsToNeed old new c n → KeepsToNeed old new 0 0
  room-spared spares kept = record { few_cells = omega (arith, spares.0, kept.few_cells); few_nodes = omega (arith, spares.1, kept.few_nodes) }

  -- what is made of spares
  pub room-made : {c n : ℕ} → Makes old new c n → KeepsToNeed old new 0 0
  room-made makes = record { few_cells = omega (arith, makes.spare_cells, makes.cells); few_nodes = omega (arith, makes.spare_nodes, makes.nodes) }

  -- what is freed
  pub room-freed : {l : ℕ} → Releases old new l → KeepsToNeed old new 0 0
  room-freed rel = record { few_cells = omega (arith, rel.cells); few_nodes = omega (arith, rel.nodes) }

-- and so what is needed first is needed of both
pub room-then : {T : Type 0} {old mid new : Heap T} {c n : ℕ} → KeepsToNeed old mid c n → KeepsToNeed mid new 0 0 → KeepsToNeed old new c n
room-then first second = record { few_cells = omega (arith, first.few_cells, second.few_cells); few_nodes = omega (arith, first.few_nodes, second.few_nodes) }
