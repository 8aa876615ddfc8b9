-- Calls that hoard no room.
use Rattle.std.proofs.Common.{ℕ, ◌≤◌, Result, Ok, Err, arith}
use Rattle.std.specs.Prelude.{IfOk, OnOk}
use Rattle.node_heap.specs.Heap.{Heap}
use Rattle.node_heap.specs.Calls.{HasGreater, KeepsToNeed, Unchanged}

module _ {T : Type 0} {old new : Heap T} where
  -- what was reserved was needed
  pub room-reserved : {c n : ℕ} → HasGreater old new c n → Unchanged old new → KeepsToNeed old new c n
  room-reserved more rest = record { few_cells = omega (arith, more.spare_cells, rest.cells); few_nodes = omega (arith, more.spare_nodes, rest.nodes) }

  -- and what was needed is so too where more is
  pub room-more : {c n : ℕ} (c' n' : ℕ) → c ≤ c' → n ≤ n' → KeepsToNeed old new c n → KeepsToNeed old new c' n'
  room-more c' n' cells nodes kept = record { few_cells = omega (arith, kept.few_cells, cells); few_nodes = omega (arith, kept.few_nodes, nodes) }

  -- where room may be refused
  pub room-reserves : {X E : Type 0} (c n : ℕ) (result : Result X E) → OnOk result (HasGreater old new c n) → Unchanged old new → IfOk result (λ _. KeepsToNeed old new c n)
  room-reserves c n (Ok x) more rest = room-reserved more rest
  room-reserves c n (Err fault) more rest = tt

-- nothing was done
pub room-same : {T : Type 0} (h : Heap T) → KeepsToNeed h h 0 0
room-same h = record { few_cells = omega arith; few_nodes = omega arith }
