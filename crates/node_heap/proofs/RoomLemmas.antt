-- Room for what a call needs and for no more.
use Rattle.std.proofs.Common.{ℕ, ◌≤◌, List, arith}
use Rattle.node_heap.specs.Heap.{Heap}
use Rattle.node_heap.specs.Calls.{Releases, Unchanged, HasGreater, KeepsToNeed, Builds}

module _ {T : Type 0} where
  -- nothing is done
  pub KeepsToNeed-refl : (h : Heap T) (cells nodes : ℕ) → KeepsToNeed h h cells nodes
  KeepsToNeed-refl h cells nodes = record { few_cells = omega arith; few_nodes = omega arith }

  -- more may be needed
  pub KeepsToNeed-more : {old new : Heap T} {c n : ℕ} (cells nodes : ℕ) → c ≤ cells → n ≤ nodes → KeepsToNeed old new c n → KeepsToNeed old new cells nodes
  KeepsToNeed-more cells nodes more_cells more_nodes keeps = record { few_cells = omega (arith, more_cells, keeps.few_cells); few_nodes = omega (arith, more_nodes, keeps.few_nodes) }

  -- rows were made of what was spare
  pub KeepsToNeed-Builds : {old new : Heap T} {spent gained : List ℕ} {c n : ℕ} (cells nodes : ℕ) → Builds old new spent gained c n → KeepsToNeed old new cells nodes
  KeepsToNeed-Builds cells nodes b = record { few_cells = omega (arith, b.makes.spare_cells, b.makes.cells); few_nodes = omega (arith, b.makes.spare_nodes, b.makes.nodes) }

  -- rows became spares
  pub KeepsToNeed-Releases : {old new : Heap T} {link : ℕ} (cells nodes : ℕ) → Releases old new link → KeepsToNeed old new cells nodes
  KeepsToNeed-Releases cells nodes r = record { few_cells = omega (arith, r.cells); few_nodes = omega (arith, r.nodes) }

  -- then came a step that needs no room
  pub KeepsToNeed-then : {old mid new : Heap T} {cells nodes : ℕ} → KeepsToNeed old mid cells nodes → KeepsToNeed mid new 0 0 → KeepsToNeed old new cells nodes
  KeepsToNeed-then first second = record { few_cells = omega (arith, first.few_cells, second.few_cells); few_nodes = omega (arith, first.few_nodes, second.few_nodes) }

  -- room was made first
  pub KeepsToNeed-reserved : {old mid new : Heap T} {cells nodes c n : ℕ} → HasGreater old mid cells nodes → Unchanged old mid → c ≤ cells → n ≤ nodes → KeepsToNeed mid new c n → KeepsToNeed old new cells nodes
  KeepsToNeed-reserved room same more_cells more_nodes keeps = record {
    few_cells = omega (arith, room.spare_cells, same.cells, more_cells, keeps.few_cells);
    few_nodes = omega (arith, room.spare_nodes, same.nodes, more_nodes, keeps.few_nodes);
  }

  -- room was made first, and rows of it then
  pub Builds-KeepsToNeed : {old mid new : Heap T} {spent gained : List ℕ} {cells nodes c n : ℕ} → HasGreater old mid cells nodes → Unchanged old mid → Builds mid new spent gained c n → KeepsToNeed old new cells nodes
  Builds-KeepsToNeed room same b = KeepsToNeed-reserved room same (omega arith) (omega arith) (KeepsToNeed-Builds 0 0 b)
