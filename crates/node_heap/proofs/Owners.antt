-- How the owners of each link change.
use Rattle.std.proofs.Common.{◌≡◌, ℕ, ◌+◌, ◌<◌, List, refl, arith, Option, None, IsSome}
use Rattle.std.specs.Prelude.{◌↔◌, sum_by}
use Rattle.node_heap.specs.Links.{count}
use Rattle.node_heap.specs.Forms.{links_of}
use Rattle.node_heap.specs.Heap.{Heap, row_at, holds_at, owners_at, one_at}
use Rattle.node_heap.specs.Calls.{SameRows, KeepsOwners, AddsOwner, Unchanged}
use Rattle.node_heap.specs.Layout.{slot_at, IsCounted, seen}
use Rattle.node_heap.specs.Layout.{Slot}
use Rattle.node_heap.proofs.Counts.{sum_by-same}
use Rattle.node_heap.proofs.Slots.{row_at-slots, owners_at-slots, live-owned}
use Rattle.node_heap.proofs.Stored.{live_slot, live_row}

module _ {T : Type 0} where
  places-same : (old new : Heap T) → SameRows old new → (k : ℕ) → sum_by (λ r. count k (links_of r)) new.rows ≡ sum_by (λ r. count k (links_of r)) old.rows
  places-same old new rows k = sum_by-same (λ r. count k (links_of r)) None refl old.rows new.rows rows

  pub KeepsOwners-Unchanged : (old new : Heap T) → Unchanged old new → KeepsOwners old new
  KeepsOwners-Unchanged old new same k = omega (arith, same.holds k, places-same old new same.rows k)

  -- the rows are the same, and the link is held once more
  pub AddsOwner-rows : (old new : Heap T) (link : ℕ) → SameRows old new → ((k : ℕ) → holds_at new k ≡ holds_at old k + one_at link k) → AddsOwner old new link
  AddsOwner-rows old new link rows holds k = omega (arith, holds k, places-same old new rows k)

  -- a link names a row exactly where it has an owner
  pub live-owners : (slots : List (Option (Slot T))) (a b m : ℕ) → IsCounted slots → (l : ℕ) → IsSome (row_at (seen slots a b m) l) ↔ (0 < owners_at (seen slots a b m) l)
  live-owners slots a b m counted l = (
    λ live. omega (arith, owners_at-slots slots counted l, counted.owned l (live_slot (slot_at slots l) (rw (← row_at-slots slots l) live))),
    λ some. rw (row_at-slots slots l) (live_row (slot_at slots l) (live-owned (slot_at slots l) (omega (arith, owners_at-slots slots counted l, some)))),
  )
