-- What is known of a row once a copy of it was made, where it has an owner that is no place.
use Rattle.std.proofs.Common.{◌≡◌, ◌≢◌, ℕ, ◌+◌, ◌-◌, ◌^◌, ◌<◌, List, length, get_or, set, subst, sym, ap, refl, ◌∙◌, arith, Option, Some, None, IsSome, cond, eqb, inl, inr}
use Rattle.std.proofs.lemmas.Bool.{cases_eq}
use Rattle.std.proofs.lemmas.Bool.Decides.{nat_tests}
use Rattle.std.proofs.lemmas.List.Sums.{sum_by-set, count_by-le-length}
use Rattle.node_heap.specs.Links.{count}
use Rattle.node_heap.specs.Forms.{links_of, head_of}
use Rattle.node_heap.specs.Heap.{Heap, links_at, one_at}
use Rattle.node_heap.specs.Layout.{Slot, row_of_slot, owners_in, slot_at, places_at, graph_of, IsCounted, IsHeap, Copies, Rewrites, SetsOwners, seen}
use Rattle.node_heap.proofs.Slots.{live-owned, placed, places_at-apart}
use Rattle.node_heap.proofs.Stored.{row-seen}
use Rattle.node_heap.proofs.Edited.{count-at}
use Rattle.node_heap.proofs.Copied.{copy-apart, places-copied, self-unlinked}
use Rattle.node_heap.proofs.Owned.{owners-room}

module _ {T : Type 0} {old mid : List (Option (Slot T))} {place key owners : ℕ} (counted : IsCounted old) (copies : Copies old mid place key) (read : owners ≡ owners_in (slot_at old place)) (free : places_at old place < owners_in (slot_at old place)) where
  drop-apart : place ≢ key
  drop-apart = copy-apart copies place (live-owned (slot_at old place) (omega (arith, free)))

  pub drop-owners : owners_in (slot_at mid place) ≡ owners
  drop-owners = omega (arith, copies.owners place drop-apart, self-unlinked old place counted, read)

  pub drop-more : places_at mid place < owners_in (slot_at mid place)
  drop-more = omega (arith, drop-owners, read, places-copied old mid place key copies place, self-unlinked old place counted, free)

  pub drop-live : IsSome (slot_at mid place)
  drop-live = live-owned (slot_at mid place) (omega (arith, drop-more))

  pub drop-sets : {new : List (Option (Slot T))} → SetsOwners mid new place (owners_in (slot_at mid place) - 1) → SetsOwners mid new place (owners - 1)
  drop-sets {new} sets = subst (λ n. SetsOwners mid new place (n - 1)) drop-owners sets

module _ {T : Type 0} where
  -- a copy leaves room for each row's owners
  pub room-copied : {old mid : List (Option (Slot T))} {place key a b n : ℕ} → IsHeap old a b n → Copies old mid place key → (l : ℕ) → owners_in (slot_at mid l) < 2 ^ 64
  room-copied {old} {mid} {place} {key} stored copies l = elim (cases_eq l key) as (λ _. owners_in (slot_at mid l) < 2 ^ 64) [
    | inl same ↦ omega (arith, ap (λ j. owners_in (slot_at mid j)) same, copies.one)
    | inr other ↦ omega (arith, copies.owners l other, owners-room stored l, count_by-le-length (λ k. eqb k l) (links_of (graph_of old place)), stored.counted.short place)
  ]

  -- a copied child whose place was given to the copy has an owner that is no place
  pub drop-child : {old mid wrote : List (Option (Slot T))} {place index child key a b m parent : ℕ} {heap : Heap T} → IsCounted old → seen old a b m ≡ heap → place ≡ parent → Copies old mid child key
      → Rewrites mid wrote place (head_of (graph_of mid place)) (set (links_of (graph_of mid place)) index key) → index < length (links_at heap parent) → child ≡ get_or (links_at heap parent) index 0
      → (places_at wrote child < owners_in (slot_at wrote child)) × (owners_in (slot_at wrote child) ≡ owners_in (slot_at old child)) × IsSome (slot_at wrote child)
  drop-child {old} {mid} {wrote} {place} {index} {child} {key} counted heap_is parent_is copies wrote_is inside child_is =
      let row = row-seen counted heap_is parent_is in
      let within : index < length (links_of (graph_of old place)) = omega (arith, inside, ap (λ r. length (links_of r)) row) in
      let at : child ≡ get_or (links_of (graph_of old place)) index 0 = child_is ∙ ap (λ r. get_or (links_of r) index 0) row in
      let linked : 0 < count child (links_of (graph_of old place)) = count-at (links_of (graph_of old place)) index child within (sym at) in
      let owned = placed old place child linked in
      let child_live : IsSome (slot_at old child) = live-owned (slot_at old child) (omega (arith, owned, counted.places child)) in
      let place_live : IsSome (slot_at old place) = live-linking (slot_at old place) child linked in
      let off : child ≢ place = λ same. absurd (omega (arith, self-unlinked old place counted, ap (λ j. count j (links_of (graph_of old place))) same, linked)) in
      let away : child ≢ key = copy-apart copies child child_live in
      let mid_row : graph_of mid place ≡ graph_of old place = copies.others place (copy-apart copies place place_live) in
      let same_owners : owners_in (slot_at wrote child) ≡ owners_in (slot_at old child) =
      omega (arith, ap owners_in (wrote_is.others child off), copies.owners child away, self-unlinked old child counted) in
      let sums = places_at-apart mid wrote place wrote_is.others child in
      let turned = sum_by-set (λ k. cond (eqb k child) 1 0) (links_of (graph_of old place)) index key 0 within in
      let fewer : places_at wrote child + 1 ≡ places_at old child =
      omega (
        arith,
        sums,
        ap (count child) wrote_is.new_links,
        ap (λ r. count child (set (links_of r) index key)) mid_row,
        ap (λ r. count child (links_of r)) mid_row,
        turned,
        one-here (get_or (links_of (graph_of old place)) index 0) child (sym at),
        none-here key child (λ e. away (sym e)),
        places-copied old mid child key copies child,
        self-unlinked old child counted,
      ) in
      (omega (arith, fewer, same_owners, counted.places child), same_owners, live-owned (slot_at wrote child) (omega (arith, same_owners, owned, counted.places child)))
    where
      live-linking : (s : Option (Slot T)) (k : ℕ) → 0 < count k (links_of (row_of_slot s)) → IsSome s
      live-linking None k some = absurd (omega (arith, some))
      live-linking (Some s) k some = refl

      one-here : (x k : ℕ) → x ≡ k → one_at x k ≡ 1
      one-here x k same = grind (arith, nat_tests, same)

      none-here : (x k : ℕ) → x ≢ k → one_at x k ≡ 0
      none-here x k other = grind (arith, nat_tests, other)
