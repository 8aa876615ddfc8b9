-- How links are dropped where a link that is common to so many pairs has so many owners more than are stored, and twice as many places.
use Rattle.std.proofs.Common.{◌≡◌, ℕ, ◌+◌, ◌*◌, ◌-◌, ◌^◌, ◌<◌, ◌≤◌, List, ◌∷◌, sym, subst, ◌∙◌, arith, refl, Option, IsSome}
use Rattle.node_heap.specs.Layout.{Slot, owners_in, rows_of_slots, slot_at, places_at, SetsOwners, IsDying}
use Rattle.node_heap.specs.Pairs.{more}
use Rattle.node_heap.proofs.Counts.{count-cons, test_same}
use Rattle.node_heap.proofs.Slots.{live-owned}
use Rattle.node_heap.proofs.Dying.{IsDying-last, IsDying-not_last, off_list, first_owned}
use Rattle.node_heap.proofs.MoreOwners.{live-more, owners-more, rows-more, places-more, sets-more}

module _ {T : Type 0} (H C : ℕ → ℕ) (slots : List (Option (Slot T))) (first k : ℕ) (pend : List ℕ) (few : 2 * C k ≤ places_at slots k) (d : IsDying H (more C 0 slots) first (k ∷ pend)) where
  -- the first link to be dropped has a row, and an owner that is stored
  pub dropped-live : IsSome (slot_at slots k)
  dropped-live = live-more C slots k (live-owned (slot_at (more C 0 slots) k) (first_owned H (more C 0 slots) first k pend d))

  pub dropped-stored : 1 + C k ≤ owners_in (slot_at slots k)
  dropped-stored =
      omega (arith, few, d.counted k (off_list H (more C 0 slots) first k pend d), places-more C slots k, owners-more C slots k dropped-live, count-cons k k pend, test_same k k refl)

  module _ (new : List (Option (Slot T))) (rows : rows_of_slots new ≡ rows_of_slots slots) where
    all-rows : rows_of_slots (more C 0 new) ≡ rows_of_slots (more C 0 slots)
    all-rows = rows-more C new ∙ rows ∙ sym (rows-more C slots)

    pub dropped-last : owners_in (slot_at slots k) ≡ 1 → SetsOwners slots new k first → k < 2 ^ 64 - 1 → IsDying H (more C 0 new) k pend
    dropped-last one sets low =
        let none : C k ≡ 0 = omega (arith, one, dropped-stored) in
        let owners : owners_in (slot_at (more C 0 slots) k) ≡ 1 = omega (arith, one, none, owners-more C slots k dropped-live) in
        let sets' : SetsOwners (more C 0 slots) (more C 0 new) k first = subst (λ n. SetsOwners (more C 0 slots) (more C 0 new) k n) (omega (arith, none)) (sets-more C C slots new k first (λ l. refl) sets) in
        IsDying-last H (more C 0 slots) (more C 0 new) first k pend owners sets' all-rows low d

    pub dropped-more : (n : ℕ) → owners_in (slot_at slots k) ≡ n + 1 → 0 < n → SetsOwners slots new k n → IsDying H (more C 0 new) first pend
    dropped-more n were some sets =
        IsDying-not_last H (more C 0 slots) (more C 0 new) first k (n + C k) pend (omega (arith, were, owners-more C slots k dropped-live)) (omega (arith, some)) (sets-more C C slots new k n (λ l. refl) sets) all-rows d
