-- Each row is reached from a held one.
use Rattle.std.proofs.Common.{◌≡◌, ℕ, zero, suc, ◌+◌, ◌<◌, ◌≤◌, List, [], ◌∷◌, length, get_or, refl, ap, arith, Option, Some, None, IsSome, inl, inr}
use Rattle.std.specs.Prelude.{sum_by}
use Rattle.std.proofs.lemmas.Bool.{cases_eq}
use Rattle.std.proofs.lemmas.List.Sums.{sum_by-cons}
use Rattle.node_heap.specs.Links.{count, HasLink, Reaches, here, LeadsDown}
use Rattle.node_heap.specs.Forms.{links_of, links_in}
use Rattle.node_heap.specs.Layout.{row_of_slot, owners_in, rows_of_slots, slot_at, places_at, graph_of, IsCounted}
use Rattle.node_heap.specs.Layout.{Slot}
use Rattle.node_heap.proofs.Slots.{row_at-slots}
use Rattle.node_heap.proofs.Reach.{Reaches-then}

-- a sum that is not 0 has a term that is not
pub sum_by-found : {X : Type 0} (f : X → ℕ) (d : X) (xs : List X) → 0 < sum_by f xs → (k : ℕ) × (0 < f (get_or xs k d))
sum_by-found f d [] h = absurd (omega arith)
sum_by-found f d (x ∷ xs) h = by_first (f x) refl (sum_by-found f d xs)
  where
    by_first : (n : ℕ) → f x ≡ n → (0 < sum_by f xs → (k : ℕ) × (0 < f (get_or xs k d))) → (k : ℕ) × (0 < f (get_or (x ∷ xs) k d))
    by_first (suc n) e rest = (0, omega (arith, e))
    by_first zero e rest =
        let later = rest (omega (arith, e, sum_by-cons f x xs, h)) in
        (suc later.0, later.1)

abbrev pub bound : (ℕ → ℕ) → ℕ → ℕ
bound f zero = 0
bound f (suc n) = bound f n + f n

pub bound-le : (f : ℕ → ℕ) (n l : ℕ) → l < n → f l ≤ bound f n
bound-le f zero l h = absurd (omega arith)
bound-le f (suc n) l h = elim (cases_eq l n) as (λ _. f l ≤ bound f n + f n) [
  | inl same ↦ omega (arith, ap f same)
  | inr other ↦ omega (arith, bound-le f n l (omega (arith, h, other)))
]

module _ {T : Type 0} where
  within_slots : (slots : List (Option (Slot T))) (l : ℕ) → IsSome (slot_at slots l) → l < length slots
  within_slots [] l h = cc
  within_slots (o ∷ os) zero h = omega arith
  within_slots (o ∷ os) (suc l) h = omega (arith, within_slots os l h)

  has_row : (e : Option (Slot T)) (k : ℕ) → 0 < count k (links_of (row_of_slot e)) → IsSome e
  has_row None k h = absurd (omega arith)
  has_row (Some e) k h = refl

  parent : (slots : List (Option (Slot T))) (l : ℕ) → 0 < places_at slots l → (p : ℕ) × HasLink (links_in (graph_of slots)) p l × IsSome (slot_at slots p)
  parent slots l some =
      let found = sum_by-found (λ r. count l (links_of r)) None (rows_of_slots slots) some in
      let has : HasLink (links_in (graph_of slots)) found.0 l = omega (arith, ap (λ r. count l (links_of r)) (row_at-slots slots found.0), found.1) in
      (found.0, has, has_row (slot_at slots found.0) l has)

  abbrev IsUnder : List (Option (Slot T)) → ℕ → Type 0
  IsUnder slots l = (k : ℕ) × (places_at slots k < owners_in (slot_at slots k)) × Reaches (links_in (graph_of slots)) k l

  choose : (slots : List (Option (Slot T))) → IsCounted slots → (l : ℕ) → IsSome (slot_at slots l) → ((p : ℕ) → HasLink (links_in (graph_of slots)) p l → IsSome (slot_at slots p) → IsUnder slots l) → IsUnder slots l
  choose slots counted l live up = by_places (places_at slots l) refl
    where
      by_places : (n : ℕ) → places_at slots l ≡ n → IsUnder slots l
      by_places zero e = (l, omega (arith, e, counted.owned l live), here l)
      by_places (suc n) e = let p = parent slots l (omega (arith, e)) in up p.0 p.1 p.2

  -- up from a row to a held one
  climb : (slots : List (Option (Slot T))) → IsCounted slots → (rank : ℕ → ℕ) → LeadsDown rank (links_in (graph_of slots)) → (n l : ℕ) → IsSome (slot_at slots l) → bound rank (length slots) ≤ rank l + n → IsUnder slots l
  climb slots counted rank falls zero l live high =
      choose slots counted l live (λ p has there. absurd (omega (arith, falls p l has, high, bound-le rank (length slots) p (within_slots slots p there))))
  climb slots counted rank falls (suc n) l live high =
      choose slots counted l live
      (λ p has there.
      let up = climb slots counted rank falls n p there (omega (arith, falls p l has, high)) in
      (up.0, up.1, Reaches-then (links_in (graph_of slots)) up.0 p l up.2 has))

  pub under-held : (slots : List (Option (Slot T))) → IsCounted slots → (l : ℕ) → IsSome (slot_at slots l) → IsUnder slots l
  under-held slots counted l live = climb slots counted counted.rank counted.falls (bound counted.rank (length slots)) l live (omega arith)
