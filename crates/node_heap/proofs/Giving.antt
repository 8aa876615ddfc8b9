-- How a release goes on where a row gives up some of its links alone.
use Rattle.std.proofs.Common.{◌≡◌, ◌≢◌, ◌⊎◌, ℕ, ◌+◌, ◌-◌, ◌^◌, ◌<◌, List, [], ◌∷◌, get_or, refl, sym, ap, subst, ◌∙◌, arith, Option, None, IsSome, inl, inr}
use Rattle.std.specs.Prelude.{sum_by}
use Rattle.std.proofs.lemmas.Bool.{cases_eq}
use Rattle.node_heap.specs.Links.{count}
use Rattle.node_heap.specs.Forms.{Row, links_of}
use Rattle.node_heap.specs.Layout.{Slot, Table, row_of_slot, owners_in, rows_of_slots, slot_at, places_at, graph_of, IsLow, IsThreaded, IsDying, Thins}
use Rattle.node_heap.specs.Pairs.{GivesUp}
use Rattle.node_heap.proofs.Counts.{count-cons, test_same, test_other, sum_by-apart}
use Rattle.node_heap.proofs.Slots.{row_at-slots}
use Rattle.node_heap.proofs.Stored.{live_slot, live_row}

module _ {T : Type 0} where
  IsThreaded-owners : (old new : List (Option (Slot T))) (first : ℕ) (dead : List ℕ) → ((d : ℕ) → 0 < count d dead → owners_in (slot_at new d) ≡ owners_in (slot_at old d)) → IsThreaded old first dead → IsThreaded new first dead
  IsThreaded-owners old new first [] same p = p
  IsThreaded-owners old new first (d ∷ ds) same p =
      let rest = IsThreaded-owners old new (owners_in (slot_at old d)) ds (λ k some. same k (omega (arith, count-cons k d ds, some))) p.2 in
      (p.0, p.1, subst (λ n. IsThreaded new n ds) (sym (same d (omega (arith, count-cons d d ds, test_same d d refl)))) rest)

  -- the first row that waits has no place
  pub first_unplaced : (H : ℕ → ℕ) (slots : List (Option (Slot T))) (first : ℕ) → first ≢ 2 ^ 64 - 1 → IsDying H slots first [] → places_at slots first ≡ 0
  first_unplaced H slots first not_end d = step d.dead d.threaded d.waiting
    where
      step : (dead : List ℕ) → IsThreaded slots first dead → ((l : ℕ) → 0 < count l dead → (count l dead ≡ 1) × (H l + (places_at slots l + 0) ≡ 0) × IsSome (slot_at slots l)) → places_at slots first ≡ 0
      step [] threaded waiting = absurd (not_end threaded)
      step (x ∷ xs) threaded waiting = omega (arith, (waiting first (omega (arith, count-cons first x xs, test_same x first (sym threaded.0)))).1)

  module _ {old new : Table T} {first : ℕ} {links : List ℕ} (gives : GivesUp old new first links) where
    abbrev row : List ℕ
    row = links_of (graph_of old.slots first)

    rows-apart : (k : ℕ) → k ≢ first → get_or (rows_of_slots new.slots) k None ≡ get_or (rows_of_slots old.slots) k None
    rows-apart k other = row_at-slots new.slots k ∙ gives.rows k other ∙ sym (row_at-slots old.slots k)

    pub sum-given : (f : Option (Row T) → ℕ) → f None ≡ 0 → sum_by f (rows_of_slots new.slots) + f (graph_of old.slots first) ≡ sum_by f (rows_of_slots old.slots)
    sum-given f none =
        omega (
          arith,
          sum_by-apart f None none (rows_of_slots old.slots) (rows_of_slots new.slots) first rows-apart,
          ap f (row_at-slots old.slots first),
          ap f (row_at-slots new.slots first ∙ ap row_of_slot gives.gone),
          none,
        )

    moved : (l : ℕ) → places_at new.slots l + count l row ≡ places_at old.slots l
    moved l = sum-given (λ r. count l (links_of r)) refl

    was-there : (l : ℕ) → IsSome (slot_at new.slots l) → (l ≢ first) × IsSome (slot_at old.slots l)
    was-there l live = (away, live_slot _ (rw (← gives.rows l away) (live_row _ live)))
      where
        away : l ≢ first
        away same = absurd (let there : IsSome (slot_at new.slots first) = subst (λ j. IsSome (slot_at new.slots j)) same live in let gone : IsSome {T = Slot T} None = subst IsSome gives.gone there in cc)

    pub low-given : IsLow old.slots → IsLow new.slots
    low-given low l live = low l (was-there l live).1

    pub Thins-given : (start : List (Option (Slot T))) → Thins start old.slots → Thins start new.slots
    Thins-given start thins l = elim (cases_eq l first) as (λ _. (graph_of new.slots l ≡ None) ⊎ (graph_of new.slots l ≡ graph_of start l)) [
      | inl same ↦ inl (ap (graph_of new.slots) same ∙ ap row_of_slot gives.gone)
      | inr other ↦ elim (thins l) as (λ _. (graph_of new.slots l ≡ None) ⊎ (graph_of new.slots l ≡ graph_of start l)) [ inl gone ↦ inl (gives.rows l other ∙ gone) | inr kept ↦ inr (gives.rows l other ∙ kept) ]
    ]

    pub IsDying-given : (H : ℕ → ℕ) → first ≢ 2 ^ 64 - 1 → IsDying H old.slots first [] → IsDying H new.slots (owners_in (slot_at old.slots first)) links
    IsDying-given H not_end d = step d.dead d.threaded d.counted d.owned d.waiting
      where
        step : (dead : List ℕ) → IsThreaded old.slots first dead
            → ((l : ℕ) → count l dead ≡ 0 → owners_in (slot_at old.slots l) ≡ H l + (places_at old.slots l + 0))
            → ((l : ℕ) → count l dead ≡ 0 → IsSome (slot_at old.slots l) → 0 < owners_in (slot_at old.slots l))
            → ((l : ℕ) → 0 < count l dead → (count l dead ≡ 1) × (H l + (places_at old.slots l + 0) ≡ 0) × IsSome (slot_at old.slots l))
            → IsDying H new.slots (owners_in (slot_at old.slots first)) links
        step [] threaded counted owned waiting = absurd (not_end threaded)
        step (x ∷ xs) threaded counted owned waiting =
            let is : first ≡ x = threaded.0 in
            let head : count first (x ∷ xs) ≡ 1 + count first xs = omega (arith, count-cons first x xs, test_same x first (sym is)) in
            let wait = waiting first (omega (arith, head)) in
            let off : count first xs ≡ 0 = omega (arith, head, wait.0) in
            let same_count : (l : ℕ) → l ≢ first → count l (x ∷ xs) ≡ count l xs = λ l other. omega (arith, count-cons l x xs, test_other x l (λ e. other (sym (is ∙ e)))) in
            let away : (l : ℕ) → 0 < count l xs → l ≢ first = λ l held same. absurd (omega (arith, ap (λ j. count j xs) same, off, held)) in
            let still : (l : ℕ) → 0 < count l xs → (count l (x ∷ xs) ≡ 1) × (H l + (places_at old.slots l + 0) ≡ 0) × IsSome (slot_at old.slots l) = λ l held. waiting l (omega (arith, same_count l (away l held), held)) in
            record {
              dead = xs;
              threaded = IsThreaded-owners old.slots new.slots _ xs (λ k held. omega (arith, gives.owners k (away k held), gives.own k, (still k held).1, moved k)) (subst (λ j. IsThreaded old.slots (owners_in (slot_at old.slots j)) xs) (sym is) threaded.2);
              counted = λ l none. elim (cases_eq l first) as (λ _. owners_in (slot_at new.slots l) ≡ H l + (places_at new.slots l + count l links)) [
                | inl same ↦
                    let P : ℕ → Type 0 = λ j. owners_in (slot_at new.slots j) ≡ H j + (places_at new.slots j + count j links) in
                    subst P (sym same) (omega (arith, ap owners_in gives.gone, moved first, gives.own first, wait.1))
                | inr other ↦ omega (arith, gives.owners l other, counted l (same_count l other ∙ none), moved l)
              ];
              owned = λ l none live.
                  let was = was-there l live in
                  omega (arith, gives.owners l was.0, counted l (same_count l was.0 ∙ none), owned l (same_count l was.0 ∙ none) was.1, moved l, gives.shared l);
              waiting = λ l held.
                  let before = still l held in
                  let live : IsSome (slot_at new.slots l) = live_slot _ (rw (gives.rows l (away l held)) (live_row _ before.2)) in
                  (omega (arith, same_count l (away l held), before.0), omega (arith, before.1, moved l, gives.own l), live);
            }
