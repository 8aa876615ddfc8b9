-- How a release frees the rows that lose their last owner.
use Rattle.std.proofs.Common.{◌≡◌, ◌≢◌, ◌⊎◌, ℕ, zero, suc, ◌+◌, ◌-◌, ◌^◌, ◌<◌, ◌≤◌, List, [], ◌∷◌, length, get_or, refl, sym, ap, subst, ◌∙◌, arith, Option, Some, None, IsSome, inl, inr}
use Rattle.std.specs.Prelude.{sum_by}
use Rattle.std.proofs.lemmas.Bool.{cases_eq}
use Rattle.std.proofs.lemmas.List.{drop_more}
use Rattle.std.proofs.Common.{drop}
use Rattle.node_heap.specs.Links.{count}
use Rattle.node_heap.specs.Forms.{Row, links_of}
use Rattle.node_heap.specs.Layout.{row_of_slot, owners_in, rows_of_slots, holds_in, slot_at, places_at, graph_of, IsCounted, ApartAt, SetsOwners, IsLow, IsThreaded, IsDying, Thins}
use Rattle.node_heap.specs.Heap.{places_in, one_at}
use Rattle.node_heap.specs.Layout.{Slot}
use Rattle.node_heap.proofs.Counts.{count-cons, test_same, test_other, sum_by-apart}
use Rattle.node_heap.proofs.Slots.{row_at-slots, holds_at-slots}

-- what is left from an index on begins with the link there
pub at_link : (links : List ℕ) (i x place : ℕ) → i < length links → place ≡ x → x ≡ get_or links i x → drop i links ≡ place ∷ drop (i + 1) links
at_link links i x place inside is read = drop_more links i x inside ∙ ap (λ y. y ∷ drop (i + 1) links) (sym (is ∙ read))

module _ {T : Type 0} where
  live_row : (e : Option (Slot T)) → IsSome e → IsSome (row_of_slot e)
  live_row None some = cc
  live_row (Some e) some = refl

  live_slot : (e : Option (Slot T)) → IsSome (row_of_slot e) → IsSome e
  live_slot None some = cc
  live_slot (Some e) some = refl

  pub IsThreaded-apart : (old new : List (Option (Slot T))) (key : ℕ) → ApartAt old new key → (first : ℕ) (dead : List ℕ) → count key dead ≡ 0 → IsThreaded old first dead → IsThreaded new first dead
  IsThreaded-apart old new key apart first [] off p = p
  IsThreaded-apart old new key apart first (d ∷ ds) off p =
      let counted = count-cons key d ds in
      let other : d ≢ key = λ same. absurd (omega (arith, test_same d key same, counted, off)) in
      let rest = IsThreaded-apart old new key apart (owners_in (slot_at old d)) ds (omega (arith, counted, off)) p.2 in
      (p.0, p.1, subst (λ n. IsThreaded new n ds) (sym (ap owners_in (apart d other))) rest)

  -- nothing waits where the first is the last number
  pub IsThreaded-none : (slots : List (Option (Slot T))) (dead : List ℕ) → IsThreaded slots (2 ^ 64 - 1) dead → (l : ℕ) → count l dead ≡ 0
  IsThreaded-none slots [] p l = refl
  IsThreaded-none slots (d ∷ ds) p l = absurd (omega (arith, p.0, p.1))

  -- a link that is to be dropped does not wait
  pub off_list : (H : ℕ → ℕ) (slots : List (Option (Slot T))) (first k : ℕ) (pend : List ℕ) (d : IsDying H slots first (k ∷ pend)) → count k d.dead ≡ 0
  off_list H slots first k pend d = by_count (count k d.dead) refl
    where
      by_count : (n : ℕ) → count k d.dead ≡ n → count k d.dead ≡ 0
      by_count zero e = e
      by_count (suc n) e =
          let wait = d.waiting k (omega (arith, e)) in
          absurd (omega (arith, wait.1, count-cons k k pend, test_same k k refl))

  pub IsDying-last : (H : ℕ → ℕ) (slots new : List (Option (Slot T))) (first k : ℕ) (pend : List ℕ) → owners_in (slot_at slots k) ≡ 1 → SetsOwners slots new k first → rows_of_slots new ≡ rows_of_slots slots → k < 2 ^ 64 - 1 → IsDying H slots first (k ∷ pend) → IsDying H new k pend
  IsDying-last H slots new first k pend one sets rows low d =
      let off = off_list H slots first k pend d in
      let placed_in : (l : ℕ) → places_at new l ≡ places_at slots l = λ l. ap (λ xs. places_in xs l) rows in
      let at_k = d.counted k off in
      let more = count-cons k k pend in
      record {
        dead = k ∷ d.dead;
        threaded = (refl, low, subst (λ n. IsThreaded new n d.dead) (sym sets.owners) (IsThreaded-apart slots new k sets.others first d.dead off d.threaded));
        counted = λ l none.
            let split = count-cons l k d.dead in
            let other : l ≢ k = λ same. absurd (omega (arith, test_same k l (sym same), split, none)) in
            omega (arith, ap owners_in (sets.others l other), d.counted l (omega (arith, split, none)), placed_in l, count-cons l k pend, split, none);
        owned = λ l none live.
            let split = count-cons l k d.dead in
            let other : l ≢ k = λ same. absurd (omega (arith, test_same k l (sym same), split, none)) in
            let was : IsSome (slot_at slots l) = rw (← sets.others l other) live in
            omega (arith, ap owners_in (sets.others l other), d.owned l (omega (arith, split, none)) was);
        waiting = λ l some.
            let split = count-cons l k d.dead in
            let tail = count-cons l k pend in
            elim (cases_eq l k) as (λ _. (count l (k ∷ d.dead) ≡ 1) × (H l + (places_at new l + count l pend) ≡ 0) × IsSome (slot_at new l)) [
              | inl same ↦
                  let P : ℕ → Type 0 = λ j. (count j (k ∷ d.dead) ≡ 1) × (H j + (places_at new j + count j pend) ≡ 0) × IsSome (slot_at new j) in
                  subst P (sym same) (omega (arith, count-cons k k d.dead, test_same k k refl, off), omega (arith, at_k, one, more, test_same k k refl, placed_in k), sets.live)
              | inr other ↦
                  let none = test_other k l (λ e. other (sym e)) in
                  let wait = d.waiting l (omega (arith, split, none, some)) in
                  let live : IsSome (slot_at new l) = rw (sets.others l other) wait.2 in
                  (omega (arith, split, none, wait.0), omega (arith, wait.1, tail, none, placed_in l), live)
            ];
      }

  pub IsDying-not_last : (H : ℕ → ℕ) (slots new : List (Option (Slot T))) (first k n : ℕ) (pend : List ℕ) → owners_in (slot_at slots k) ≡ n + 1 → 0 < n → SetsOwners slots new k n → rows_of_slots new ≡ rows_of_slots slots → IsDying H slots first (k ∷ pend) → IsDying H new first pend
  IsDying-not_last H slots new first k n pend were some sets rows d =
      let off = off_list H slots first k pend d in
      let placed_in : (l : ℕ) → places_at new l ≡ places_at slots l = λ l. ap (λ xs. places_in xs l) rows in
      let at_k = d.counted k off in
      let more = count-cons k k pend in
      record {
        dead = d.dead;
        threaded = IsThreaded-apart slots new k sets.others first d.dead off d.threaded;
        counted = λ l none. elim (cases_eq l k) as (λ _. owners_in (slot_at new l) ≡ H l + (places_at new l + count l pend)) [
          | inl same ↦
              let P : ℕ → Type 0 = λ j. owners_in (slot_at new j) ≡ H j + (places_at new j + count j pend) in
              subst P (sym same) (omega (arith, sets.owners, at_k, were, more, test_same k k refl, placed_in k))
          | inr other ↦
              omega (arith, ap owners_in (sets.others l other), d.counted l none, placed_in l, count-cons l k pend, test_other k l (λ e. other (sym e)))
        ];
        owned = λ l none live. elim (cases_eq l k) as (λ _. 0 < owners_in (slot_at new l)) [
          | inl same ↦ omega (arith, ap (λ j. owners_in (slot_at new j)) same, sets.owners, some)
          | inr other ↦ let was : IsSome (slot_at slots l) = rw (← sets.others l other) live in omega (arith, ap owners_in (sets.others l other), d.owned l none was)
        ];
        waiting = λ l held.
            let other : l ≢ k = λ same. absurd (omega (arith, ap (λ j. count j d.dead) same, off, held)) in
            let none = test_other k l (λ e. other (sym e)) in
            let wait = d.waiting l held in
            let live : IsSome (slot_at new l) = rw (sets.others l other) wait.2 in
            (wait.0, omega (arith, wait.1, count-cons l k pend, none, placed_in l), live);
      }

  -- once nothing waits, the owners are counted anew
  pub IsDying-done : (H : ℕ → ℕ) (slots : List (Option (Slot T))) → IsDying H slots (2 ^ 64 - 1) [] → (l : ℕ) → owners_in (slot_at slots l) ≡ H l + places_at slots l
  IsDying-done H slots d l = omega (arith, d.counted l (IsThreaded-none slots d.dead d.threaded l))

  pub IsCounted-thinned : (H : ℕ → ℕ) (old new : List (Option (Slot T))) → IsCounted old → Thins old new → IsLow new → IsDying H new (2 ^ 64 - 1) [] → IsCounted new
  IsCounted-thinned H old new counted thins low d = record {
    places = λ l. omega (arith, IsDying-done H new d l);
    owned = λ l live. d.owned l (IsThreaded-none new d.dead d.threaded l) live;
    low = low;
    short = λ l. elim (thins l) as (λ _. length (links_of (graph_of new l)) ≤ 32) [
      | inl gone ↦ omega (arith, ap (λ r. length (links_of r)) gone)
      | inr same ↦ omega (arith, ap (λ r. length (links_of r)) same, counted.short l)
    ];
    rank = counted.rank;
    falls = λ l k has. elim (thins l) as (λ _. counted.rank k < counted.rank l) [
      | inl gone ↦ absurd (omega (arith, ap (λ r. count k (links_of r)) gone, has))
      | inr same ↦ counted.falls l k (omega (arith, ap (λ r. count k (links_of r)) same, has))
    ];
  }

  -- the row of the first link to be dropped has an owner
  pub first_owned : (H : ℕ → ℕ) (slots : List (Option (Slot T))) (first k : ℕ) (pend : List ℕ) → IsDying H slots first (k ∷ pend) → 0 < owners_in (slot_at slots k)
  first_owned H slots first k pend d = omega (arith, d.counted k (off_list H slots first k pend d), count-cons k k pend, test_same k k refl)

  pub IsLow-sets : (slots new : List (Option (Slot T))) (k n : ℕ) → SetsOwners slots new k n → IsSome (slot_at slots k) → IsLow slots → IsLow new
  IsLow-sets slots new k n sets some low l live = elim (cases_eq l k) as (λ _. l < 2 ^ 64 - 1) [
    | inl same ↦ omega (arith, same, low k some)
    | inr other ↦ let was : IsSome (slot_at slots l) = rw (← sets.others l other) live in low l was
  ]

  -- the first row that waits is there
  pub first_live : (H : ℕ → ℕ) (slots : List (Option (Slot T))) (first : ℕ) → first ≢ 2 ^ 64 - 1 → IsDying H slots first [] → IsSome (slot_at slots first)
  first_live H slots first not_end d = step d.dead d.threaded d.waiting
    where
      step : (dead : List ℕ) → IsThreaded slots first dead → ((l : ℕ) → 0 < count l dead → (count l dead ≡ 1) × (H l + (places_at slots l + 0) ≡ 0) × IsSome (slot_at slots l)) → IsSome (slot_at slots first)
      step [] threaded waiting = absurd (not_end threaded)
      step (x ∷ xs) threaded waiting = (waiting first (omega (arith, count-cons first x xs, test_same x first (sym threaded.0)))).2

  -- a count of rows, after one is added
  pub sum-add : (f : Option (Row T) → ℕ) → f None ≡ 0 → (slots new : List (Option (Slot T))) (key : ℕ) (e : Slot T) → slot_at slots key ≡ None → slot_at new key ≡ Some e → ApartAt slots new key → sum_by f (rows_of_slots new) ≡ sum_by f (rows_of_slots slots) + f (Some e.row)
  sum-add f none slots new key e was is apart =
      let same : (k : ℕ) → k ≢ key → get_or (rows_of_slots new) k None ≡ get_or (rows_of_slots slots) k None =
      λ k other. row_at-slots new k ∙ ap row_of_slot (apart k other) ∙ sym (row_at-slots slots k) in
      let sums = sum_by-apart f None none (rows_of_slots slots) (rows_of_slots new) key same in
      let blank = ap f (row_at-slots slots key ∙ ap row_of_slot was) in
      let read = ap f (row_at-slots new key ∙ ap row_of_slot is) in
      omega (arith, sums, read, blank, none)

  pub Thins-rows : (first_slots slots new : List (Option (Slot T))) → rows_of_slots new ≡ rows_of_slots slots → Thins first_slots slots → Thins first_slots new
  Thins-rows first_slots slots new rows thins l =
      let same : graph_of new l ≡ graph_of slots l = sym (row_at-slots new l) ∙ ap (λ xs. get_or xs l None) rows ∙ row_at-slots slots l in
      rw same (thins l)

  -- the holds once one at the place is given up
  abbrev pub holds_after : List (Option (Slot T)) → ℕ → ℕ → ℕ
  holds_after slots place k = (owners_in (slot_at slots k) - places_at slots k) - one_at place k

  pub held_at : (slots : List (Option (Slot T))) (hs : List ℕ) → hs ≡ holds_in slots → (l : ℕ) → get_or hs l 0 ≡ owners_in (slot_at slots l) - places_at slots l
  held_at slots hs s l = ap (λ xs. get_or xs l 0) s ∙ holds_at-slots slots l

  -- a held link is to be dropped
  pub IsDying-start : (slots : List (Option (Slot T))) (place : ℕ) → IsCounted slots → 0 < owners_in (slot_at slots place) - places_at slots place → IsDying (holds_after slots place) slots (2 ^ 64 - 1) (place ∷ [])
  IsDying-start slots place counted held = record {
    dead = [];
    threaded = refl;
    counted = λ l none. elim (cases_eq l place) as (λ _. owners_in (slot_at slots l) ≡ holds_after slots place l + (places_at slots l + count l (place ∷ []))) [
      | inl same ↦
          let P : ℕ → Type 0 = λ j. owners_in (slot_at slots j) ≡ holds_after slots place j + (places_at slots j + count j (place ∷ [])) in
          subst P (sym same) (omega (arith, held, counted.places place, count-cons place place [], test_same place place refl))
      | inr other ↦ omega (arith, counted.places l, count-cons l place [], test_other place l (λ e. other (sym e)), test_other l place other)
    ];
    owned = λ l none. counted.owned l;
    waiting = λ l some. absurd (omega (arith, some));
  }

  pub holds-freed : (old new : List (Option (Slot T))) (place : ℕ) (hs hs' : List ℕ) → hs ≡ holds_in old → hs' ≡ holds_in new → 0 < get_or hs place 0 → IsDying (holds_after old place) new (2 ^ 64 - 1) [] → (k : ℕ) → get_or hs' k 0 + one_at place k ≡ get_or hs k 0
  holds-freed old new place hs hs' s s' held d k =
      let done = IsDying-done (holds_after old place) new d k in
      elim (cases_eq k place) as (λ _. get_or hs' k 0 + one_at place k ≡ get_or hs k 0) [
        | inl same ↦ omega (arith, done, held_at old hs s k, held_at new hs' s' k, test_same k place same, ap (λ j. get_or hs j 0) same, held)
        | inr other ↦ omega (arith, done, held_at old hs s k, held_at new hs' s' k, test_other k place other)
      ]

  pub rows-thinned : (old mid new : List (Option (Slot T))) → rows_of_slots mid ≡ rows_of_slots old → Thins mid new → Thins old new
  rows-thinned old mid new rows thins l =
      let same : graph_of mid l ≡ graph_of old l = sym (row_at-slots mid l) ∙ ap (λ xs. get_or xs l None) rows ∙ row_at-slots old l in
      elim (thins l) as (λ _. (graph_of new l ≡ None) ⊎ (graph_of new l ≡ graph_of old l)) [
        | inl gone ↦ inl gone
        | inr kept ↦ inr (kept ∙ same)
      ]
