-- The rows of each height below a row, and fronts of them.
use Rattle.std.proofs.Common.{◌≡◌, ℕ, suc, zero, ◌+◌, ◌<◌, ◌≤◌, List, [], ◌∷◌, ◌++◌, length, take, get_or, refl, ap, sym, ◌∙◌, arith, append-nil, inl, inr, Bool, true, false}
use Rattle.std.specs.Prelude.{◌==◌, if◌then◌else◌}
use Rattle.std.specs.List.{All, flat_map}
use Rattle.std.proofs.lemmas.List.{take_all, take-take, length-take}
use Rattle.std.proofs.lemmas.Bool.{cases_lt}
use Rattle.std.proofs.lemmas.Bool.Decides.{nat_tests}
use Rattle.node_heap.specs.Links.{Links}
use Rattle.node_heap.specs.Heap.{Heap, form_at, links_at}
use Rattle.node_heap.specs.Calls.{SameRows}
use Rattle.rrb_core.specs.Seq.{seq_at}
use Rattle.rrb_core.specs.Vector.{height_at}
use Rattle.rrb_core.specs.Levels.{rows_at, rows_of, HasFront, HasFrontTo, TakesFirstRows}
use Rattle.rrb_core.proofs.ClosedRows.{Stays}
use Rattle.rrb_core.proofs.Lists.{flat_map-same, take-first}
use Rattle.rrb_core.proofs.Stays.{links-stay, items-stay}
use Rattle.rrb_core.proofs.BuildLemmas.{same-height}

none-each : (f : ℕ → List ℕ) (ks : List ℕ) → ((k : ℕ) → f k ≡ []) → flat_map f ks ≡ []
none-each f [] each = refl
none-each f (k ∷ ks) each = ap (λ (xs : List ℕ). xs ++ flat_map f ks) (each k) ∙ none-each f ks each

module _ (L : Links) where
  pub rows-own : (n l : ℕ) → rows_at L n n l ≡ l ∷ []
  unfolding rows_at
  rows-own zero l = refl
  rows-own (suc n) l =
      let same : (suc n == suc n) ≡ true = grind (arith, nat_tests) in
      ap (λ (b : Bool). if b then l ∷ [] else flat_map (rows_at L n (suc n)) (L l)) same

  pub rows-inner : (n m l : ℕ) → m ≤ n → rows_at L (suc n) m l ≡ flat_map (rows_at L n m) (L l)
  unfolding rows_at
  rows-inner n m l low =
      let other : (m == suc n) ≡ false = grind (arith, nat_tests) in
      ap (λ (b : Bool). if b then l ∷ [] else flat_map (rows_at L n m) (L l)) other

  pub rows-past : (n m l : ℕ) → n < m → rows_at L n m l ≡ []
  unfolding rows_at
  rows-past zero m l past =
      let other : (m == zero) ≡ false = grind (arith, nat_tests) in
      ap (λ (b : Bool). if b then l ∷ [] else []) other
  rows-past (suc n) m l past =
      let other : (m == suc n) ≡ false = grind (arith, nat_tests) in
      ap (λ (b : Bool). if b then l ∷ [] else flat_map (rows_at L n m) (L l)) other ∙ none-each (rows_at L n m) (L l) (λ k. rows-past n m k (omega arith))

  -- the rows of a height or above it are one at most
  pub rows-few : (n m l : ℕ) → n ≤ m → length (rows_at L n m l) ≤ 1
  rows-few n m l high = elim (cases_lt n m) as (λ _. length (rows_at L n m l) ≤ 1) [
    | inl past ↦ rw (rows-past n m l past) (omega arith)
    | inr low ↦ let same : m ≡ n = omega arith in rw (same, rows-own n l) (omega arith)
  ]

-- all of the rows, or one row and none of them
abbrev pub front-whole : (rows : List ℕ) → HasFront rows rows
front-whole rows =
    record { place = length rows; inside = omega arith; last = []; one = omega arith; is = sym (append-nil (take (length rows) rows) ∙ take_all (length rows) rows (omega arith)) }

abbrev pub front-few : {rows all : List ℕ} → length all ≤ 1 → HasFront rows all
front-few {rows} {all} few = record { place = 0; inside = omega arith; last = all; one = few; is = refl }

-- all of the rows, whatever the count
pub keeps-all : (s : ℕ → List ℕ) (count : ℕ) (rows : List ℕ) → HasFrontTo s count rows rows
keeps-all s count rows = record { front = front-whole rows; past = λ lt. absurd (omega (arith, lt)) }

-- a take has a front of the vector's rows of every height: above its own height it has none of them, and no other row
pub front-of-height : {T : Type 0} (old new : Heap T) (vector count v : ℕ) → TakesFirstRows old new vector count v → (m : ℕ) → HasFront (rows_of old m vector) (rows_of new m v)
front-of-height old new vector count v takes m = elim (cases_lt (height_at new v) m) as (λ _. HasFront (rows_of old m vector) (rows_of new m v)) [
  | inl past ↦ front-few (rows-few (links_at new) (height_at new v) m v (omega (arith, past)))
  | inr low ↦ (takes m low).front
]

-- the first of the first rows are the first of all
pub first-of : (few first rows : List ℕ) → few ≡ take (length few) first → first ≡ take (length first) rows → few ≡ take (length few) rows
first-of few first rows is is' =
    is ∙ ap (take (length few)) is' ∙ take-take (length few) (length first) rows (omega (arith, ap length is, length-take (length few) first))

-- the rows below the first link of a row are the first ones below it
pub first-rows : (L : Links) (n m l : ℕ) → m ≤ n → 1 ≤ length (L l) → rows_at L n m (get_or (L l) 0 0) ≡ take (length (rows_at L n m (get_or (L l) 0 0))) (rows_at L (suc n) m l)
first-rows L n m l low some =
    let f : ℕ → List ℕ = rows_at L n m in
    let own : List ℕ = f (get_or (L l) 0 0) in
    rw (rows-inner L n m l low) (sym (take-first f (L l) (length own) (omega (arith, some)) (omega arith) ∙ take_all (length own) own (omega arith)))

module _ {T : Type 0} {P : ℕ → Type 0} {old new : Heap T} (s : Stays P old new) where
  pub rows-kept : (n m l : ℕ) → P l → rows_at (links_at new) n m l ≡ rows_at (links_at old) n m l
  unfolding rows_at
  rows-kept zero m l p = refl
  rows-kept (suc n) m l p =
      let inner : flat_map (rows_at (links_at new) n m) (links_at new l) ≡ flat_map (rows_at (links_at old) n m) (links_at old l) =
      ap (flat_map (rows_at (links_at new) n m)) (links-stay s l p) ∙ flat_map-same (rows_at (links_at new) n m) (rows_at (links_at old) n m) (links_at old l) (λ k d b. rows-kept n m (get_or (links_at old l) k d) (s.closed l p k d b)) in
      ap (λ (xs : List ℕ). if m == suc n then l ∷ [] else xs) inner

  pub all-kept : (n m : ℕ) (ks : List ℕ) → All P ks → flat_map (rows_at (links_at new) n m) ks ≡ flat_map (rows_at (links_at old) n m) ks
  all-kept n m ks named = flat_map-same (rows_at (links_at new) n m) (rows_at (links_at old) n m) ks (λ k d b. rows-kept n m (get_or ks k d) (named k d b))

module _ {T : Type 0} (old new : Heap T) (same : SameRows old new) where
  -- where all rows are the same, each of them stays
  all-stay : Stays (λ _. Unit {0}) old new
  all-stay = record { closed = λ l p k d b. tt; kept = λ l p. same l }

  pub rows-of-same : (m l : ℕ) → rows_of new m l ≡ rows_of old m l
  rows-of-same m l = rw (same-height old new l same) (rows-kept all-stay (height_at old l) m l tt)

  -- a vector that is taken whole
  pub takes-whole : (l count : ℕ) → TakesFirstRows old new l count l
  takes-whole l count m low = rw (rows-of-same m l) (keeps-all (seq_at (form_at old) m) count (rows_of old m l))

  -- a take after a step that leaves all rows as they are
  pub takes-after : (last : Heap T) (l count v : ℕ) → TakesFirstRows new last l count v → TakesFirstRows old last l count v
  takes-after last l count v takes m low =
      let has : HasFrontTo (seq_at (form_at new) m) count (rows_of old m l) (rows_of last m v) = rw (rows-of-same m l) at (takes m low) in
      record {
        front = has.front;
        past = λ lt. rw (items-stay all-stay m (take (has.front.place + 1) (rows_of old m l)) (λ k d b. tt)) at (has.past lt);
      }
