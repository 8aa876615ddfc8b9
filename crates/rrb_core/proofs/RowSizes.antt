-- How many elements stand below rows, and the rows that end within a count.
use Rattle.std.proofs.Common.{◌≡◌, ℕ, suc, zero, ◌+◌, ◌<◌, ◌≤◌, List, [], ◌∷◌, ◌++◌, length, take, drop, refl, ap, sym, ◌∙◌, arith, inl, inr, length-append, append-nil, append_assoc}
use Rattle.std.specs.List.{All, flat_map}
use Rattle.std.proofs.lemmas.Bool.{cases_lt}
use Rattle.std.proofs.lemmas.List.{length-take, length-take-le, length-drop, take-append-drop, take-take}
use Rattle.std.proofs.lemmas.List.Concat.{flat_map-append}
use Rattle.std.proofs.lemmas.List.Elements.{All-nil, All-cons, All-append, All-head, All-tail, All-take, All-drop}
use Rattle.node_heap.specs.Heap.{Heap, form_at, links_at}
use Rattle.rrb_core.specs.Seq.{seq_at, IsWell}
use Rattle.rrb_core.specs.Vector.{elements, height_at, IsGoodVector}
use Rattle.rrb_core.specs.Levels.{rows_at, rows_of, HasFrontTo}
use Rattle.rrb_core.proofs.FillRule.{well-pos}
use Rattle.rrb_core.proofs.Lists.{take-past, take-short}
use Rattle.rrb_core.proofs.LevelLemmas.{rows-own, rows-inner, front-few}
use Rattle.rrb_core.proofs.Stays.{links-form}

-- lists of elements below rows
module _ (f : ℕ → List ℕ) where
  -- below rows are the elements below those that they stand for
  pub each-flat : (g s : ℕ → List ℕ) (ks : List ℕ) → ((k : ℕ) → flat_map s (f k) ≡ g k) → flat_map s (flat_map f ks) ≡ flat_map g ks
  each-flat g s [] each = refl
  each-flat g s (k ∷ ks) each = flat_map-append s (f k) (flat_map f ks) ∙ ap (λ (xs : List ℕ). xs ++ flat_map s (flat_map f ks)) (each k) ∙ ap (λ (xs : List ℕ). g k ++ xs) (each-flat g s ks each)

  -- fewer first rows have no more elements
  pub first-fewer : (ks : List ℕ) (i j : ℕ) → i ≤ j → length (flat_map f (take i ks)) ≤ length (flat_map f (take j ks))
  first-fewer ks i j le = rw (take-take i j ks le) at (take-short f (take j ks) i)

  -- rows that aren't empty have as many elements as they are, or more
  pub not-empty-count : (ks : List ℕ) → All (λ k. 1 ≤ length (f k)) ks → length ks ≤ length (flat_map f ks)
  not-empty-count [] not-empty = omega arith
  not-empty-count (k ∷ ks) not-empty =
      omega (arith, length-append (f k) (flat_map f ks), All-head (λ k. 1 ≤ length (f k)) k ks not-empty, not-empty-count ks (All-tail (λ k. 1 ≤ length (f k)) k ks not-empty))

  -- and all of them have more than the first ones alone
  pub not-empty-before : (ks : List ℕ) (j : ℕ) → All (λ k. 1 ≤ length (f k)) ks → j < length ks → length (flat_map f (take j ks)) < length (flat_map f ks)
  not-empty-before ks j not-empty lt =
      let parts : length (flat_map f ks) ≡ length (flat_map f (take j ks)) + length (flat_map f (drop j ks)) = ap (λ (xs : List ℕ). length (flat_map f xs)) (sym (take-append-drop j ks)) ∙ ap length (flat_map-append f (take j ks) (drop j ks)) ∙ length-append (flat_map f (take j ks)) (flat_map f (drop j ks)) in
      omega (arith, parts, not-empty-count (drop j ks) (All-drop (λ k. 1 ≤ length (f k)) j ks not-empty), length-drop j ks, lt)

-- what holds of all elements of each row holds of all
pub each-named : (P : ℕ → Type 0) (f : ℕ → List ℕ) (ks : List ℕ) → All (λ k. All P (f k)) ks → All P (flat_map f ks)
each-named P f [] each = All-nil P
each-named P f (k ∷ ks) each = All-append P (f k) (flat_map f ks) (All-head (λ k. All P (f k)) k ks each) (each-named P f ks (All-tail (λ k. All P (f k)) k ks each))

module _ {T : Type 0} (h : Heap T) where
  -- below the rows of a height below a row are its own elements
  pub items-of-rows : (n m l : ℕ) → m ≤ n → flat_map (seq_at (form_at h) m) (rows_at (links_at h) n m l) ≡ seq_at (form_at h) n l
  unfolding seq_at
  items-of-rows zero m l low = let same : m ≡ 0 = omega arith in rw (same, rows-own (links_at h) 0 l) (append-nil (seq_at (form_at h) 0 l))
  items-of-rows (suc n) m l low = elim (cases_lt n m) as (λ _. flat_map (seq_at (form_at h) m) (rows_at (links_at h) (suc n) m l) ≡ seq_at (form_at h) (suc n) l) [
    | inl past ↦ let same : m ≡ suc n = omega arith in rw (same, rows-own (links_at h) (suc n) l) (append-nil (seq_at (form_at h) (suc n) l))
    | inr inner ↦
        rw (rows-inner (links_at h) n m l inner) (each-flat (rows_at (links_at h) n m) (seq_at (form_at h) n) (seq_at (form_at h) m) (links_at h l) (λ k. items-of-rows n m k inner))
        ∙ ap (flat_map (seq_at (form_at h) n)) (sym (links-form h l))
  ]

  -- no row is empty below one that isn't
  pub rows-not-empty : (n m l : ℕ) → IsWell (form_at h) n l → 1 ≤ length (links_at h l) → m ≤ n → All (λ k. 1 ≤ length (seq_at (form_at h) m k)) (rows_at (links_at h) n m l)
  unfolding IsWell
  rows-not-empty zero m l w some low = let same : m ≡ 0 = omega arith in rw (same, rows-own (links_at h) 0 l) (All-cons (λ k. 1 ≤ length (seq_at (form_at h) 0 k)) l [] (well-pos (form_at h) 0 l w (rw (links-form h l) some)) (All-nil (λ k. 1 ≤ length (seq_at (form_at h) 0 k))))
  rows-not-empty (suc n) m l w some low = elim (cases_lt n m) as (λ _. All (λ k. 1 ≤ length (seq_at (form_at h) m k)) (rows_at (links_at h) (suc n) m l)) [
    | inl past ↦
        let same : m ≡ suc n = omega arith in
        rw (same, rows-own (links_at h) (suc n) l) (All-cons (λ k. 1 ≤ length (seq_at (form_at h) (suc n) k)) l [] (well-pos (form_at h) (suc n) l w (rw (links-form h l) some)) (All-nil (λ k. 1 ≤ length (seq_at (form_at h) (suc n) k))))
    | inr inner ↦
        rw (rows-inner (links_at h) n m l inner)
        (each-named (λ k. 1 ≤ length (seq_at (form_at h) m k)) (rows_at (links_at h) n m) (links_at h l) (rw (← links-form h l) (λ k d b. rows-not-empty n m _ (w.children k d b) (rw (← links-form h _) (w.not_empty k d b)) inner)))
  ]

  -- nor in a vector that has an element
  pub vector-not-empty : (m v : ℕ) → IsGoodVector h v → 1 ≤ length (elements h v) → m ≤ height_at h v → All (λ k. 1 ≤ length (seq_at (form_at h) m k)) (rows_of h m v)
  vector-not-empty m v good some low = elim (cases_lt m (height_at h v)) as (λ _. All (λ k. 1 ≤ length (seq_at (form_at h) m k)) (rows_of h m v)) [
    | inl lower ↦ rows-not-empty (height_at h v) m v good.shape.well (rw (← links-form h v) (omega (arith, good.shape.two (omega (arith, lower))))) low
    | inr high ↦
        let same : m ≡ height_at h v = omega arith in
        rw (same, rows-own (links_at h) (height_at h v) v) (All-cons (λ k. 1 ≤ length (seq_at (form_at h) (height_at h v) k)) v [] some (All-nil (λ k. 1 ≤ length (seq_at (form_at h) (height_at h v) k))))
  ]

  -- the first links of a row have the elements of the rows of a height below them
  pub items-before : (below m : ℕ) (ks : List ℕ) → m ≤ below → flat_map (seq_at (form_at h) m) (flat_map (rows_at (links_at h) below m) ks) ≡ flat_map (seq_at (form_at h) below) ks
  items-before below m ks low = each-flat (rows_at (links_at h) below m) (seq_at (form_at h) below) (seq_at (form_at h) m) ks (λ k. items-of-rows below m k low)

-- fronts with all rows that end within a count; `s` gives the elements of a row
module _ (s : ℕ → List ℕ) where
  -- none of them where the only one has more elements
  pub keeps-none : (count l : ℕ) (all : List ℕ) → length all ≤ 1 → count < length (s l) → HasFrontTo s count (l ∷ []) all
  keeps-none count l all few more = record { front = front-few few; past = λ lt. omega (arith, more, length-append (s l) []) }

  -- behind other rows that are kept
  pub keeps-behind : (before rows all : List ℕ) (count : ℕ) → HasFrontTo s count rows all → HasFrontTo s (length (flat_map s before) + count) (before ++ rows) (before ++ all)
  keeps-behind before rows all count keeps =
      let has = keeps.front in
      record {
        front = record {
          place = length before + has.place;
          inside = omega (arith, has.inside, length-append before rows);
          last = has.last;
          one = has.one;
          is = ap (λ (xs : List ℕ). before ++ xs) has.is ∙ rw (take-past before rows has.place) (sym (append_assoc before (take has.place rows) has.last));
        };
        past = λ lt.
            let up : length before + has.place + 1 ≡ length before + (has.place + 1) = omega arith in
            let first : take (length before + has.place + 1) (before ++ rows) ≡ before ++ take (has.place + 1) rows = rw up (take-past before rows (has.place + 1)) in
            let more : count < length (flat_map s (take (has.place + 1) rows)) = keeps.past (omega (arith, lt, length-append before rows)) in
            rw (first, flat_map-append s before (take (has.place + 1) rows)) (omega (arith, more, length-append (flat_map s before) (flat_map s (take (has.place + 1) rows))));
      }

  -- before other rows, of which none is empty
  pub keeps-on : (count : ℕ) (first rows all : List ℕ) → first ≡ take (length first) rows → count ≤ length (flat_map s first) → All (λ k. 1 ≤ length (s k)) rows → HasFrontTo s count first all → HasFrontTo s count rows all
  keeps-on count first rows all is enough not-empty keeps =
      let has = keeps.front in
      let size : length first ≤ length rows = omega (arith, ap length is, length-take (length first) rows) in
      let upto : (i : ℕ) → i ≤ length first → take i first ≡ take i rows = λ i le. ap (take i) is ∙ take-take i (length first) rows le in
      record {
        front = record {
          place = has.place;
          inside = omega (arith, has.inside, size);
          last = has.last;
          one = has.one;
          is = has.is ∙ ap (λ (xs : List ℕ). xs ++ has.last) (upto has.place has.inside);
        };
        past = λ lt. elim (cases_lt has.place (length first)) as (λ _. count < length (flat_map s (take (has.place + 1) rows))) [
          | inl lower ↦ rw (upto (has.place + 1) (omega (arith, lower))) at (keeps.past lower)
          | inr past ↦
              let all-first : first ≡ take has.place (take (has.place + 1) rows) = is ∙ ap (λ (i : ℕ). take i rows) (omega (arith, past, has.inside)) ∙ sym (take-take has.place (has.place + 1) rows (omega arith)) in
              let more = not-empty-before s (take (has.place + 1) rows) has.place (All-take (λ k. 1 ≤ length (s k)) (has.place + 1) rows not-empty) (omega (arith, lt, length-take-le (has.place + 1) rows (omega (arith, lt)))) in
              omega (arith, enough, more, ap (λ (xs : List ℕ). length (flat_map s xs)) all-first)
        ];
      }
