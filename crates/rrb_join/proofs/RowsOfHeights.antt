-- The rows of each height, and the seam between those of two vectors.
use Rattle.std.proofs.Common.{◌≡◌, ℕ, suc, zero, ◌-◌, ◌+◌, ◌<◌, ◌≤◌, List, [], ◌∷◌, ◌++◌, length, take, drop, get_or, refl, ap, sym, ◌∙◌, arith, inl, inr, length-append, append_assoc, Bool, true, false}
use Rattle.std.specs.Prelude.{◌==◌, if◌then◌else◌}
use Rattle.std.specs.List.{All, flat_map}
use Rattle.std.proofs.lemmas.List.{take_at, drop_at}
use Rattle.std.proofs.lemmas.Bool.{cases_lt}
use Rattle.std.proofs.lemmas.List.Concat.{flat_map-append}
use Rattle.std.proofs.lemmas.List.Elements.{All-nil, All-cons, All-take, All-drop}
use Rattle.node_heap.specs.Links.{Links}
use Rattle.node_heap.specs.Heap.{Heap, form_at, links_at}
use Rattle.rrb_core.specs.Seq.{IsWell}
use Rattle.rrb_core.specs.Levels.{rows_at}
use Rattle.rrb_core.proofs.ClosedRows.{Stays}
use Rattle.rrb_core.proofs.Lists.{take-past, items-cut, child-short}
use Rattle.rrb_core.proofs.Stays.{links-form, links-stay}
use Rattle.rrb_core.proofs.LevelLemmas.{rows-own, rows-inner, rows-past, all-kept}
use Rattle.rrb_core.proofs.RowSizes.{each-named}
use Rattle.rrb_join.specs.Seam.{rows_under, but_last, AreAtNeed, HasSeam}
use Rattle.rrb_join.specs.Rest.{AreHalves}

one-each : (f : ℕ → List ℕ) (ks : List ℕ) → ((k : ℕ) → f k ≡ k ∷ []) → flat_map f ks ≡ ks
one-each f [] each = refl
one-each f (k ∷ ks) each = ap (λ (xs : List ℕ). xs ++ flat_map f ks) (each k) ∙ ap (λ (xs : List ℕ). k ∷ xs) (one-each f ks each)

module _ (L : Links) where
  pub none-before : (n m l : ℕ) → n ≤ m → but_last (rows_at L n m l) ≡ []
  none-before n m l high = elim (cases_lt n m) as (λ _. but_last (rows_at L n m l) ≡ []) [
    | inl past ↦ rw (rows-past L n m l past) refl
    | inr low ↦ let same : m ≡ n = omega arith in rw (same, rows-own L n l) refl
  ]

  pub none-after : (n m l : ℕ) → n ≤ m → drop 1 (rows_at L n m l) ≡ []
  none-after n m l high = elim (cases_lt n m) as (λ _. drop 1 (rows_at L n m l) ≡ []) [
    | inl past ↦ rw (rows-past L n m l past) refl
    | inr low ↦ let same : m ≡ n = omega arith in rw (same, rows-own L n l) refl
  ]

  pub rows-own-all : (n : ℕ) (ks : List ℕ) → flat_map (rows_at L n n) ks ≡ ks
  rows-own-all n ks = one-each (rows_at L n n) ks (λ k. rows-own L n k)

  -- below rows are the rows below their links
  pub rows-down : (n m : ℕ) (ks : List ℕ) → m ≤ n → flat_map (rows_at L (suc n) m) ks ≡ flat_map (rows_at L n m) (flat_map L ks)
  rows-down n m [] low = refl
  rows-down n m (k ∷ ks) low =
      ap (λ (xs : List ℕ). xs ++ flat_map (rows_at L (suc n) m) ks) (rows-inner L n m k low) ∙ ap (λ (xs : List ℕ). flat_map (rows_at L n m) (L k) ++ xs) (rows-down n m ks low) ∙ sym (flat_map-append (rows_at L n m) (L k) (flat_map L ks))

  pub below-above : (n m : ℕ) (ls : List ℕ) → rows_under L (suc n) m ls ≡ flat_map (rows_at L n m) ls
  unfolding rows_under
  below-above n m ls = refl

  pub below-rows : (n m : ℕ) (ks : List ℕ) → m < n → flat_map (rows_at L n m) ks ≡ rows_under L n m (flat_map L ks)
  unfolding rows_under
  below-rows zero m ks low = absurd (omega arith)
  below-rows (suc n) m ks low = rows-down n m ks (omega arith)

  pub below-row : (n m l : ℕ) → m < n → rows_at L n m l ≡ rows_under L n m (L l)
  unfolding rows_under
  below-row zero m l low = absurd (omega arith)
  below-row (suc n) m l low = rows-inner L n m l (omega arith)

  pub below-past : (n m : ℕ) (ls : List ℕ) → n ≤ m → rows_under L n m ls ≡ []
  unfolding rows_under
  below-past zero m ls past = refl
  below-past (suc n) m [] past = refl
  below-past (suc n) m (l ∷ ls) past = ap (λ (xs : List ℕ). xs ++ flat_map (rows_at L n m) ls) (rows-past L n m l (omega arith)) ∙ below-past (suc n) m ls past

  pub below-append : (n m : ℕ) (ks js : List ℕ) → rows_under L n m (ks ++ js) ≡ rows_under L n m ks ++ rows_under L n m js
  unfolding rows_under
  below-append zero m ks js = refl
  below-append (suc n) m ks js = flat_map-append (rows_at L n m) ks js

  -- the rows before, below and after a child
  pub rows-cut : (n below m l i : ℕ) → n ≡ suc below → m ≤ below → i < length (L l) → rows_at L n m l ≡ flat_map (rows_at L below m) (take i (L l)) ++ (rows_at L below m (get_or (L l) i 0) ++ flat_map (rows_at L below m) (drop (i + 1) (L l)))
  rows-cut n below m l i e low lt = ap (λ (j : ℕ). rows_at L j m l) e ∙ rows-inner L below m l low ∙ items-cut (rows_at L below m) (L l) i lt

-- a row that keeps the fill rule has rows of every height below it
pub rows-some : {T : Type 0} (h : Heap T) (n m l : ℕ) → IsWell (form_at h) n l → m ≤ n → 1 ≤ length (rows_at (links_at h) n m l)
unfolding IsWell
rows-some h zero m l w low = let same : m ≡ 0 = omega arith in rw (same, rows-own (links_at h) 0 l) (omega arith)
rows-some h (suc n) m l w low = elim (cases_lt n m) as (λ _. 1 ≤ length (rows_at (links_at h) (suc n) m l)) [
  | inl past ↦ let same : m ≡ suc n = omega arith in rw (same, rows-own (links_at h) (suc n) l) (omega arith)
  | inr inner ↦
      let some : 1 ≤ length (links_at h l) = rw (← links-form h l) w.some in
      let first : IsWell (form_at h) n (get_or (links_at h l) 0 0) = rw (← links-form h l) (w.children 0 0 (omega (arith, w.some))) in
      rw (rows-inner (links_at h) n m l inner) (omega (arith, child-short (rows_at (links_at h) n m) (links_at h l) 0 (omega (arith, some)), rows-some h n m (get_or (links_at h l) 0 0) first inner))
]

pub but-last-append : (xs ys : List ℕ) → 1 ≤ length ys → but_last (xs ++ ys) ≡ xs ++ but_last ys
but-last-append xs ys some =
    let size : length (xs ++ ys) - 1 ≡ length xs + (length ys - 1) = omega (arith, length-append xs ys) in
    rw size (take-past xs ys (length ys - 1))

pub one-or : (P : ℕ → Type 0) (b : Bool) (l : ℕ) (xs : List ℕ) → P l → All P xs → All P (if b then l ∷ [] else xs)
one-or P true l xs p all = All-cons P l [] p (All-nil P)
one-or P false l xs p all = all

-- no row below one that keeps the fill rule has more links than a row can hold
pub links-few : {T : Type 0} (h : Heap T) (n m l : ℕ) → IsWell (form_at h) n l → All (λ k. length (links_at h k) ≤ 32) (rows_at (links_at h) n m l)
unfolding rows_at IsWell
links-few h zero m l w = one-or (λ k. length (links_at h k) ≤ 32) (m == zero) l [] (rw (← links-form h l) w.most) (All-nil (λ k. length (links_at h k) ≤ 32))
links-few h (suc n) m l w =
    one-or (λ k. length (links_at h k) ≤ 32) (m == suc n) l (flat_map (rows_at (links_at h) n m) (links_at h l)) (rw (← links-form h l) w.most)
    (each-named (λ k. length (links_at h k) ≤ 32) (rows_at (links_at h) n m) (links_at h l) (rw (← links-form h l) (λ k d b. links-few h n m _ (w.children k d b))))

-- what holds of three lists holds of the middle one
pub middle-named : (P : ℕ → Type 0) (xs ys zs : List ℕ) → All P ((xs ++ ys) ++ zs) → All P ys
middle-named P xs ys zs all =
    let front : All P (xs ++ ys) = rw (take_at (xs ++ ys) zs (length (xs ++ ys)) refl) at (All-take P (length (xs ++ ys)) ((xs ++ ys) ++ zs) all) in
    rw (drop_at xs ys (length xs) refl) at (All-drop P (length xs) (xs ++ ys) front)

module _ {T : Type 0} {P : ℕ → Type 0} {old new : Heap T} (s : Stays P old new) where
  pub rows-named : (n m l : ℕ) → P l → All P (rows_at (links_at old) n m l)
  unfolding rows_at
  rows-named zero m l p = one-or P (m == zero) l [] p (All-nil P)
  rows-named (suc n) m l p =
      one-or P (m == suc n) l (flat_map (rows_at (links_at old) n m) (links_at old l)) p (each-named P (rows_at (links_at old) n m) (links_at old l) (λ k d b. rows-named n m (get_or (links_at old l) k d) (s.closed l p k d b)))

  pub below-named : (n m : ℕ) (ls : List ℕ) → (0 < n → All P ls) → All P (rows_under (links_at old) n m ls)
  unfolding rows_under
  below-named zero m ls named = All-nil P
  below-named (suc n) m ls named = each-named P (rows_at (links_at old) n m) ls (λ k d b. rows-named n m (get_or ls k d) (named (omega arith) k d b))

  pub below-kept : (n m : ℕ) (ls : List ℕ) → (0 < n → All P ls) → rows_under (links_at new) n m ls ≡ rows_under (links_at old) n m ls
  unfolding rows_under
  below-kept zero m ls named = refl
  below-kept (suc n) m ls named = all-kept s n m ls (named (omega arith))

  pub need-kept : (n : ℕ) (ks : List ℕ) → All P ks → AreAtNeed old n ks → AreAtNeed new n ks
  need-kept n ks named few =
      record { most = few.most; need = λ i more. rw (links-stay s (get_or ks i 0) (named i 0 (omega (arith, more))), links-stay s (get_or ks (i + 1) 0) (named (i + 1) 0 more)) (few.need i more) }

  pub seam-kept : {n : ℕ} {front back all : List ℕ} → All P all → HasSeam old n front back all → HasSeam new n front back all
  seam-kept {n} {front} {back} {all} named has =
      record { seam = has.seam; few = need-kept n has.seam (middle-named P front has.seam back (rw has.rows at named)) has.few; rows = has.rows }

-- one row is never too many
pub one-at-need : {T : Type 0} (h : Heap T) (ks : List ℕ) → length ks ≤ 1 → AreAtNeed h 2 ks
one-at-need h ks one = record { most = omega arith; need = λ i more. absurd (omega arith) }

-- rows at need that have no more links than one row can hold are one at most
pub one-of-need : {T : Type 0} (h : Heap T) (ks : List ℕ) → AreAtNeed h 2 ks → length (flat_map (links_at h) ks) ≤ 32 → length ks ≤ 1
one-of-need h [] need few = omega arith
one-of-need h (k ∷ []) need few = omega arith
one-of-need h (k ∷ j ∷ ks) need few =
    absurd (omega (arith, need.need 0 (omega arith), few, length-append (links_at h k) (links_at h j ++ flat_map (links_at h) ks), length-append (links_at h j) (flat_map (links_at h) ks)))

-- two halves have more links than one row can hold
pub halves-at-need : {T : Type 0} (h : Heap T) (ks : List ℕ) → AreHalves h ks → AreAtNeed h 2 ks
halves-at-need h ks two =
    record {
      most = two.most;
      need = λ i more.
          let same : i ≡ 0 = omega (arith, two.most, more) in
          rw same (omega (arith, two.first (omega (arith, more)), two.second (omega (arith, more))));
    }

-- and one row is no two halves
pub one-half : {T : Type 0} (h : Heap T) (ks : List ℕ) → length ks ≤ 1 → AreHalves h ks
one-half h ks one = record { most = omega arith; first = λ two. absurd (omega arith); second = λ two. absurd (omega arith) }

-- a seam within the middle part of a list
pub around : (front back a b x s y all : List ℕ) → front ≡ a ++ x → back ≡ y ++ b → all ≡ (a ++ ((x ++ s) ++ y)) ++ b → all ≡ (front ++ s) ++ back
around front back a b x s y all e f g = g ∙ rw (e, f) (simp append_assoc)
