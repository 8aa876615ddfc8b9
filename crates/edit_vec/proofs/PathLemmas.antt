-- The rows over an element, by the place of each in the row above, and the right spine.
use Rattle.std.proofs.Common.{◌≡◌, ℕ, suc, zero, ◌-◌, ◌+◌, ◌<◌, ◌≤◌, List, [], ◌∷◌, length, take, drop, get_or, refl, ap, sym, ◌∙◌, arith, length-append, Bool, true, false, inl, inr}
use Rattle.std.specs.Prelude.{nat_lt, slice_index, if◌then◌else◌}
use Rattle.std.specs.List.{All, flat_map}
use Rattle.std.proofs.lemmas.Bool.{cases_lt}
use Rattle.std.proofs.lemmas.Bool.Decides.{nat_tests}
use Rattle.std.proofs.lemmas.List.Elements.{All-take}
use Rattle.node_heap.specs.Links.{HasLink}
use Rattle.node_heap.specs.Forms.{Forms, links_of, links_in}
use Rattle.node_heap.specs.Heap.{Heap, form_at, links_at}
use Rattle.node_heap.proofs.Edited.{count-at}
use Rattle.rrb_core.specs.Seq.{seq_at, IsWell}
use Rattle.rrb_core.specs.Push.{last_in}
use Rattle.rrb_core.proofs.ClosedRows.{Stays}
use Rattle.rrb_core.proofs.Stays.{links-form, forms-stay, seq-stays, items-stay}
use Rattle.edit_vec.specs.Path.{row_over, rows_over, spine_at}

-- the place of an element's row in a list of rows, and its index there
pub record IsIn (f : ℕ → List ℕ) (ks : List ℕ) (index : ℕ) : Type 0 where
  pub place : ℕ
  pub within : ℕ
  pub inside : place < length ks
  pub low : within < length (f (get_or ks place 0))
  pub before : length (flat_map f (take place ks)) + within ≡ index

pub is-in : (f : ℕ → List ℕ) (ks : List ℕ) (index : ℕ) → index < length (flat_map f ks) → IsIn f ks index
is-in f [] index lt = absurd (omega (arith, lt))
is-in f (k ∷ ks) index lt = elim (cases_lt index (length (f k))) as (λ _. IsIn f (k ∷ ks) index) [
  | inl here ↦ record { place = 0; within = index; inside = omega arith; low = here; before = omega arith }
  | inr past ↦
      let rest = is-in f ks (index - length (f k)) (omega (arith, lt, past, length-append (f k) (flat_map f ks))) in
      record {
        place = suc rest.place;
        within = rest.within;
        inside = omega (arith, rest.inside);
        low = rest.low;
        before = omega (arith, rest.before, past, length-append (f k) (flat_map f (take rest.place ks)));
      }
]

module _ {K : Type 0} (F : Forms K) (n : ℕ) where
  pub over-at : (ks : List ℕ) (place within index : ℕ) → place < length ks → within < length (seq_at F n (get_or ks place 0)) → length (flat_map (seq_at F n) (take place ks)) + within ≡ index → row_over F n ks index ≡ (get_or ks place 0, within)
  unfolding row_over
  over-at [] place within index inside low is = absurd (omega (arith, inside))
  over-at (k ∷ ks) zero within index inside low is =
      let e : index ≡ within = omega (arith, is) in
      let test : nat_lt index (length (seq_at F n k)) ≡ true = rw e (grind (arith, nat_tests, low)) in
      ap (λ (b : Bool). if b then (k, index) else row_over F n ks (index - length (seq_at F n k))) test ∙ ap (λ (i : ℕ). (k, i)) e
  over-at (k ∷ ks) (suc place) within index inside low is =
      let all : length (flat_map (seq_at F n) (take (suc place) (k ∷ ks))) ≡ length (seq_at F n k) + length (flat_map (seq_at F n) (take place ks)) = length-append (seq_at F n k) (flat_map (seq_at F n) (take place ks)) in
      let past : length (seq_at F n k) ≤ index = omega (arith, all, is) in
      let test : nat_lt index (length (seq_at F n k)) ≡ false = grind (arith, nat_tests, past) in
      ap (λ (b : Bool). if b then (k, index) else row_over F n ks (index - length (seq_at F n k))) test
      ∙ over-at ks place within (index - length (seq_at F n k)) (omega (arith, inside)) low (omega (arith, all, is))

  pub rows-over-at : (l place within index : ℕ) → place < length (links_in F l) → within < length (seq_at F n (get_or (links_in F l) place 0)) → length (flat_map (seq_at F n) (take place (links_in F l))) + within ≡ index
      → rows_over F (suc n) l index ≡ l ∷ rows_over F n (get_or (links_in F l) place 0) within
  unfolding rows_over
  rows-over-at l place within index inside low is = ap (λ p. l ∷ rows_over F n p.0 p.1) (over-at (links_in F l) place within index inside low is)

-- the rows below the first
abbrev pub rows_below : {K : Type 0} → Forms K → ℕ → ℕ → ℕ → List ℕ
rows_below F zero l index = []
rows_below F (suc n) l index = rows_over F n (row_over F n (links_in F l) index).0 (row_over F n (links_in F l) index).1

pub rows-below : {K : Type 0} (F : Forms K) (n l index : ℕ) → rows_over F n l index ≡ l ∷ rows_below F n l index
unfolding rows_over
rows-below F zero l index = refl
rows-below F (suc n) l index = refl

-- they are at least the next one, which is a link of the first
pub below-first : {K : Type 0} (F : Forms K) (n l index : ℕ) → index < length (seq_at F n l) → 1 ≤ length (rows_below F n l index) → (place : ℕ) × (place < length (links_in F l)) × (get_or (rows_below F n l index) 0 0 ≡ get_or (links_in F l) place 0)
unfolding seq_at
below-first F zero l index lt some = absurd (omega (arith, some))
below-first F (suc n) l index lt some =
    let spot = is-in (seq_at F n) (links_in F l) index lt in
    let at = over-at F n (links_in F l) spot.place spot.within index spot.inside spot.low spot.before in
    (spot.place, spot.inside, ap (λ p. get_or (rows_over F n p.0 p.1) 0 0) at ∙ ap (λ xs. get_or xs 0 0) (rows-below F n (get_or (links_in F l) spot.place 0) spot.within))

pub below-linked : {T : Type 0} (h : Heap T) (n l index : ℕ) → index < length (seq_at (form_at h) n l) → 1 ≤ length (rows_below (form_at h) n l index) → HasLink (links_at h) l (get_or (rows_below (form_at h) n l index) 0 0)
below-linked h n l index lt some =
    let first = below-first (form_at h) n l index lt some in
    let same : links_in (form_at h) l ≡ links_at h l = links-form h l in
    count-at (links_at h l) first.0 (get_or (rows_below (form_at h) n l index) 0 0) (rw same at first.1) (sym (rw same at first.2))

module _ {T : Type 0} {P : ℕ → Type 0} {old new : Heap T} (s : Stays P old new) where
  pub rows_over-stays : (n l index : ℕ) → P l → index < length (seq_at (form_at old) n l) → rows_over (form_at new) n l index ≡ rows_over (form_at old) n l index
  unfolding seq_at
  rows_over-stays zero l index p lt = rows-below (form_at new) zero l index ∙ sym (rows-below (form_at old) zero l index)
  rows_over-stays (suc n) l index p lt =
      let ks : List ℕ = links_in (form_at old) l in
      let spot = is-in (seq_at (form_at old) n) ks index lt in
      let k : ℕ = get_or ks spot.place 0 in
      let named : All P ks = rw (links-form old l) (s.closed l p) in
      let here : P k = named spot.place 0 spot.inside in
      let links : links_in (form_at new) l ≡ ks = forms-stay s l p in
      let low : spot.within < length (seq_at (form_at new) n (get_or (links_in (form_at new) l) spot.place 0)) = rw (links, seq-stays s n k here) spot.low in
      let before : length (flat_map (seq_at (form_at new) n) (take spot.place (links_in (form_at new) l))) + spot.within ≡ index = rw (links, items-stay s n (take spot.place ks) (All-take P spot.place ks named)) spot.before in
      rows-over-at (form_at new) n l spot.place spot.within index (rw links spot.inside) low before
      ∙ ap (λ (xs : List ℕ). l ∷ rows_over (form_at new) n (get_or xs spot.place 0) spot.within) links
      ∙ ap (λ (xs : List ℕ). l ∷ xs) (rows_over-stays n k spot.within here spot.low)
      ∙ sym (rows-over-at (form_at old) n l spot.place spot.within index spot.inside spot.low spot.before)

-- links that name one form have the same rows below
pub below-same : {K : Type 0} (F : Forms K) (n c d index : ℕ) → F c ≡ F d → rows_below F n c index ≡ rows_below F n d index
below-same F zero c d index e = refl
below-same F (suc n) c d index e = ap (λ r. rows_over F n (row_over F n (links_of r) index).0 (row_over F n (links_of r) index).1) e

pub below-stays : {T : Type 0} {P : ℕ → Type 0} {old new : Heap T} → Stays P old new → (n l index : ℕ) → P l → index < length (seq_at (form_at old) n l) → rows_below (form_at new) n l index ≡ rows_below (form_at old) n l index
below-stays {old = old} {new = new} s n l index p lt = ap (drop 1) (sym (rows-below (form_at new) n l index) ∙ rows_over-stays s n l index p lt ∙ rows-below (form_at old) n l index)

-- the right spine below its first row
abbrev pub spine_below : {K : Type 0} → Forms K → ℕ → ℕ → List ℕ
spine_below F zero l = []
spine_below F (suc n) l = spine_at F n (last_in F l)

pub spine-below : {K : Type 0} (F : Forms K) (n l : ℕ) → spine_at F n l ≡ l ∷ spine_below F n l
unfolding spine_at
spine-below F zero l = refl
spine-below F (suc n) l = refl

pub spine-same : {K : Type 0} (F : Forms K) (n c d : ℕ) → F c ≡ F d → spine_below F n c ≡ spine_below F n d
spine-same F zero c d e = refl
spine-same F (suc n) c d e = ap (λ r. spine_at F n (slice_index (links_of r) (length (links_of r) - 1))) e

module _ {T : Type 0} {P : ℕ → Type 0} {old new : Heap T} (s : Stays P old new) where
  pub spine-stays : (n l : ℕ) → P l → IsWell (form_at old) n l → spine_at (form_at new) n l ≡ spine_at (form_at old) n l
  unfolding IsWell
  spine-stays zero l p w = spine-below (form_at new) zero l ∙ sym (spine-below (form_at old) zero l)
  spine-stays (suc n) l p w =
      let ks : List ℕ = links_in (form_at old) l in
      let named : All P ks = rw (links-form old l) (s.closed l p) in
      let links : links_in (form_at new) l ≡ ks = forms-stay s l p in
      let inside : length ks - 1 < length ks = omega (arith, w.some) in
      spine-below (form_at new) (suc n) l
      ∙ ap (λ (xs : List ℕ). l ∷ spine_at (form_at new) n (slice_index xs (length xs - 1))) links
      ∙ ap (λ (xs : List ℕ). l ∷ xs) (spine-stays n (get_or ks (length ks - 1) 0) (named (length ks - 1) 0 inside) (w.children (length ks - 1) 0 inside))
      ∙ sym (spine-below (form_at old) (suc n) l)

-- the row below the first is one of its links
pub spine-first : {K : Type 0} (F : Forms K) (n l : ℕ) → IsWell F n l → 1 ≤ length (spine_below F n l) → (1 ≤ length (links_in F l)) × (get_or (spine_below F n l) 0 0 ≡ get_or (links_in F l) (length (links_in F l) - 1) 0)
unfolding IsWell
spine-first F zero l w some = absurd (omega (arith, some))
spine-first F (suc n) l w some = (w.some, ap (λ (xs : List ℕ). get_or xs 0 0) (spine-below F n (last_in F l)))

pub spine-linked : {T : Type 0} (h : Heap T) (n l : ℕ) → IsWell (form_at h) n l → 1 ≤ length (spine_below (form_at h) n l) → HasLink (links_at h) l (get_or (spine_below (form_at h) n l) 0 0)
spine-linked h n l w some =
    let first = spine-first (form_at h) n l w some in
    let same : links_in (form_at h) l ≡ links_at h l = links-form h l in
    let many : 1 ≤ length (links_at h l) = rw same at first.0 in
    count-at (links_at h l) (length (links_at h l) - 1) (get_or (spine_below (form_at h) n l) 0 0) (omega (arith, many)) (sym (rw same at first.1))
