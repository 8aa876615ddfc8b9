-- The rows of a mapped pool by their names.
use Rattle.std.proofs.Common.{◌≡◌, ◌⊎◌, ℕ, zero, suc, ◌+◌, ◌-◌, ◌<◌, ◌≤◌, refl, ap, sym, subst, ◌∙◌, arith, inl, inr, Bool, true, false, cond, ltb, List, [], ◌∷◌, length, map, get_or, Some, None, option_map}
use Rattle.std.specs.Prelude.{slice_get, nat_eq, position}
use Rattle.std.specs.List.{All, filter, flat_map}
use Rattle.std.proofs.lemmas.Bool.{cases_eq, cases_lt}
use Rattle.std.proofs.lemmas.Bool.Decides.{nat_tests}
use Rattle.std.proofs.lemmas.List.{length-map, length-append}
use Rattle.std.proofs.lemmas.Option.{slice_get-map, slice_get_within, slice_get_past, slice_get-get_or}
use Rattle.node_heap.specs.Links.{count, HasLink, LeadsDown}
use Rattle.node_heap.specs.Forms.{Form, Forms, cell, node, leaf, inner, trie, chain, pair, state, links_of, links_in}
use Rattle.node_heap.proofs.Counts.{test_same, test_other, count-cons, get_or-map_default}
use Rattle.pool_order.specs.Laws.{AreLinkedBelow}
use Rattle.pool_order.proofs.Firsts.{count-append, with_all-has, with_all-from}
use Rattle.pool_text.specs.Rows.{Bytes}
use Rattle.pool_text.specs.Pool.{links_from, forms_in, row_count, place_in, relink}
use Rattle.pool_text.specs.Renaming.{IsRooted}
use Rattle.pool_text.specs.declared.pool.Pool.{Pool}
use Rattle.pool_text.proofs.Behind.{get-before, get-after}
use Rattle.pool_text.proofs.RootedBelow.{rooted-below}
use Rattle.pool_text.proofs.Placed.{place-is, place-later, position-is}
use Rattle.pool_text.proofs.Renamed.{map-found}
use Rattle.pool_check.proofs.TestLemmas.{not-both}
use Rattle.pool_map.specs.Lines.{is_cell, leaf_links, text_in, cells_in, line_cells, line_texts}
use Rattle.pool_map.specs.Mapped.{later, image_of, with_images, mapped_rows}
use Rattle.pool_carry.proofs.OwnVectors.{is_of_vector}
use Rattle.pool_map.proofs.ChangedStands.{IsChanged}

-- Lists.

test-less : (a b : ℕ) → a < b → ltb a b ≡ true
test-less a b h = grind (arith, nat_tests)

test-not-less : (a b : ℕ) → b ≤ a → ltb a b ≡ false
test-not-less a b h = grind (arith, nat_tests)

-- what passes is kept
count-kept : (p : ℕ → Bool) (xs : List ℕ) (l : ℕ) → p l ≡ true → 0 < count l xs → 0 < count l (filter p xs)
count-kept p [] l kept some = absurd (omega (arith, some))
count-kept p (x ∷ xs) l kept some = elim (cases_eq x l) as (λ _. 0 < count l (filter p (x ∷ xs))) [
  | inl same ↦
      let passes : p x ≡ true = ap p same ∙ kept in
      omega (arith, ap (λ t. count l (cond t (x ∷ filter p xs) (filter p xs))) passes, count-cons l x (filter p xs), test_same x l same)
  | inr other ↦ by_test (p x) (count-kept p xs l kept (omega (arith, some, count-cons l x xs, test_other x l other)))
]
  where
    by_test : (t : Bool) → 0 < count l (filter p xs) → 0 < count l (cond t (x ∷ filter p xs) (filter p xs))
    by_test true later = omega (arith, later, count-cons l x (filter p xs))
    by_test false later = later

-- and nothing else is
count-passes : (p : ℕ → Bool) (xs : List ℕ) (l : ℕ) → 0 < count l (filter p xs) → p l ≡ true
count-passes p [] l some = absurd (omega (arith, some))
count-passes p (x ∷ xs) l some = by_test (p x) refl (λ there. count-passes p xs l there) some
  where
    by_test : (t : Bool) → p x ≡ t → (0 < count l (filter p xs) → p l ≡ true) → 0 < count l (cond t (x ∷ filter p xs) (filter p xs)) → p l ≡ true
    by_test true is rest there = elim (cases_eq x l) as (λ _. p l ≡ true) [
      | inl same ↦ ap p (sym same) ∙ is
      | inr other ↦ rest (omega (arith, there, count-cons l x (filter p xs), test_other x l other))
    ]
    by_test false is rest there = rest there

-- a link that isn't in the list has no place in it
place-none : (ks : List ℕ) (l : ℕ) → count l ks ≡ 0 → place_in ks l ≡ length ks
place-none [] l none = refl
place-none (k ∷ ks) l none = elim (cases_eq l k) as (λ _. place_in (k ∷ ks) l ≡ length (k ∷ ks)) [
  | inl same ↦ absurd (omega (arith, none, count-cons l k ks, test_same k l (sym same)))
  | inr other ↦ omega (arith, place-later l k ks other, place-none ks l (omega (arith, none, count-cons l k ks)))
]

position-none : (ks : List ℕ) (l : ℕ) → count l ks ≡ 0 → position (nat_eq l) ks ≡ None
position-none ks l none = rw (test-not-less (place_in ks l) (length ks) (omega (arith, place-none ks l none))) refl

-- what is in a part is in the whole
flat-has : {X : Type 0} (f : X → List ℕ) (xs : List X) (i k : ℕ) (x : X) → slice_get xs i ≡ Some x → 0 < count k (f x) → 0 < count k (flat_map f xs)
flat-has f [] i k x is some = absurd cc
flat-has f (y ∷ ys) zero k x is some = let both : Some y ≡ Some x = is in let same : y ≡ x = cc in omega (arith, some, count-append k (f y) (flat_map f ys), ap (λ z. count k (f z)) same)
flat-has f (y ∷ ys) (suc i) k x is some = omega (arith, count-append k (f y) (flat_map f ys), flat-has f ys i k x is some)

-- a part that has it
record IsFoundAt {X : Type 0} (f : X → List ℕ) (xs : List X) (k : ℕ) : Type 0 where
  pub index : ℕ
  pub item : X
  pub at : slice_get xs index ≡ Some item
  pub has : 0 < count k (f item)

flat-found : {X : Type 0} (f : X → List ℕ) (xs : List X) (k : ℕ) → 0 < count k (flat_map f xs) → IsFoundAt f xs k
flat-found f [] k some = absurd (omega (arith, some))
flat-found f (y ∷ ys) k some = elim (cases_lt 0 (count k (f y))) as (λ _. IsFoundAt f (y ∷ ys) k) [
  | inl own ↦ record { index = 0; item = y; at = refl; has = own }
  | inr none ↦ let rest = flat-found f ys k (omega (arith, some, none, count-append k (f y) (flat_map f ys))) in record { index = suc rest.index; item = rest.item; at = rest.at; has = rest.has }
]

count-within : (p : ℕ → Bool) (xs : List ℕ) (k : ℕ) → 0 < count k (filter p xs) → 0 < count k xs
count-within p [] k some = some
count-within p (x ∷ xs) k some = by_test (p x) (λ there. count-within p xs k there) some
  where
    by_test : (t : Bool) → (0 < count k (filter p xs) → 0 < count k xs) → 0 < count k (cond t (x ∷ filter p xs) (filter p xs)) → 0 < count k (x ∷ xs)
    by_test true rest there = elim (cases_eq x k) as (λ _. 0 < count k (x ∷ xs)) [
      | inl same ↦ omega (arith, count-cons k x xs, test_same x k same)
      | inr other ↦ omega (arith, rest (omega (arith, there, count-cons k x (filter p xs), test_other x k other)), count-cons k x xs)
    ]
    by_test false rest there = omega (arith, rest there, count-cons k x xs)

-- only a leaf has elements
leaf-of : (row : Form Bytes) (k : ℕ) → 0 < count k (leaf_links row) → row ≡ node leaf (leaf_links row)
leaf-of (cell text) k some = absurd (omega (arith, some))
leaf-of (node leaf links) k some = refl
leaf-of (node (inner height) links) k some = absurd (omega (arith, some))
leaf-of (node (trie d e n) links) k some = absurd (omega (arith, some))
leaf-of (node chain links) k some = absurd (omega (arith, some))
leaf-of (node pair links) k some = absurd (omega (arith, some))
leaf-of (node state links) k some = absurd (omega (arith, some))

-- The rows.

-- an element of some leaf
pub record IsElement (F : Forms Bytes) (k : ℕ) : Type 0 where
  pub leaf_at : ℕ
  pub links : List ℕ
  pub row : F leaf_at ≡ Some (node leaf links)
  pub has : 0 < count k links

module _ (change : Bytes → Bytes) (P : Pool) where
  abbrev F : Forms Bytes
  F = forms_in P

  abbrev N : ℕ
  N = row_count P

  abbrev lines : List ℕ
  lines = line_cells P

  abbrev rows : List (Form Bytes)
  rows = mapped_rows P change

  abbrev changed_cell : Bytes → Form Bytes
  changed_cell text = cell (change text)

  abbrev later_rows : List (Form Bytes)
  later_rows = map (λ text. cell (change text)) (line_texts P)

  pub rows-many : length rows ≡ N + length lines
  rows-many =
      length-append (map (with_images (image_of P)) P.rows) later_rows
      ∙ omega (arith, length-map P.rows (with_images (image_of P)), length-map (line_texts P) changed_cell, length-map lines (λ l. text_in (F l)))

  -- a row of the pool, under its own name
  pub own-at : (l : ℕ) (row : Form Bytes) → F l ≡ Some row → slice_get rows l ≡ Some (with_images (image_of P) row)
  own-at l row is =
      get-before (map (with_images (image_of P)) P.rows) later_rows l (omega (arith, slice_get_within P.rows l row is, length-map P.rows (with_images (image_of P))))
      ∙ slice_get-map (with_images (image_of P)) P.rows l ∙ ap (option_map (with_images (image_of P))) is

  -- a line cell is listed
  pub line-listed : (l : ℕ) → is_cell (F l) ≡ true → IsElement F l → 0 < count l lines
  unfolding line_cells
  line-listed l is at =
      let cells : Form Bytes → List ℕ = λ row. cells_in F (leaf_links row) in
      with_all-has l [] (flat_map cells P.rows) (flat-has cells P.rows at.leaf_at l (node leaf at.links) at.row (count-kept (λ k. is_cell (F k)) at.links l is at.has))

  -- and what is listed is a cell, and an element
  listed-found : (l : ℕ) → 0 < count l lines → IsFoundAt (λ row. cells_in F (leaf_links row)) P.rows l
  unfolding line_cells
  listed-found l some =
      let cells : Form Bytes → List ℕ = λ row. cells_in F (leaf_links row) in
      elim (with_all-from l [] (flat_map cells P.rows) some) as (λ _. IsFoundAt cells P.rows l) [
        | inl before ↦ absurd (omega (arith, before))
        | inr there ↦ flat-found cells P.rows l there
      ]

  pub listed-cell : (l : ℕ) → 0 < count l lines → is_cell (F l) ≡ true
  listed-cell l some = let found = listed-found l some in count-passes (λ k. is_cell (F k)) (leaf_links found.item) l found.has

  pub listed-element : (l : ℕ) → 0 < count l lines → IsElement F l
  listed-element l some =
      let found = listed-found l some in
      let has : 0 < count l (leaf_links found.item) = count-within (λ k. is_cell (F k)) (leaf_links found.item) l found.has in
      record { leaf_at = found.index; links = leaf_links found.item; row = found.at ∙ ap (λ r. Some r) (leaf-of found.item l has); has = has }

  -- its image stands after all places
  pub image-line : (l : ℕ) → 0 < count l lines → image_of P l ≡ N + place_in lines l
  image-line l some = ap (later N l) (position-is lines l some)

  pub image-other : (l : ℕ) → count l lines ≡ 0 → image_of P l ≡ l
  image-other l none = ap (later N l) (position-none lines l none)

  image-stays : (l : ℕ) → is_cell (F l) ≡ false → image_of P l ≡ l
  image-stays l none = elim (cases_lt 0 (count l lines)) as (λ _. image_of P l ≡ l) [
    | inl some ↦ absurd (not-both (sym none ∙ listed-cell l some))
    | inr absent ↦ image-other l (omega (arith, absent))
  ]

  text-at : (i : ℕ) → i < length lines → slice_get later_rows i ≡ Some (cell (change (text_in (F (get_or lines i 0)))))
  text-at i low =
      slice_get-map changed_cell (line_texts P) i
      ∙ ap (option_map changed_cell) (slice_get-map (λ l. text_in (F l)) lines i ∙ ap (option_map (λ l. text_in (F l))) (slice_get-get_or lines i 0 low))

  line-changed : (l : ℕ) (text : Bytes) → F l ≡ Some (cell text) → IsElement F l → slice_get rows (image_of P l) ≡ Some (cell (change text))
  line-changed l text is element =
      let listed : 0 < count l lines = line-listed l (ap is_cell is) element in
      let found = place-is lines l listed in
      let i : ℕ = place_in lines l in
      let same : text_in (F (get_or lines i 0)) ≡ text = ap (λ k. text_in (F k)) found.1 ∙ ap text_in is in
      ap (slice_get rows) (image-line l listed)
      ∙ get-after (map (with_images (image_of P)) P.rows) later_rows i (N + i) (omega (arith, length-map P.rows (with_images (image_of P))))
      ∙ text-at i found.0 ∙ ap (λ t. Some (cell (change t))) same

  -- what is said of the text of each line cell is said of this one
  pub listed-says : (Says : Bytes → Type 0) → All Says (line_texts P) → (l : ℕ) (text : Bytes) → F l ≡ Some (cell text) → IsElement F l → Says text
  listed-says Says all l text is element =
      let found = place-is lines l (line-listed l (ap is_cell is) element) in
      let i : ℕ = place_in lines l in
      let same : text_in (F (get_or lines i 0)) ≡ text = ap (λ k. text_in (F k)) found.1 ∙ ap text_in is in
      subst Says (get_or-map_default (λ k. text_in (F k)) lines i 0 ∙ same) (all i (text_in (F 0)) (omega (arith, found.0, length-map lines (λ k. text_in (F k)))))

  other-row : (row : Form Bytes) → is_of_vector row ≡ false → with_images (image_of P) row ≡ row
  other-row (cell text) none = refl
  other-row (node leaf links) none = cc
  other-row (node (inner height) links) none = cc
  other-row (node (trie d e n) links) none = refl
  other-row (node chain links) none = refl
  other-row (node pair links) none = refl
  other-row (node state links) none = refl

  vector-row : (row : Form Bytes) → is_of_vector row ≡ true → with_images (image_of P) row ≡ relink (image_of P) row
  vector-row (cell text) is = cc
  vector-row (node leaf links) is = refl
  vector-row (node (inner height) links) is = refl
  vector-row (node (trie d e n) links) is = cc
  vector-row (node chain links) is = cc
  vector-row (node pair links) is = cc
  vector-row (node state links) is = cc

  -- the mapped rows are changed ones
  pub rows-changed : IsChanged F (slice_get rows) (image_of P) change (IsElement F)
  rows-changed = record {
    others = record { kept = λ l row is none. own-at l row is ∙ ap (λ r. Some r) (other-row row none) };
    vectors = λ l row is vector. own-at l row is ∙ ap (λ r. Some r) (vector-row row vector);
    stays = image-stays;
    lines = line-changed;
    elements = λ l k links is some. record { leaf_at = l; links = links; row = is; has = some };
  }

  -- Each row leads down.

  -- each link of a row of the pool under its name is a link that it had, or the image of one
  link-from : (row : Form Bytes) (k : ℕ) → 0 < count k (links_of (Some (with_images (image_of P) row))) → (j : ℕ) × (0 < count j (links_of (Some row))) × ((k ≡ j) ⊎ (k ≡ image_of P j))
  link-from (cell text) k some = (k, some, inl refl)
  link-from (node leaf links) k some = let found = map-found (image_of P) links k some in (found.0, found.1, inr (sym found.2))
  link-from (node (inner height) links) k some = let found = map-found (image_of P) links k some in (found.0, found.1, inr (sym found.2))
  link-from (node (trie d e n) links) k some = (k, some, inl refl)
  link-from (node chain links) k some = (k, some, inl refl)
  link-from (node pair links) k some = (k, some, inl refl)
  link-from (node state links) k some = (k, some, inl refl)

  abbrev rank : ℕ → ℕ
  rank l = cond (ltb l N) l 0

  rank-own : (l : ℕ) → l < N → rank l ≡ l
  rank-own l low = ap (λ t. cond t l 0) (test-less l N low)

  rank-later : (l : ℕ) → N ≤ l → rank l ≡ 0
  rank-later l past = ap (λ t. cond t l 0) (test-not-less l N past)

  module _ (falls : LeadsDown (λ l. l) (links_in (forms_in P))) where
    -- a link that leads down from a row, or its image, leads down among all rows
    record IsLow (l k : ℕ) : Type 0 where
      pub down : rank k < rank l
      pub inside : k < length rows

    low-own : (l k : ℕ) → l < N → k < l → IsLow l k
    low-own l k within less = record { down = omega (arith, rank-own l within, rank-own k (omega (arith, within, less)), less); inside = omega (arith, within, less, rows-many) }

    low-image : (l j : ℕ) → l < N → j < l → IsLow l (image_of P j)
    low-image l j within less = elim (cases_lt 0 (count j lines)) as (λ _. IsLow l (image_of P j)) [
      | inl line ↦
          let at : image_of P j ≡ N + place_in lines j = image-line j line in
          let found = place-is lines j line in
          record { down = omega (arith, rank-own l within, rank-later (image_of P j) (omega (arith, at)), less); inside = omega (arith, at, found.0, rows-many) }
      | inr other ↦ subst (IsLow l) (sym (image-other j (omega (arith, other)))) (low-own l j within less)
    ]

    row-low : (l k : ℕ) (row : Form Bytes) → F l ≡ Some row → 0 < count k (links_of (Some (with_images (image_of P) row))) → IsLow l k
    row-low l k row is some =
        let from = link-from row k some in
        let within : l < N = slice_get_within P.rows l row is in
        let less : from.0 < l = falls l from.0 (let has : 0 < count from.0 (links_of (F l)) = subst (λ r. 0 < count from.0 (links_of r)) (sym is) from.1 in has) in
        elim from.2 as (λ _. IsLow l k) [
          | inl same ↦ subst (IsLow l) (sym same) (low-own l from.0 within less)
          | inr same ↦ subst (IsLow l) (sym same) (low-image l from.0 within less)
        ]

    -- a changed line has no links
    later-none : (l k : ℕ) → N ≤ l → 0 < count k (links_of (slice_get rows l)) → ⊥
    later-none l k past some = elim (cases_lt (l - N) (length lines)) as (λ _. ⊥) [
      | inl low ↦
          let at : slice_get rows l ≡ Some (cell (change (text_in (F (get_or lines (l - N) 0))))) =
          get-after (map (with_images (image_of P)) P.rows) later_rows (l - N) l (omega (arith, past, length-map P.rows (with_images (image_of P)))) ∙ text-at (l - N) low in
          omega (arith, some, ap (λ r. count k (links_of r)) at)
      | inr end ↦ omega (arith, some, ap (λ r. count k (links_of r)) (slice_get_past rows l (omega (arith, end, past, rows-many))))
    ]

    rows-low : (l k : ℕ) → HasLink (links_from rows) l k → IsLow l k
    rows-low l k has = elim (cases_lt l N) as (λ _. IsLow l k) [
      | inl low ↦
          let row : Form Bytes = get_or P.rows l (node leaf []) in
          let is : F l ≡ Some row = slice_get-get_or P.rows l (node leaf []) low in
          row-low l k row is (subst (λ r. 0 < count k (links_of r)) (own-at l row is) has)
      | inr past ↦ absurd (later-none l k (omega (arith, past)) has)
    ]

    pub rows-linked : AreLinkedBelow (length rows) (links_from rows)
    rows-linked = record { rank = rank; falls = λ l k has. (rows-low l k has).down; inside = λ l k has. (rows-low l k has).inside }

    pub rows-rooted : (roots : List ℕ) → ((r : ℕ) → 0 < count r roots → r < N) → IsRooted (length rows) (slice_get rows) roots
    rows-rooted roots low = rooted-below rows rows-linked roots (λ r root. omega (arith, low r root, rows-many))
