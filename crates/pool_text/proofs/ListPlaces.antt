-- The places of the rows that are listed.
use Rattle.std.proofs.Common.{◌≡◌, ◌≢◌, ℕ, ◌<◌, ◌≤◌, true, false, eqb, Option, Some, slice_get, List, [], ◌∷◌, ◌++◌, map, length, get_or, set, ap, sym, subst, ◌∙◌, arith, inl, inr}
use Rattle.std.specs.Prelude.{slice_index}
use Rattle.std.specs.List.{list_any}
use Rattle.std.proofs.lemmas.Bool.{cases_eq, eq-eqb, ne_eqb}
use Rattle.std.proofs.lemmas.List.{get_or-set_same, get_or-set_other, length-set}
use Rattle.node_heap.specs.Links.{count}
use Rattle.node_heap.specs.Forms.{Form, links_of}
use Rattle.node_heap.proofs.Counts.{test_other, count-cons}
use Rattle.pool_order.proofs.Firsts.{any_is, count-append}
use Rattle.pool_order.proofs.Walked.{get_or-default}
use Rattle.pool_order.specs.Order.{order}
use Rattle.pool_order.specs.Laws.{AreLinkedBelow}
use Rattle.pool_text.specs.Rows.{Bytes}
use Rattle.pool_text.specs.Pool.{links_from, place_in, relink}
use Rattle.pool_text.specs.Listed.{HasPlaces}
use Rattle.pool_text.specs.declared.from_rows.Listed.{Listed}
use Rattle.pool_text.proofs.Placed.{place-is, place-after, place-kept, item_in}
use Rattle.pool_text.proofs.Renamed.{map-same, relink-same}
use Rattle.pool_text.proofs.ListWalk.{listed-low, listed-links, listed-roots}

found : (rows : List ℕ) (row : ℕ) → 0 < count row rows → list_any (eqb row) rows ≡ true
found rows row some = elim (any_is row rows) as (λ _. list_any (eqb row) rows ≡ true) [ inl there ↦ there.0 | inr none ↦ absurd (omega (arith, some, none.1)) ]

pub not-listed : (rows : List ℕ) (row : ℕ) → false ≡ list_any (eqb row) rows → count row rows ≡ 0
not-listed rows row is = elim (any_is row rows) as (λ _. count row rows ≡ 0) [ inl there ↦ absurd (let e : false ≡ true = is ∙ there.0 in cc) | inr none ↦ none.1 ]

module _ (n : ℕ) (listed : Listed) (has : HasPlaces n listed) (row : ℕ) where
  abbrev rows : List ℕ
  rows = listed.rows.items

  abbrev places : List ℕ
  places = listed.places.items

  -- the place of a row that is listed has that row
  there : 0 < count row rows → (slice_index places row < length rows) × (slice_index rows (slice_index places row) ≡ row)
  there some =
      let is = place-is rows row some in
      (omega (arith, has.at row some, is.0), ap (λ i. get_or rows i 0) (has.at row some) ∙ is.1)

  -- a row whose place is past the end isn't listed
  pub past-end : length rows ≤ slice_index places row → false ≡ list_any (eqb row) rows
  past-end past = elim (any_is row rows) as (λ _. false ≡ list_any (eqb row) rows) [ inl listed ↦ absurd (omega (arith, past, (there listed.1).0)) | inr none ↦ sym none.0 ]

  -- another is listed exactly where its place has it
  pub at-place : (r : ℕ) → slice_index places row < length rows → r ≡ slice_index rows (slice_index places row) → eqb r row ≡ list_any (eqb row) rows
  at-place r low is = elim (cases_eq r row) as (λ _. eqb r row ≡ list_any (eqb row) rows) [
    | inl same ↦ eq-eqb r row same ∙ sym (found rows row (item_in rows (slice_index places row) row low (stands same)))
    | inr other ↦ ne_eqb r row other ∙ sym (missed other)
  ]
    where
      stands : r ≡ row → row ≡ get_or rows (slice_index places row) row
      stands same = sym same ∙ is ∙ get_or-default rows (slice_index places row) 0 row low

      missed : r ≢ row → list_any (eqb row) rows ≡ false
      missed other = elim (any_is row rows) as (λ _. list_any (eqb row) rows ≡ false) [ inl listed ↦ absurd (other (is ∙ (there listed.1).1)) | inr none ↦ none.0 ]

  -- one more row has a place
  pub one-more : row < n → count row rows ≡ 0 → (new : Listed) → new.rows.items ≡ rows ++ row ∷ [] → new.places.items ≡ set places row (length rows) → HasPlaces n new
  one-more low none new rows_are places_are = record { many = ap length places_are ∙ length-set places row (length rows) ∙ has.many; at = at }
    where
      at : (k : ℕ) → 0 < count k new.rows.items → slice_index new.places.items k ≡ place_in new.rows.items k
      at k some = elim (cases_eq k row) as (λ _. slice_index new.places.items k ≡ place_in new.rows.items k) [
        | inl same ↦
            ap (λ ps. get_or ps k 0) places_are ∙ ap (λ l. get_or (set places row (length rows)) l 0) same ∙ get_or-set_same places row (length rows) 0 (omega (arith, low, has.many))
            ∙ sym (ap (λ ks. place_in ks k) rows_are ∙ ap (place_in (rows ++ row ∷ [])) same ∙ place-after rows [] row none)
        | inr other ↦
            let old : 0 < count k rows = omega (arith, some, ap (count k) rows_are, count-append k rows (row ∷ []), count-cons k row [], test_other row k (λ e. other (sym e))) in
            ap (λ ps. get_or ps k 0) places_are ∙ get_or-set_other places row k (length rows) 0 other ∙ has.at k old ∙ sym (ap (λ ks. place_in ks k) rows_are ∙ place-kept rows (row ∷ []) k old)
      ]

-- what a walk has listed of the rows of a list
module _ (forms : List (Form Bytes)) (linked : AreLinkedBelow (length forms) (links_from forms)) (roots : List ℕ) (low : (r : ℕ) → 0 < count r roots → r < length forms)
    (listed : Listed) (are : listed.rows.items ≡ order (length forms) (links_from forms) roots) (has : HasPlaces (length forms) listed) where
  in-order : (k : ℕ) → 0 < count k listed.rows.items → 0 < count k (order (length forms) (links_from forms) roots)
  in-order k some = subst (λ (ks : List ℕ). 0 < count k ks) are some

  in-rows : (k : ℕ) → 0 < count k (order (length forms) (links_from forms) roots) → 0 < count k listed.rows.items
  in-rows k some = subst (λ (ks : List ℕ). 0 < count k ks) (sym are) some

  pub row-low : (k : ℕ) → 0 < count k listed.rows.items → k < length forms
  row-low k some = listed-low forms linked roots low k (in-order k some)

  link-there : (row k : ℕ) → 0 < count row listed.rows.items → 0 < count k (links_from forms row) → 0 < count k listed.rows.items
  link-there row k some link = in-rows k (listed-links forms linked roots low row k (in-order row some) link)

  pub link-low : (row : ℕ) (form : Form Bytes) → 0 < count row listed.rows.items → slice_get forms row ≡ Some form → (k : ℕ) → 0 < count k (links_of (Some form)) → k < length listed.places.items
  link-low row form some is k link = omega (arith, has.many, row-low k (link-there row k some (omega (arith, link, ap (λ (r : Option (Form Bytes)). count k (links_of r)) is))))

  pub root-low : (k : ℕ) → 0 < count k roots → k < length listed.places.items
  root-low k root = omega (arith, has.many, low k root)

  -- the numbers of the links of a listed row, and of the roots, are their places
  pub relinked-at-places : (row : ℕ) (form : Form Bytes) → 0 < count row listed.rows.items → slice_get forms row ≡ Some form → relink (slice_index listed.places.items) form ≡ relink (place_in listed.rows.items) form
  relinked-at-places row form some is =
      relink-same (slice_index listed.places.items) (place_in listed.rows.items) form
      (λ k link. has.at k (link-there row k some (omega (arith, link, ap (λ (r : Option (Form Bytes)). count k (links_of r)) is))))

  pub roots-at-places : map (slice_index listed.places.items) roots ≡ map (place_in listed.rows.items) roots
  roots-at-places = map-same (slice_index listed.places.items) (place_in listed.rows.items) roots (λ k root. has.at k (in-rows k (listed-roots forms linked roots low k root)))
