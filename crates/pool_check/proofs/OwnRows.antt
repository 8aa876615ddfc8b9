-- A pool is the pool of the rows that stand for it, so one of valid rows is the pool of its own rows.
use Rattle.std.proofs.Common.{◌≡◌, ℕ, zero, suc, ◌<◌, ◌≤◌, true, Option, Some, None, IsSome, option_map, slice_get, List, [], ◌∷◌, map, length, get_or, refl, ap, sym, subst, ◌∙◌, arith, inl, inr}
use Rattle.std.specs.Prelude.{slice_index}
use Rattle.std.specs.List.{range_with_len}
use Rattle.std.proofs.lemmas.Bool.{cases_eq}
use Rattle.std.proofs.lemmas.List.{map-id}
use Rattle.std.proofs.lemmas.List.FromFn.{length-range_with_len, get_or-range_with_len}
use Rattle.std.proofs.lemmas.Option.{slice_get-get_or}
use Rattle.std.proofs.lemmas.Slice.Eq.{bytes_eq-Decides}
use Rattle.node_heap.specs.Links.{count, Reaches, here, below}
use Rattle.node_heap.specs.Forms.{Form, Forms, cell, node, links_of, links_in}
use Rattle.node_heap.proofs.Counts.{test_same, count-cons}
use Rattle.node_heap.proofs.Trees.{map-same}
use Rattle.rrb_core.proofs.LinkCounts.{count-at}
use Rattle.pool_order.specs.Order.{order}
use Rattle.pool_order.specs.Laws.{IsOrder}
use Rattle.pool_order.proofs.Places.{order-is}
use Rattle.pool_text.specs.Rows.{Bytes}
use Rattle.pool_text.specs.Rules.{Rules}
use Rattle.pool_text.specs.Pool.{forms_in, row_count, order_in, place_in, relink, settings_of, pool}
use Rattle.pool_text.specs.Renaming.{IsOfItself}
use Rattle.pool_text.specs.declared.pool.Pool.{Pool}
use Rattle.pool_text.proofs.Gathered.{made}
use Rattle.pool_text.proofs.Placed.{place-first, place-later}
use Rattle.pool_text.proofs.PoolRows.{AreThere, rows_of, length-rows, row-named}
use Rattle.pool_text.proofs.Renamed.{map-back, relink-back}
use Rattle.pool_check.specs.Rows.{links_lead_back}
use Rattle.pool_check.specs.Damages.{rows_in_order, HasValidRows, IsValidBy}
use Rattle.pool_check.proofs.PoolLaws.{valid-rows}
use Rattle.pool_check.proofs.TestLemmas.{leads-down, roots-low}

-- ## Places

-- where no link stands twice, the link at a place has that place
pub place-at : (ks : List ℕ) → ((k : ℕ) → count k ks ≤ 1) → (i : ℕ) → i < length ks → place_in ks (get_or ks i 0) ≡ i
place-at [] once i low = absurd (omega arith)
place-at (k ∷ ks) once zero low = place-first k k ks refl
place-at (k ∷ ks) once (suc i) low =
    let l : ℕ = get_or ks i 0 in
    let at : 0 < count l ks = count-at ks i 0 (omega arith) in
    elim (cases_eq l k) as (λ _. place_in (k ∷ ks) l ≡ suc i) [
      | inl same ↦ absurd (omega (arith, at, once l, count-cons l k ks, test_same k l (sym same)))
      | inr other ↦ omega (arith, place-later l k ks other, place-at ks (λ j. omega (arith, once j, count-cons j k ks)) i (omega arith))
    ]

-- no two places have one link
pub one-place : (ks : List ℕ) → ((k : ℕ) → count k ks ≤ 1) → (i j : ℕ) → i < length ks → j < length ks → get_or ks i 0 ≡ get_or ks j 0 → i ≡ j
one-place ks once i j low low' same = sym (place-at ks once i low) ∙ ap (place_in ks) same ∙ place-at ks once j low'

-- ## Links that stay

map-own : (f : ℕ → ℕ) (ks : List ℕ) → ((k : ℕ) → 0 < count k ks → f k ≡ k) → map f ks ≡ ks
map-own f ks each = map-same f (λ k. k) ks each ∙ map-id ks

relink-own : {K : Type 0} (f : ℕ → ℕ) (r : Option (Form K)) → ((k : ℕ) → 0 < count k (links_of r) → f k ≡ k) → option_map (relink f) r ≡ r
relink-own f None each = refl
relink-own f (Some (cell x)) each = refl
relink-own f (Some (node kind links)) each = ap (λ ks. Some (node kind ks)) (map-own f links each)

same-items : {X : Type 0} (xs ys : List X) → length xs ≡ length ys → ((i : ℕ) → i < length xs → slice_get xs i ≡ slice_get ys i) → xs ≡ ys
same-items [] [] many each = refl
same-items [] (y ∷ ys) many each = absurd (omega (arith, many))
same-items (x ∷ xs) [] many each = absurd (omega (arith, many))
same-items (x ∷ xs) (y ∷ ys) many each =
    let e : Some x ≡ Some y = each 0 (omega arith) in
    let first : x ≡ y = cc in
    ap (λ z. z ∷ xs) first ∙ ap (λ zs. y ∷ zs) (same-items xs ys (omega (arith, many)) (λ i low. each (suc i) (omega (arith, low))))

-- ## Rows that stand for a pool

-- at the link of each place stands the pool's row, with links for places, and no link has two places
pub record HaveRows (G : Forms Bytes) (links : List ℕ) (P : Pool) : Type 0 where
  pub many : length links ≡ row_count P
  pub forms : (p : ℕ) → p < length links → G (slice_index links p) ≡ option_map (relink (slice_index links)) (forms_in P p)
  pub once : (k : ℕ) → count k links ≤ 1
  pub there : AreThere G links

module _ (G : Forms Bytes) (links : List ℕ) (P : Pool) (is : HaveRows G links P) (back : links_lead_back P ≡ true) where
  same-rows : rows_of G (place_in links) links ≡ P.rows
  same-rows =
      let many : length (rows_of G (place_in links) links) ≡ length links = length-rows G (place_in links) links is.there in
      same-items (rows_of G (place_in links) links) P.rows (many ∙ is.many)
      (λ i low.
      let inside : i < length links = omega (arith, low, many) in
      row-named G (place_in links) links is.there i inside ∙ ap (option_map (relink (place_in links))) (is.forms i inside)
      ∙ relink-back (slice_index links) (place_in links) (forms_in P i) (λ k has. place-at links is.once k (omega (arith, inside, leads-down P back i k has))))

  -- where the links stand in their order, the pool of the links of the roots is the pool itself
  pub pool-of-rows : (n : ℕ) → order n (links_in G) (map (slice_index links) P.roots) ≡ links → pool n G (map (slice_index links) P.roots) (settings_of P) ≡ P
  unfolding pool
  pool-of-rows n listed =
      let roots : List ℕ = map (slice_index links) P.roots in
      let roots_back : map (place_in links) roots ≡ P.roots =
      map-back (slice_index links) (place_in links) P.roots (λ k has. place-at links is.once k (omega (arith, roots-low P back k has, is.many))) in
      ap (λ (ks : List ℕ). made (settings_of P) (rows_of G (place_in ks) ks) (map (place_in ks) roots)) listed
      ∙ ap (λ (rows : List (Form Bytes)). made (settings_of P) rows (map (place_in links) roots)) same-rows ∙ ap (made (settings_of P) P.rows) roots_back

-- ## Pools of valid rows

pub in-order : {rules : Rules} (P : Pool) → HasValidRows rules P → order_in P ≡ range_with_len 0 (row_count P)
unfolding rows_in_order
in-order P v = (bytes_eq-Decides (order_in P) (range_with_len 0 (row_count P))).0 v.in_order

module _ {rules : Rules} (P : Pool) (v : HasValidRows rules P) where
  pub reached-low : (r p : ℕ) → Reaches (links_in (forms_in P)) r p → r < row_count P → p < row_count P
  reached-low a b (here l) low = low
  reached-low a b (below l k m has down) low = reached-low k m down (omega (arith, low, leads-down P v.passed.lead_back l k has))

  pub own-order : IsOrder (links_in (forms_in P)) P.roots (order_in P)
  own-order = order-is (λ l. l) (links_in (forms_in P)) (leads-down P v.passed.lead_back) (row_count P) P.roots (roots-low P v.passed.lead_back)

  abbrev own_places : List ℕ
  own_places = range_with_len 0 (row_count P)

  own-place : (p : ℕ) → p < row_count P → slice_index own_places p ≡ p
  own-place p low = omega (arith, get_or-range_with_len 0 (row_count P) p 0 low)

  own-low : (p : ℕ) → 0 < count p own_places → p < row_count P
  own-low p has =
      let from = own-order.reached p (omega (arith, has, ap (count p) (in-order P v))) in
      reached-low from.0 p from.2 (roots-low P v.passed.lead_back from.0 from.1)

  own-rows : HaveRows (forms_in P) own_places P
  own-rows = record {
    many = length-range_with_len 0 (row_count P);
    forms = λ p inside.
        let low : p < row_count P = omega (arith, inside, length-range_with_len 0 (row_count P)) in
        ap (forms_in P) (own-place p low)
        ∙ sym (relink-own (slice_index own_places) (forms_in P p) (λ k has. own-place k (omega (arith, low, leads-down P v.passed.lead_back p k has))));
    once = λ k. omega (arith, own-order.once k, ap (count k) (in-order P v));
    there = λ p has. subst IsSome (sym (slice_get-get_or P.rows p (cell []) (own-low p has))) refl;
  }

  pub own-itself : IsOfItself P
  own-itself =
      let roots : map (slice_index own_places) P.roots ≡ P.roots = map-own (slice_index own_places) P.roots (λ r root. own-place r (roots-low P v.passed.lead_back r root)) in
      subst (λ (ks : List ℕ). pool (row_count P) (forms_in P) ks (settings_of P) ≡ P) roots
      (pool-of-rows (forms_in P) own_places P own-rows v.passed.lead_back (row_count P) (ap (order (row_count P) (links_in (forms_in P))) roots ∙ in-order P v))

-- a valid pool is the pool of its own rows
pub of-itself : {rules : Rules} (P : Pool) → IsValidBy rules P → IsOfItself P
of-itself P v = own-itself P (valid-rows P v)
