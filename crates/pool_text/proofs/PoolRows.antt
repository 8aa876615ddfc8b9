-- A pool has the rows that its roots reach, under their places.
use Rattle.std.proofs.Common.{◌≡◌, ℕ, zero, suc, ◌<◌, ◌≤◌, IsSome, Option, Some, None, option_map, slice_get, List, [], ◌∷◌, map, length, get_or, refl, ap, sym, ◌∙◌, arith, inl, inr}
use Rattle.std.specs.Prelude.{slice_index}
use Rattle.std.specs.List.{filter_map, cons_option}
use Rattle.std.proofs.lemmas.Bool.{cases_lt}
use Rattle.node_heap.specs.Links.{count, Reaches, LeadsDown}
use Rattle.node_heap.specs.Forms.{Form, Forms, links_of, links_in}
use Rattle.node_heap.proofs.Counts.{test_same, count-cons}
use Rattle.node_heap.proofs.Reach.{Reaches-trans}
use Rattle.pool_order.specs.Order.{order}
use Rattle.pool_order.specs.Laws.{IsOrder}
use Rattle.pool_order.proofs.Places.{order-is}
use Rattle.pool_text.specs.Rows.{Bytes}
use Rattle.pool_text.specs.Pool.{forms_in, row_count, place_in, relink, Settings, pool}
use Rattle.pool_text.specs.Renaming.{IsRenamed, IsRooted}
use Rattle.pool_text.proofs.Placed.{place-is, place-low}
use Rattle.pool_text.proofs.Renamed.{map-found, links-relink, turn-back}

module _ {K : Type 0} where
  abbrev pub AreThere : Forms K → List ℕ → Type 0
  AreThere G ks = (k : ℕ) → 0 < count k ks → IsSome (G k)

  -- the rows of these links, under new links
  abbrev pub rows_of : Forms K → (ℕ → ℕ) → List ℕ → List (Form K)
  rows_of G f ks = filter_map (λ k. option_map (relink f) (G k)) ks

  one-row : (f : ℕ → ℕ) (r : Option (Form K)) → IsSome r → (x : Form K) × (option_map (relink f) r ≡ Some x)
  one-row f None live = absurd cc
  one-row f (Some x) live = (relink f x, refl)

  pub length-rows : (G : Forms K) (f : ℕ → ℕ) (ks : List ℕ) → AreThere G ks → length (rows_of G f ks) ≡ length ks
  length-rows G f [] live = refl
  length-rows G f (k ∷ ks) live =
      let first = one-row f (G k) (live k (omega (arith, count-cons k k ks, test_same k k refl))) in
      ap (λ o. length (cons_option o (rows_of G f ks))) first.1 ∙ ap suc (length-rows G f ks (λ j some. live j (omega (arith, count-cons j k ks, some))))

  pub row-named : (G : Forms K) (f : ℕ → ℕ) (ks : List ℕ) → AreThere G ks → (i : ℕ) → i < length ks → slice_get (rows_of G f ks) i ≡ option_map (relink f) (G (get_or ks i 0))
  row-named G f [] live i low = absurd (omega arith)
  row-named G f (k ∷ ks) live zero low =
      let first = one-row f (G k) (live k (omega (arith, count-cons k k ks, test_same k k refl))) in
      ap (λ o. slice_get (cons_option o (rows_of G f ks)) 0) first.1 ∙ sym first.1
  row-named G f (k ∷ ks) live (suc i) low =
      let first = one-row f (G k) (live k (omega (arith, count-cons k k ks, test_same k k refl))) in
      ap (λ o. slice_get (cons_option o (rows_of G f ks)) (suc i)) first.1 ∙ row-named G f ks (λ j some. live j (omega (arith, count-cons j k ks, some))) i (omega arith)

  past : (rows : List (Form K)) (i : ℕ) → length rows ≤ i → slice_get rows i ≡ None
  past [] i h = refl
  past (r ∷ rs) zero h = absurd (omega arith)
  past (r ∷ rs) (suc i) h = past rs i (omega arith)

module _ (n : ℕ) (G : Forms Bytes) (roots : List ℕ) (rooted : IsRooted n G roots) where
  pub order-of-pool : IsOrder (links_in G) roots (order n (links_in G) roots)
  order-of-pool = order-is rooted.rank (links_in G) rooted.falls n roots rooted.low

  -- every link of the order names a row
  pub order-there : AreThere G (order n (links_in G) roots)
  order-there k some = let from = order-of-pool.reached k some in rooted.there from.0 k from.1 from.2

  pub pool-length : (settings : Settings) → row_count (pool n G roots settings) ≡ length (order n (links_in G) roots)
  unfolding pool
  pool-length settings = length-rows G (place_in (order n (links_in G) roots)) (order n (links_in G) roots) order-there

  pub pool-renamed : (settings : Settings) (r l : ℕ) → 0 < count r roots → Reaches (links_in G) r l → IsRenamed (place_in (order n (links_in G) roots)) G (forms_in (pool n G roots settings)) l
  unfolding pool
  pool-renamed settings r l root to m down =
      let ks : List ℕ = order n (links_in G) roots in
      let at = place-is ks m (order-of-pool.all r m root (Reaches-trans (links_in G) r l m to down)) in
      row-named G (place_in ks) ks order-there (place_in ks m) at.0 ∙ ap (λ k. option_map (relink (place_in ks)) (G k)) at.1

  pub place-back : (r l : ℕ) → 0 < count r roots → Reaches (links_in G) r l → slice_index (order n (links_in G) roots) (place_in (order n (links_in G) roots) l) ≡ l
  place-back r l root to = (place-is (order n (links_in G) roots) l (order-of-pool.all r l root to)).1

  pub pool-back : (settings : Settings) (r l : ℕ) → 0 < count r roots → Reaches (links_in G) r l → IsRenamed (slice_index (order n (links_in G) roots)) (forms_in (pool n G roots settings)) G (place_in (order n (links_in G) roots) l)
  pool-back settings r l root to =
      turn-back (place_in (order n (links_in G) roots)) (slice_index (order n (links_in G) roots)) G (forms_in (pool n G roots settings)) l (pool-renamed settings r l root to)
      (λ m down. place-back r m root (Reaches-trans (links_in G) r l m to down))

  -- each link of a row of the pool is below the row
  pub pool-ranked : (settings : Settings) → LeadsDown (λ i. i) (links_in (forms_in (pool n G roots settings)))
  unfolding pool
  pool-ranked settings i j has =
      let ks : List ℕ = order n (links_in G) roots in
      let rows : List (Form Bytes) = rows_of G (place_in ks) ks in
      let low : i < length ks = elim (cases_lt i (length ks)) as (λ _. i < length ks) [
        | inl less ↦ less
        | inr more ↦ absurd (omega (arith, has, ap (λ r. count j (links_of r)) (past rows i (omega (arith, more, length-rows G (place_in ks) ks order-there)))))
      ] in
      let e : links_of (slice_get rows i) ≡ map (place_in ks) (links_of (G (get_or ks i 0))) = ap links_of (row-named G (place_in ks) ks order-there i low) ∙ links-relink (place_in ks) (G (get_or ks i 0)) in
      let found = map-found (place_in ks) (links_of (G (get_or ks i 0))) j (omega (arith, has, ap (count j) e)) in
      omega (arith, found.2, place-low ks found.0 i (order-of-pool.ready i low found.0 found.1))
