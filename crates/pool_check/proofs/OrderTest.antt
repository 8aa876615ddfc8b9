-- The order of a pool's rows, listed root after root.
use Rattle.std.proofs.Common.{◌≡◌, ℕ, ◌+◌, ◌<◌, ◌≤◌, true, false, List, [], ◌++◌, map, length, get_or, take, drop, refl, ap, sym, subst, ◌∙◌, arith}
use Rattle.std.specs.Prelude.{nat_eq, nat_lt}
use Rattle.std.specs.List.{flat_map, list_all, range_with_len}
use Rattle.std.proofs.lemmas.List.{length-map, take-append-drop}
use Rattle.std.proofs.lemmas.List.Concat.{flat_map-append}
use Rattle.node_heap.specs.Links.{count}
use Rattle.node_heap.specs.Forms.{Form, links_in}
use Rattle.pool_order.specs.Order.{with_all_new, firsts, places, order}
use Rattle.pool_order.proofs.Firsts.{with_all-append}
use Rattle.pool_order.proofs.Walked.{firsts-more, take_all, get_or-default, count-get_or}
use Rattle.pool_text.specs.Rows.{Bytes, row_form}
use Rattle.pool_text.specs.Pool.{links_from, forms_in, row_count, order_in}
use Rattle.pool_text.specs.declared.pool.Pool.{Pool}
use Rattle.pool_text.specs.declared.row.Row.{Row}
use Rattle.pool_check.specs.Rows.{rows_lead_back, links_lead_back}
use Rattle.pool_check.specs.Damages.{rows_in_order}
use Rattle.pool_check.specs.Counted.{CountsUp}
use Rattle.pool_check.proofs.TestLemmas.{and-first, roots-low}
use Rattle.pool_check.proofs.CountedLemmas.{counted-before, not-counted, counted-test}

-- where the whole order counts up, so does what the first roots list
front-counted : (f : ℕ → List ℕ) (roots : List ℕ) (j c : ℕ) → firsts (flat_map f roots) ≡ range_with_len 0 c → CountsUp (firsts (flat_map f (take j roots)))
front-counted f roots j c e =
    let front : List ℕ = flat_map f (take j roots) in
    let rest : List ℕ = flat_map f (drop j roots) in
    let split : front ++ rest ≡ flat_map f roots = sym (flat_map-append f (take j roots) (drop j roots)) ∙ ap (flat_map f) (take-append-drop j roots) in
    counted-before (firsts front) rest c (sym (with_all-append [] front rest) ∙ ap firsts split ∙ e)

module _ (P : Pool) (rows : List Row) (roots : List ℕ) (are : map row_form rows ≡ P.rows) (same : roots ≡ P.roots) where
  abbrev pub places_in : ℕ → List ℕ
  places_in = places (row_count P) (links_in (forms_in P))

  abbrev pub places_read : ℕ → List ℕ
  places_read = places (length rows) (links_from (map row_form rows))

  rows-counted : length rows ≡ row_count P
  rows-counted = sym (length-map rows row_form) ∙ ap (λ (rs : List (Form Bytes)). length rs) are

  places-are : (l : ℕ) → places_read l ≡ places_in l
  places-are l = ap (λ m. places m (links_from (map row_form rows)) l) rows-counted ∙ ap (λ rs. places (row_count P) (links_from rs) l) are

  pub root-low : links_lead_back P ≡ true → (i : ℕ) → i < length roots → get_or roots i 0 < length rows
  root-low back i low = omega (arith, roots-low P back (get_or roots i 0) (subst (λ ks. 0 < count (get_or roots i 0) ks) same (count-get_or roots i low)), rows-counted)

  pub rows-back : links_lead_back P ≡ true → rows_lead_back 0 (map row_form rows) ≡ true
  unfolding links_lead_back
  rows-back back = ap (rows_lead_back 0) are ∙ and-first (rows_lead_back 0 P.rows) (list_all (λ k. nat_lt k (row_count P)) P.roots) back

  -- what is listed after one more root
  pub order-more : (i next : ℕ) (ks : List ℕ) → firsts (flat_map places_in (take i roots)) ≡ range_with_len 0 next → i < length roots → with_all_new (range_with_len 0 next) (places_read (get_or roots i 0)) ≡ ks
      → firsts (flat_map places_in (take (i + 1) roots)) ≡ ks
  order-more i next ks before low e =
      sym (firsts-more places_in (range_with_len 0 next) ks i (get_or roots i 0) roots (sym before) low (get_or-default roots i 0 (get_or roots i 0) low) (sym e ∙ ap (with_all_new (range_with_len 0 next)) (places-are (get_or roots i 0))))

  pub order-stops : (i next : ℕ) → firsts (flat_map places_in (take i roots)) ≡ range_with_len 0 next → i < length roots → ¬ CountsUp (with_all_new (range_with_len 0 next) (places_read (get_or roots i 0))) → false ≡ rows_in_order P
  unfolding rows_in_order order
  order-stops i next before low none =
      not-counted (order_in P) (row_count P)
      (λ e.
      let whole : firsts (flat_map places_in roots) ≡ range_with_len 0 (row_count P) = ap (λ ks. firsts (flat_map places_in ks)) same ∙ e in
      none (subst CountsUp (order-more i next (with_all_new (range_with_len 0 next) (places_read (get_or roots i 0))) before low refl) (front-counted places_in roots (i + 1) (row_count P) whole)))

  pub order-ends : (i next : ℕ) → firsts (flat_map places_in (take i roots)) ≡ range_with_len 0 next → length roots ≤ i → nat_eq next (length rows) ≡ rows_in_order P
  unfolding rows_in_order order
  order-ends i next before all =
      ap (nat_eq next) rows-counted
      ∙ counted-test (order_in P) next (row_count P) (sym (ap (λ ks. firsts (flat_map places_in ks)) (take_all roots i all ∙ same)) ∙ before)
