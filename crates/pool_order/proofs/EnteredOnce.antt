-- The order is what a walk lists that enters no row twice.
use Rattle.std.proofs.Common.{◌≡◌, ◌⊎◌, ℕ, zero, suc, ◌<◌, List, [], ◌∷◌, ◌++◌, refl, ap, sym, subst, ◌∙◌, arith, inl, inr}
use Rattle.std.specs.List.{flat_map, fold}
use Rattle.std.proofs.lemmas.Bool.{cases_eq}
use Rattle.node_heap.specs.Links.{Links, count, HasLink, LeadsDown}
use Rattle.node_heap.proofs.Counts.{test_same, test_other, count-cons}
use Rattle.pool_order.specs.Order.{with_new, with_all_new, places, order, listed}
use Rattle.pool_order.proofs.Firsts.{count-append, any_is, with_new-has, with_new-keeps, with_new-from, with_all-absorbs, with_all-append}

-- the links of each link of the list are in it
abbrev IsClosed : Links → List ℕ → Type 0
IsClosed L ks = (k j : ℕ) → 0 < count k ks → HasLink L k j → 0 < count j ks

-- what a list has that a link was listed to
record Lists (L : Links) (old new : List ℕ) (l : ℕ) : Type 0 where
  pub closed : IsClosed L new
  pub here : 0 < count l new
  pub kept : (k : ℕ) → 0 < count k old → 0 < count k new

-- what stands in an appended list stands in one of the two
either : (j : ℕ) (xs ys : List ℕ) → 0 < count j (xs ++ ys) → (0 < count j xs) ⊎ (0 < count j ys)
either j xs ys some = by_first (count j xs) refl
  where
    by_first : (c : ℕ) → count j xs ≡ c → (0 < count j xs) ⊎ (0 < count j ys)
    by_first (suc c) e = inl (omega (arith, e))
    by_first zero e = inr (omega (arith, e, some, count-append j xs ys))

flat_map-within : (f : ℕ → List ℕ) (xs ks : List ℕ) → ((x : ℕ) → 0 < count x xs → (j : ℕ) → 0 < count j (f x) → 0 < count j ks) → (j : ℕ) → 0 < count j (flat_map f xs) → 0 < count j ks
flat_map-within f [] ks each j some = absurd (omega arith)
flat_map-within f (x ∷ xs) ks each j some = elim (either j (f x) (flat_map f xs) some) as (λ _. 0 < count j ks) [
  | inl first ↦ each x (omega (arith, count-cons x x xs, test_same x x refl)) j first
  | inr rest ↦ flat_map-within f xs ks (λ k later. each k (omega (arith, count-cons k x xs, later))) j rest
]

-- all places of a link of a closed list are in it
places-closed : (L : Links) (ks : List ℕ) → IsClosed L ks → (n l : ℕ) → 0 < count l ks → (j : ℕ) → 0 < count j (places n L l) → 0 < count j ks
unfolding places
places-closed L ks closed zero l has j some = absurd (omega arith)
places-closed L ks closed (suc n) l has j some = elim (either j (flat_map (places n L) (L l)) (l ∷ []) some) as (λ _. 0 < count j ks) [
  | inl front ↦ flat_map-within (places n L) (L l) ks (λ k link. places-closed L ks closed n k (closed l k has link)) j front
  | inr last ↦ elim (cases_eq l j) as (λ _. 0 < count j ks) [
    | inl same ↦ omega (arith, has, ap (λ k. count k ks) same)
    | inr other ↦ absurd (omega (arith, last, count-cons j l [], test_other l j other))
  ]
]

module _ (L : Links) (rank : ℕ → ℕ) (falls : LeadsDown rank L) where
  abbrev Is : ℕ → List ℕ → ℕ → Type 0
  Is n seen l = (with_all_new seen (places n L l) ≡ listed n L seen l) × Lists L seen (listed n L seen l) l

  -- the same over links, one after the other
  abbrev AreAll : ℕ → List ℕ → List ℕ → Type 0
  AreAll n seen xs =
      (with_all_new seen (flat_map (places n L) xs) ≡ fold (listed n L) seen xs) × IsClosed L (fold (listed n L) seen xs)
      × ((k : ℕ) → 0 < count k xs → 0 < count k (fold (listed n L) seen xs)) × ((k : ℕ) → 0 < count k seen → 0 < count k (fold (listed n L) seen xs))

  all-listed : (n : ℕ) → (xs : List ℕ) → ((k : ℕ) → 0 < count k xs → (seen : List ℕ) → IsClosed L seen → Is n seen k) → (seen : List ℕ) → IsClosed L seen → AreAll n seen xs
  all-listed n [] each seen closed = (refl, closed, (λ k some. absurd (omega arith)), λ k some. some)
  all-listed n (x ∷ xs) each seen closed =
      let first : Is n seen x = each x (omega (arith, count-cons x x xs, test_same x x refl)) seen closed in
      let rest : AreAll n (listed n L seen x) xs = all-listed n xs (λ k some. each k (omega (arith, count-cons k x xs, some))) (listed n L seen x) first.1.closed in (
        with_all-append seen (places n L x) (flat_map (places n L) xs) ∙ ap (λ ks. with_all_new ks (flat_map (places n L) xs)) first.0 ∙ rest.0,
        rest.1,
        (λ k some. elim (cases_eq x k) as (λ _. 0 < count k (fold (listed n L) (listed n L seen x) xs)) [
          | inl same ↦ rest.3 k (omega (arith, first.1.here, ap (λ j. count j (listed n L seen x)) same))
          | inr other ↦ rest.2 k (omega (arith, some, count-cons k x xs, test_other x k other))
        ]),
        λ k some. rest.3 k (first.1.kept k some),
      )

  is-listed : (n l : ℕ) → rank l < n → (seen : List ℕ) → IsClosed L seen → Is n seen l
  unfolding places listed
  is-listed zero l low seen closed = absurd (omega (arith, low))
  is-listed (suc n) l low seen closed = elim (any_is l seen) as (λ _. Is (suc n) seen l) [
    | inl there ↦
        let same : listed (suc n) L seen l ≡ seen = rw there.0 refl in
        let absorbed : with_all_new seen (places (suc n) L l) ≡ seen = with_all-absorbs seen (places (suc n) L l) (places-closed L seen closed (suc n) l there.1) in
        (absorbed ∙ sym same, subst (λ ks. Lists L seen ks l) (sym same) (record { closed = closed; here = there.1; kept = λ k some. some }))
    | inr none ↦
        let below : AreAll n seen (L l) = all-listed n (L l) (λ k some. is-listed n k (omega (arith, falls l k some, low))) seen closed in
        let ks : List ℕ = fold (listed n L) seen (L l) in
        let same : listed (suc n) L seen l ≡ with_new ks l = rw none.0 refl in
        let whole : with_all_new seen (places (suc n) L l) ≡ with_new ks l = with_all-append seen (flat_map (places n L) (L l)) (l ∷ []) ∙ ap (λ xs. with_new xs l) below.0 in
        let lists : Lists L seen (with_new ks l) l = record {
          closed = λ k j some link. elim (with_new-from k ks l some) as (λ _. 0 < count j (with_new ks l)) [
            | inl old ↦ with_new-keeps j ks l (below.1 k j old link)
            | inr is ↦ with_new-keeps j ks l (below.2 j (omega (arith, link, ap (λ m. count j (L m)) is)))
          ];
          here = with_new-has ks l;
          kept = λ k some. with_new-keeps k ks l (below.3 k some);
        } in
        (whole ∙ sym same, subst (λ xs. Lists L seen xs l) (sym same) lists)
  ]

  -- the order of the roots, where n is more than their ranks
  pub order-is_listed : (n : ℕ) (roots : List ℕ) → ((r : ℕ) → 0 < count r roots → rank r < n) → order n L roots ≡ fold (listed n L) [] roots
  unfolding order
  order-is_listed n roots low = (all-listed n roots (λ k some. is-listed n k (low k some)) [] (λ k j some link. absurd (omega (arith, some)))).0
