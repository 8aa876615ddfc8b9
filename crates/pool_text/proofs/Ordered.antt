-- The order of renamed links is the order renamed, and a pool stands in its own order.
use Rattle.std.proofs.Common.{◌≡◌, ℕ, zero, suc, ◌+◌, ◌<◌, ◌≤◌, List, [], ◌∷◌, ◌++◌, map, length, get_or, refl, ap, sym, ◌∙◌, arith, inl, inr, append_assoc}
use Rattle.std.specs.List.{flat_map, range_with_len}
use Rattle.std.proofs.lemmas.List.{map-append}
use Rattle.std.proofs.lemmas.List.Folds.{flat_map-map}
use Rattle.node_heap.specs.Links.{Links, count, Reaches, here, below}
use Rattle.node_heap.specs.Forms.{Forms, links_in}
use Rattle.node_heap.proofs.Counts.{test_same, count-cons}
use Rattle.pool_order.specs.Order.{with_new, with_all_new, firsts, places, order}
use Rattle.pool_order.proofs.Firsts.{count-append, with_new-cases, with_new-from, with_new-absorbs}
use Rattle.pool_order.proofs.Places.{flat_map-same, flat_map-found, places-reached, order-deep}
use Rattle.pool_text.specs.Rows.{Bytes}
use Rattle.pool_text.specs.Pool.{forms_in, row_count, order_in, place_in, Settings, pool}
use Rattle.pool_text.specs.Renaming.{IsRooted}
use Rattle.pool_text.specs.declared.pool.Pool.{Pool}
use Rattle.pool_text.proofs.Placed.{place-is, place-after}
use Rattle.pool_text.proofs.Renamed.{map-found, count-map, renamed-links, renamed-below}
use Rattle.pool_text.proofs.PoolRows.{order-of-pool, pool-length, pool-renamed, pool-ranked}

pub map-flat : (f : ℕ → ℕ) (g : ℕ → List ℕ) (ks : List ℕ) → map f (flat_map g ks) ≡ flat_map (λ k. map f (g k)) ks
map-flat f g [] = refl
map-flat f g (k ∷ ks) = map-append f (g k) (flat_map g ks) ∙ ap (λ ys. map f (g k) ++ ys) (map-flat f g ks)

-- f takes no two of the links to one
abbrev pub IsOneToOne : (ℕ → ℕ) → List ℕ → Type 0
IsOneToOne f all = (a b : ℕ) → 0 < count a all → 0 < count b all → f a ≡ f b → a ≡ b

abbrev IsWithin : List ℕ → List ℕ → Type 0
IsWithin xs all = (k : ℕ) → 0 < count k xs → 0 < count k all

with_new-map : (f : ℕ → ℕ) (all : List ℕ) → IsOneToOne f all → (ks : List ℕ) (k : ℕ) → IsWithin ks all → 0 < count k all → with_new (map f ks) (f k) ≡ map f (with_new ks k)
with_new-map f all one ks k ins in_k = elim (with_new-cases ks k) as (λ _. with_new (map f ks) (f k) ≡ map f (with_new ks k)) [
  | inl old ↦ with_new-absorbs (map f ks) (f k) (count-map f k ks old.1) ∙ sym (ap (map f) old.0)
  | inr new ↦ elim (with_new-cases (map f ks) (f k)) as (λ _. with_new (map f ks) (f k) ≡ map f (with_new ks k)) [
    | inl had ↦
        let found = map-found f ks (f k) had.1 in
        absurd (omega (arith, new.1, found.1, ap (λ n. count n ks) (one found.0 k (ins found.0 found.1) in_k found.2)))
    | inr added ↦ added.0 ∙ sym (map-append f ks (k ∷ [])) ∙ sym (ap (map f) new.0)
  ]
]

with_all-map : (f : ℕ → ℕ) (all : List ℕ) → IsOneToOne f all → (ks xs : List ℕ) → IsWithin ks all → IsWithin xs all → with_all_new (map f ks) (map f xs) ≡ map f (with_all_new ks xs)
with_all-map f all one ks [] ins ins' = refl
with_all-map f all one ks (x ∷ xs) ins ins' =
    let in_x : 0 < count x all = ins' x (omega (arith, count-cons x x xs, test_same x x refl)) in
    ap (λ ys. with_all_new ys (map f xs)) (with_new-map f all one ks x ins in_x)
    ∙ with_all-map f all one (with_new ks x) xs
    (λ j some. elim (with_new-from j ks x some) as (λ _. 0 < count j all) [ inl old ↦ ins j old | inr same ↦ omega (arith, in_x, ap (λ n. count n all) same) ])
    (λ j some. ins' j (omega (arith, some, count-cons j x xs)))

-- M has the links of each row that l reaches, under their new names
abbrev pub AreLinked : (ℕ → ℕ) → Links → Links → ℕ → Type 0
AreLinked f L M l = (m : ℕ) → Reaches L l m → M (f m) ≡ map f (L m)

places-renamed : (f : ℕ → ℕ) (L M : Links) (n l : ℕ) → AreLinked f L M l → places n M (f l) ≡ map f (places n L l)
unfolding places
places-renamed f L M zero l linked = refl
places-renamed f L M (suc n) l linked =
    ap (λ ys. flat_map (places n M) ys ++ f l ∷ []) (linked l (here l))
    ∙ ap (λ ys. ys ++ f l ∷ [])
    (flat_map-map (places n M) f (L l)
    ∙ flat_map-same (λ k. places n M (f k)) (λ k. map f (places n L k)) (L l) (λ k has. places-renamed f L M n k (λ m down. linked m (below l k m has down)))
    ∙ sym (map-flat f (places n L) (L l)))
    ∙ sym (map-append f (flat_map (places n L) (L l)) (l ∷ []))

-- the order of the new links of the roots
pub order-renamed : (f : ℕ → ℕ) (L M : Links) (n : ℕ) (roots : List ℕ) → ((r : ℕ) → 0 < count r roots → AreLinked f L M r) → IsOneToOne f (flat_map (places n L) roots) → order n M (map f roots) ≡ map f (order n L roots)
unfolding order
order-renamed f L M n roots linked one =
    ap firsts
    (flat_map-map (places n M) f roots ∙ flat_map-same (λ k. places n M (f k)) (λ k. map f (places n L k)) roots (λ r root. places-renamed f L M n r (linked r root)) ∙ sym (map-flat f (places n L) roots))
    ∙ with_all-map f (flat_map (places n L) roots) one [] (flat_map (places n L) roots) (λ k some. absurd (omega (arith, some))) (λ k some. some)

-- the places of the links behind the front are the numbers from its length on
places-rest : (front back : List ℕ) → ((j : ℕ) → count j (front ++ back) ≤ 1) → map (place_in (front ++ back)) back ≡ range_with_len (length front) (length back)
places-rest front [] once = refl
places-rest front (x ∷ back) once =
    let none : count x front ≡ 0 = omega (arith, once x, count-append x front (x ∷ back), count-cons x x back, test_same x x refl) in
    let e : (front ++ x ∷ []) ++ back ≡ front ++ x ∷ back = append_assoc front (x ∷ []) back in
    let more : length (front ++ x ∷ []) ≡ length front + 1 = length-more front x in
    let rest : map (place_in ((front ++ x ∷ []) ++ back)) back ≡ range_with_len (length (front ++ x ∷ [])) (length back) = places-rest (front ++ x ∷ []) back (λ j. omega (arith, once j, ap (count j) e)) in
    ap (λ n. n ∷ map (place_in (front ++ x ∷ back)) back) (place-after front back x none)
    ∙ ap (λ ys. length front ∷ ys) (sym (ap (λ ys. map (place_in ys) back) e) ∙ rest ∙ ap (λ n. range_with_len n (length back)) more)
  where
    length-more : (front : List ℕ) (x : ℕ) → length (front ++ x ∷ []) ≡ length front + 1
    length-more [] x = refl
    length-more (k ∷ front) x = omega (arith, length-more front x)

module _ (n : ℕ) (G : Forms Bytes) (roots : List ℕ) (rooted : IsRooted n G roots) where
  pub pool-roots : (settings : Settings) → (pool n G roots settings).roots ≡ map (place_in (order n (links_in G) roots)) roots
  unfolding pool
  pool-roots settings = refl

  -- the order of a pool's own rows is that of their places
  pub pool-ordered : (settings : Settings) → order_in (pool n G roots settings) ≡ range_with_len 0 (row_count (pool n G roots settings))
  pool-ordered settings =
      let ks : List ℕ = order n (links_in G) roots in
      let P : Pool = pool n G roots settings in
      let L : Links = links_in G in
      let M : Links = links_in (forms_in P) in
      let N : ℕ = n + row_count P in
      let is = order-of-pool n G roots rooted in
      let linked : (r : ℕ) → 0 < count r roots → AreLinked (place_in ks) L M r =
      λ r root m down. renamed-links (place_in ks) G (forms_in P) m (renamed-below (place_in ks) G (forms_in P) r m down (pool-renamed n G roots rooted settings r r root (here r))) in
      let in_ks : (k : ℕ) → 0 < count k (flat_map (places N L) roots) → 0 < count k ks =
      λ k some. let found = flat_map-found (places N L) roots k some in is.all found.0 k found.1 (places-reached N L found.0 k found.2) in
      let one : IsOneToOne (place_in ks) (flat_map (places N L) roots) =
      λ a b in_a in_b e. sym (place-is ks a (in_ks a in_a)).1 ∙ ap (λ i. get_or ks i 0) e ∙ (place-is ks b (in_ks b in_b)).1 in
      let low : (p : ℕ) → 0 < count p (map (place_in ks) roots) → p < row_count P =
      λ p root.
      let found = map-found (place_in ks) roots p root in
      omega (arith, found.2, (place-is ks found.0 (is.all found.0 found.0 found.1 (here found.0))).0, pool-length n G roots rooted settings) in
      ap (order (row_count P) M) (pool-roots settings)
      ∙ order-deep (λ i. i) M (pool-ranked n G roots rooted settings) (row_count P) N (map (place_in ks) roots) low (λ p root. omega (arith, low p root))
      ∙ order-renamed (place_in ks) L M N roots linked one
      ∙ ap (map (place_in ks)) (order-deep rooted.rank L rooted.falls N n roots (λ r root. omega (arith, rooted.low r root)) rooted.low)
      ∙ places-rest [] ks is.once
      ∙ ap (range_with_len 0) (sym (pool-length n G roots rooted settings))
