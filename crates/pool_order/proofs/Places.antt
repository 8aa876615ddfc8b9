-- The order of a graph has the reached links, each once, after those of its row.
use Rattle.std.proofs.Common.{◌≡◌, ℕ, zero, suc, ◌<◌, List, [], ◌∷◌, ◌++◌, length, get_or, take, refl, ap, sym, subst, ◌∙◌, arith, inl, inr, length-append}
use Rattle.std.specs.List.{flat_map}
use Rattle.std.proofs.lemmas.Bool.{cases_eq}
use Rattle.std.proofs.lemmas.List.{take-append-le}
use Rattle.std.proofs.Math.Seq.{take-append_seam}
use Rattle.node_heap.specs.Links.{Links, count, HasLink, Reaches, here, below, LeadsDown, SameBelow}
use Rattle.node_heap.proofs.Counts.{test_same, test_other, count-cons}
use Rattle.pool_order.specs.Order.{with_new, with_all_new, firsts, places, order}
use Rattle.pool_order.specs.Laws.{IsReady, IsOrder, HaveRanksBelow}
use Rattle.pool_order.proofs.Firsts.{count-append, count-one, with_new-cases, with_all-has, with_all-from, with_all-once, with_all-append}

pub flat_map-same : {X : Type 0} (f g : ℕ → List X) (xs : List ℕ) → ((k : ℕ) → 0 < count k xs → f k ≡ g k) → flat_map f xs ≡ flat_map g xs
flat_map-same f g [] same = refl
flat_map-same f g (x ∷ xs) same =
    let head = same x (omega (arith, count-cons x x xs, test_same x x refl)) in
    let tail = flat_map-same f g xs (λ k some. same k (omega (arith, count-cons k x xs, some))) in
    ap (λ y. y ++ flat_map f xs) head ∙ ap (λ ys. g x ++ ys) tail

pub flat_map-found : (f : ℕ → List ℕ) (xs : List ℕ) (k : ℕ) → 0 < count k (flat_map f xs) → (j : ℕ) × (0 < count j xs) × (0 < count k (f j))
flat_map-found f [] k some = absurd (omega arith)
flat_map-found f (x ∷ xs) k some = by_first (count k (f x)) refl (flat_map-found f xs k)
  where
    by_first : (n : ℕ) → count k (f x) ≡ n → (0 < count k (flat_map f xs) → (j : ℕ) × (0 < count j xs) × (0 < count k (f j))) → (j : ℕ) × (0 < count j (x ∷ xs)) × (0 < count k (f j))
    by_first (suc n) e rest = (x, omega (arith, count-cons x x xs, test_same x x refl), omega (arith, e))
    by_first zero e rest =
        let later = rest (omega (arith, e, count-append k (f x) (flat_map f xs), some)) in
        (later.0, omega (arith, count-cons later.0 x xs, later.1), later.2)

pub flat_map-has : (f : ℕ → List ℕ) (xs : List ℕ) (j k : ℕ) → 0 < count j xs → 0 < count k (f j) → 0 < count k (flat_map f xs)
flat_map-has f [] j k here_j some = absurd (omega arith)
flat_map-has f (x ∷ xs) j k here_j some = elim (cases_eq x j) as (λ _. 0 < count k (f x ++ flat_map f xs)) [
  | inl same ↦ omega (arith, count-append k (f x) (flat_map f xs), ap (λ n. count k (f n)) same, some)
  | inr other ↦ omega (arith, count-append k (f x) (flat_map f xs), flat_map-has f xs j k (omega (arith, count-cons j x xs, test_other x j other, here_j)) some)
]

get_or-front : (ks : List ℕ) (x i : ℕ) → i < length ks → get_or (ks ++ x ∷ []) i 0 ≡ get_or ks i 0
get_or-front [] x i low = absurd (omega arith)
get_or-front (k ∷ ks) x zero low = refl
get_or-front (k ∷ ks) x (suc i) low = get_or-front ks x i (omega arith)

get_or-last : (ks : List ℕ) (x i : ℕ) → i ≡ length ks → get_or (ks ++ x ∷ []) i 0 ≡ x
get_or-last [] x zero e = refl
get_or-last [] x (suc i) e = absurd (omega arith)
get_or-last (k ∷ ks) x zero e = absurd (omega arith)
get_or-last (k ∷ ks) x (suc i) e = get_or-last ks x i (omega arith)

-- enough rows deep, the places do not depend on how deep
pub places-deep : (rank : ℕ → ℕ) (L : Links) → LeadsDown rank L → (n m l : ℕ) → rank l < n → rank l < m → places n L l ≡ places m L l
unfolding places
places-deep rank L falls zero m l low low' = absurd (omega arith)
places-deep rank L falls (suc n) zero l low low' = absurd (omega arith)
places-deep rank L falls (suc n) (suc m) l low low' =
    ap (λ ys. ys ++ l ∷ []) (flat_map-same (places n L) (places m L) (L l) (λ k has. places-deep rank L falls n m k (omega (arith, falls l k has)) (omega (arith, falls l k has))))

-- the places of a row enough rows deep
pub places-is : (rank : ℕ → ℕ) (L : Links) → LeadsDown rank L → (n l : ℕ) → rank l < n → places n L l ≡ flat_map (places n L) (L l) ++ l ∷ []
unfolding places
places-is rank L falls zero l low = absurd (omega arith)
places-is rank L falls (suc n) l low =
    ap (λ ys. ys ++ l ∷ []) (flat_map-same (places n L) (places (suc n) L) (L l) (λ k has. places-deep rank L falls n (suc n) k (omega (arith, falls l k has)) (omega (arith, falls l k has))))

pub places-reached : (n : ℕ) (L : Links) (l k : ℕ) → 0 < count k (places n L l) → Reaches L l k
unfolding places
places-reached zero L l k some = absurd (omega arith)
places-reached (suc n) L l k some = by_front (count k (flat_map (places n L) (L l))) refl (places-reached n L)
  where
    by_front : (c : ℕ) → count k (flat_map (places n L) (L l)) ≡ c → ((j k : ℕ) → 0 < count k (places n L j) → Reaches L j k) → Reaches L l k
    by_front (suc c) e deeper =
        let found = flat_map-found (places n L) (L l) k (omega (arith, e)) in
        below l found.0 k found.1 (deeper found.0 k found.2)
    by_front zero e deeper = elim (cases_eq l k) as (λ _. Reaches L l k) [
      | inl same ↦ subst (Reaches L l) same (here l)
      | inr other ↦ absurd (omega (arith, e, count-append k (flat_map (places n L) (L l)) (l ∷ []), count-one k l, test_other l k other, some))
    ]

pub places-itself : (n : ℕ) (L : Links) (l : ℕ) → 0 < n → 0 < count l (places n L l)
unfolding places
places-itself zero L l some = absurd (omega arith)
places-itself (suc n) L l some = omega (arith, count-append l (flat_map (places n L) (L l)) (l ∷ []), count-one l l, test_same l l refl)

pub places-has : (rank : ℕ → ℕ) (L : Links) → LeadsDown rank L → (n l k : ℕ) → Reaches L l k → rank l < n → 0 < count k (places n L l)
places-has rank L falls n a b (here l) low = places-itself n L l (omega arith)
places-has rank L falls n a b (below l k m has down) low =
    let later : 0 < count m (places n L k) = places-has rank L falls n k m down (omega (arith, falls l k has)) in
    let all : 0 < count m (flat_map (places n L) (L l)) = flat_map-has (places n L) (L l) k m has later in
    rw (places-is rank L falls n l low) (omega (arith, all, count-append m (flat_map (places n L) (L l)) (l ∷ [])))

pub ready-with_new : (L : Links) (ks : List ℕ) (x : ℕ) → IsReady L ks → ((k : ℕ) → HasLink L x k → 0 < count k ks) → IsReady L (with_new ks x)
ready-with_new L ks x ready links = elim (with_new-cases ks x) as (λ _. IsReady L (with_new ks x)) [
  | inl old ↦ subst (IsReady L) (sym old.0) ready
  | inr new ↦ subst (IsReady L) (sym new.0) last
]
  where
    last : IsReady L (ks ++ x ∷ [])
    last i low k has = elim (cases_eq i (length ks)) as (λ _. 0 < count k (take i (ks ++ x ∷ []))) [
      | inl same ↦
          let has_x : HasLink L x k = omega (arith, ap (λ l. count k (L l)) (get_or-last ks x i same), has) in
          omega (arith, links k has_x, ap (λ n. count k (take n (ks ++ x ∷ []))) same, ap (count k) (take-append_seam ks (x ∷ [])))
      | inr other ↦
          let within : i < length ks = omega (arith, low, other, length-append ks (x ∷ [])) in
          let has_i : HasLink L (get_or ks i 0) k = omega (arith, ap (λ l. count k (L l)) (get_or-front ks x i within), has) in
          omega (arith, ready i within k has_i, ap (count k) (take-append-le i ks (x ∷ []) (omega (arith, within))))
    ]

ready-each : (L : Links) (f : ℕ → List ℕ) (xs : List ℕ) → ((k : ℕ) → 0 < count k xs → (ks : List ℕ) → IsReady L ks → IsReady L (with_all_new ks (f k))) → (ks : List ℕ) → IsReady L ks → IsReady L (with_all_new ks (flat_map f xs))
ready-each L f [] each ks ready = ready
ready-each L f (x ∷ xs) each ks ready =
    let first = each x (omega (arith, count-cons x x xs, test_same x x refl)) ks ready in
    subst (IsReady L) (sym (with_all-append ks (f x) (flat_map f xs)))
    (ready-each L f xs (λ k some. each k (omega (arith, count-cons k x xs, some))) (with_all_new ks (f x)) first)

pub ready-places : (rank : ℕ → ℕ) (L : Links) → LeadsDown rank L → (n l : ℕ) → rank l < n → (ks : List ℕ) → IsReady L ks → IsReady L (with_all_new ks (places n L l))
unfolding places
ready-places rank L falls zero l low ks ready = absurd (omega arith)
ready-places rank L falls (suc n) l low ks ready =
    let front : IsReady L (with_all_new ks (flat_map (places n L) (L l))) =
    ready-each L (places n L) (L l) (λ k has. ready-places rank L falls n k (omega (arith, falls l k has))) ks ready in
    subst (IsReady L) (sym (with_all-append ks (flat_map (places n L) (L l)) (l ∷ [])))
    (ready-with_new L (with_all_new ks (flat_map (places n L) (L l))) l front
    (λ k has. with_all-has k ks (flat_map (places n L) (L l)) (flat_map-has (places n L) (L l) k k has (places-itself n L k (omega (arith, falls l k has))))))

pub order-is : (rank : ℕ → ℕ) (L : Links) → LeadsDown rank L → (n : ℕ) (roots : List ℕ) → HaveRanksBelow rank n roots → IsOrder L roots (order n L roots)
unfolding order
order-is rank L falls n roots low = record {
  once = with_all-once [] (flat_map (places n L) roots) (λ j. omega arith);
  reached = λ k some. elim (with_all-from k [] (flat_map (places n L) roots) some) as (λ _. (r : ℕ) × (0 < count r roots) × Reaches L r k) [
    | inl none ↦ absurd (omega (arith, none))
    | inr in_places ↦ let found = flat_map-found (places n L) roots k in_places in (found.0, found.1, places-reached n L found.0 k found.2)
  ];
  all = λ r k root down. with_all-has k [] (flat_map (places n L) roots) (flat_map-has (places n L) roots r k root (places-has rank L falls n r k down (low r root)));
  ready = ready-each L (places n L) roots (λ k root. ready-places rank L falls n k (low k root)) [] (λ i short k has. absurd (omega (arith, short)));
}

-- the order of two depths that are both enough
pub order-deep : (rank : ℕ → ℕ) (L : Links) → LeadsDown rank L → (n m : ℕ) (roots : List ℕ) → HaveRanksBelow rank n roots → HaveRanksBelow rank m roots → order n L roots ≡ order m L roots
unfolding order
order-deep rank L falls n m roots low low' = ap firsts (flat_map-same (places n L) (places m L) roots (λ r root. places-deep rank L falls n m r (low r root) (low' r root)))

-- the places of a link depend on the links alone of the rows that it reaches
places-same : (n : ℕ) (L M : Links) (l : ℕ) → SameBelow L L M l → places n M l ≡ places n L l
unfolding places
places-same zero L M l same = refl
places-same (suc n) L M l same =
    ap (λ ys. flat_map (places n M) ys ++ l ∷ []) (same l (here l))
    ∙ ap (λ ys. ys ++ l ∷ []) (flat_map-same (places n M) (places n L) (L l) (λ k has. places-same n L M k (λ m down. same m (below l k m has down))))

pub order-same : (n : ℕ) (L M : Links) (roots : List ℕ) → ((r : ℕ) → 0 < count r roots → SameBelow L L M r) → order n M roots ≡ order n L roots
unfolding order
order-same n L M roots same = ap firsts (flat_map-same (places n M) (places n L) roots (λ r root. places-same n L M r (same r root)))
