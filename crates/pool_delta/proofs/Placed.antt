-- What the places of a pool's rows after a chain are: apart, and those of the rows with places for links.
use Rattle.std.proofs.Common.{◌≡◌, ◌≢◌, ◌⊎◌, ℕ, zero, suc, ◌+◌, ◌<◌, ◌≤◌, false, cond, eqb, List, [], ◌∷◌, ◌++◌, append-nil, length, Option, Some, None, option_map, slice_get, refl, ap, sym, subst, ◌∙◌, arith, inl, inr, length-append}
use Rattle.std.specs.Prelude.{slice_index, fold, nat_eq}
use Rattle.std.specs.List.{list_any}
use Rattle.std.proofs.lemmas.Bool.{cases_eq, cases_lt, eq-eqb}
use Rattle.std.proofs.lemmas.Bool.Decides.{nat_tests}
use Rattle.std.proofs.lemmas.List.{get_or_append_left}
use Rattle.std.proofs.lemmas.List.Folds.{list_any_at}
use Rattle.std.proofs.lemmas.Option.{slice_get_past}
use Rattle.node_heap.specs.Links.{count, LeadsDown}
use Rattle.node_heap.specs.Forms.{Form, Forms, cell, node, links_of, links_in}
use Rattle.node_heap.proofs.Trees.{map-same}
use Rattle.pool_text.specs.Rows.{Bytes}
use Rattle.pool_text.specs.Pool.{relink}
use Rattle.pool_text.proofs.Renamed.{map-found, links-relink}
use Rattle.pool_check.proofs.TestLemmas.{not-both}
use Rattle.pool_delta.specs.Delta.{Placing, free_place, placed}
use Rattle.pool_delta.proofs.FreePlace.{IsFree, free-place}

-- ## Lists

pub get-front : {X : Type 0} (xs ys : List X) (i : ℕ) → i < length xs → slice_get (xs ++ ys) i ≡ slice_get xs i
get-front [] ys i low = absurd (omega (arith, low))
get-front (x ∷ xs) ys zero low = refl
get-front (x ∷ xs) ys (suc i) low = get-front xs ys i (omega (arith, low))

pub get-back : {X : Type 0} (xs ys : List X) (i : ℕ) → slice_get (xs ++ ys) (length xs + i) ≡ slice_get ys i
get-back [] ys i = ap (slice_get ys) (omega arith)
get-back (x ∷ xs) ys i = ap (slice_get (x ∷ (xs ++ ys))) (one_more (length xs) i) ∙ get-back xs ys i
  where
    one_more : (n i : ℕ) → suc n + i ≡ suc (n + i)
    one_more n i = omega arith

-- what stands in the first of two lists, and then one more
get-last : {X : Type 0} (xs : List X) (y : X) → slice_get (xs ++ y ∷ []) (length xs) ≡ Some y
get-last [] y = refl
get-last (x ∷ xs) y = get-last xs y

index-front : (xs : List ℕ) (y i : ℕ) → i < length xs → slice_index (xs ++ y ∷ []) i ≡ slice_index xs i
index-front xs y i low = get_or_append_left xs (y ∷ []) 0 i low

index-last : (xs : List ℕ) (y : ℕ) → slice_index (xs ++ y ∷ []) (length xs) ≡ y
index-last [] y = refl
index-last (x ∷ xs) y = index-last xs y

relink-same : (f g : ℕ → ℕ) (r : Option (Form Bytes)) → ((k : ℕ) → 0 < count k (links_of r) → f k ≡ g k) → option_map (relink f) r ≡ option_map (relink g) r
relink-same f g None each = refl
relink-same f g (Some (cell x)) each = refl
relink-same f g (Some (node kind links)) each = ap (λ ks. Some (node kind ks)) (map-same f g links each)

-- a number that is not among these is none of them
not-among : (taken : List ℕ) (x : ℕ) → list_any (nat_eq x) taken ≡ false → (k : ℕ) → k < length taken → slice_index taken k ≢ x
not-among taken x free k low same = not-both (sym free ∙ list_any_at (nat_eq x) taken k 0 low (eq-eqb x (slice_index taken k) (sym same)))

-- ## Places

module _ (R : List (Form Bytes)) (F : Forms Bytes) (falls : LeadsDown (λ l. l) (links_in F)) where
  -- these are the places of the first rows: no two have one, and at each stands the row, with places for its links
  pub record IsPlaced (n : ℕ) (g : Placing) : Type 0 where
    pub many : length g.places ≡ n
    pub low : (l : ℕ) → l < n → slice_index g.places l < length R + length g.own
    pub row : (l : ℕ) → l < n → slice_get (R ++ g.own) (slice_index g.places l) ≡ option_map (relink (slice_index g.places)) (F l)
    pub apart : (k l : ℕ) → k < n → l < n → slice_index g.places k ≡ slice_index g.places l → k ≡ l
    pub back : (j k : ℕ) → 0 < count k (links_of (slice_get g.own j)) → k < length R + j
    pub named : (j : ℕ) → j < length g.own → (l : ℕ) × (l < n) × (slice_index g.places l ≡ length R + j)

  pub none-placed : IsPlaced 0 (record { places = []; own = [] })
  none-placed = record {
    many = refl;
    low = λ l low. absurd (omega (arith, low));
    row = λ l low. absurd (omega (arith, low));
    apart = λ k l low. absurd (omega (arith, low));
    back = λ j k some. absurd (omega (arith, some));
    named = λ j low. absurd (omega (arith, low));
  }

  -- links of the next row have places
  next-links : (n : ℕ) (g : Placing) → IsPlaced n g → (r : Form Bytes) → F n ≡ Some r → (k : ℕ) → 0 < count k (links_of (Some (relink (slice_index g.places) r))) → k < length R + length g.own
  next-links n g is r at k some =
      let f : ℕ → ℕ = slice_index g.places in
      let found = map-found f (links_of (Some r)) k (omega (arith, some, ap (count k) (links-relink f (Some r)))) in
      omega (arith, found.2, is.low found.0 (falls n found.0 (omega (arith, found.1, ap (λ o. count found.0 (links_of o)) at))))

  -- one more row gets a place
  module _ (n : ℕ) (g : Placing) (is : IsPlaced n g) (r : Form Bytes) (at : F n ≡ Some r) (x : ℕ) (more : List (Form Bytes))
      (inside : x < length R + length (g.own ++ more))
      (there : slice_get (R ++ (g.own ++ more)) x ≡ Some (relink (slice_index g.places) r))
      (new : (k : ℕ) → k < n → slice_index g.places k ≢ x)
      (back : (j k : ℕ) → 0 < count k (links_of (slice_get (g.own ++ more) j)) → k < length R + j)
      (fresh : (j : ℕ) → j < length (g.own ++ more) → (j < length g.own) ⊎ (x ≡ length R + j)) where
    abbrev places : List ℕ
    places = g.places ++ x ∷ []

    old : (l : ℕ) → l < n → slice_index places l ≡ slice_index g.places l
    old l low = index-front g.places x l (omega (arith, low, is.many))

    last : slice_index places n ≡ x
    last = ap (slice_index places) (sym is.many) ∙ index-last g.places x

    longer : (l : ℕ) → l < n → slice_index g.places l < length R + length (g.own ++ more)
    longer l low = omega (arith, is.low l low, length-append g.own more)

    -- the links of a row so far, or of this one, have the places that they had
    links-old : (l : ℕ) → l ≤ n → option_map (relink (slice_index g.places)) (F l) ≡ option_map (relink (slice_index places)) (F l)
    links-old l low = relink-same (slice_index g.places) (slice_index places) (F l) (λ k some. sym (old k (omega (arith, falls l k some, low))))

    stays : (l : ℕ) → l < n → slice_get (R ++ (g.own ++ more)) (slice_index g.places l) ≡ slice_get (R ++ g.own) (slice_index g.places l)
    stays l low =
        ap (λ ys. slice_get ys (slice_index g.places l)) (sym (append-assoc R g.own more))
        ∙ get-front (R ++ g.own) more (slice_index g.places l) (omega (arith, is.low l low, length-append R g.own))
      where
        append-assoc : {X : Type 0} (xs ys zs : List X) → (xs ++ ys) ++ zs ≡ xs ++ (ys ++ zs)
        append-assoc [] ys zs = refl
        append-assoc (x ∷ xs) ys zs = ap (λ ws. x ∷ ws) (append-assoc xs ys zs)

    pub next-placed : IsPlaced (n + 1) (record { places = places; own = g.own ++ more })
    next-placed = record {
      many = omega (arith, length-append g.places (x ∷ []), is.many);
      low = λ l less. elim (cases_lt l n) as (λ _. slice_index places l < length R + length (g.own ++ more)) [
        | inl before ↦ omega (arith, old l before, longer l before)
        | inr past ↦ (let same : l ≡ n = omega (arith, less, past) in omega (arith, ap (slice_index places) same, last, inside))
      ];
      row = λ l less. elim (cases_lt l n) as (λ _. slice_get (R ++ (g.own ++ more)) (slice_index places l) ≡ option_map (relink (slice_index places)) (F l)) [
        | inl before ↦ ap (slice_get (R ++ (g.own ++ more))) (old l before) ∙ stays l before ∙ is.row l before ∙ links-old l (omega (arith, before))
        | inr past ↦
            let same : l ≡ n = omega (arith, less, past) in
            ap (slice_get (R ++ (g.own ++ more))) (ap (slice_index places) same ∙ last) ∙ there ∙ sym (ap (option_map (relink (slice_index g.places))) (ap F same ∙ at)) ∙ links-old l (omega (arith, same))
      ];
      apart = λ k l less less' e. elim (cases_lt k n) as (λ _. k ≡ l) [
        | inl before ↦ elim (cases_lt l n) as (λ _. k ≡ l) [
          | inl before' ↦ is.apart k l before before' (sym (old k before) ∙ e ∙ old l before')
          | inr past' ↦ (let same : l ≡ n = omega (arith, less', past') in absurd (new k before (sym (old k before) ∙ e ∙ ap (slice_index places) same ∙ last)))
        ]
        | inr past ↦ elim (cases_lt l n) as (λ _. k ≡ l) [
          | inl before' ↦ (let same : k ≡ n = omega (arith, less, past) in absurd (new l before' (sym (old l before') ∙ sym e ∙ ap (slice_index places) same ∙ last)))
          | inr past' ↦ omega (arith, less, past, less', past')
        ]
      ];
      back = back;
      named = λ j low. elim (fresh j low) as (λ _. (l : ℕ) × (l < n + 1) × (slice_index places l ≡ length R + j)) [
        | inl before ↦ (let from = is.named j before in (from.0, omega (arith, from.1), old from.0 from.1 ∙ from.2))
        | inr now ↦ (n, omega arith, last ∙ now)
      ];
    }

  -- the rows so far and one more, whichever place it has
  one-more : (n : ℕ) (g : Placing) → IsPlaced n g → (r : Form Bytes) → F n ≡ Some r → IsPlaced (n + 1) (placed R g r)
  one-more n g is r at = by_place (free-place g.places row 0 R)
    where
      row : Form Bytes
      row = relink (slice_index g.places) r

      back-own : (j k : ℕ) → 0 < count k (links_of (slice_get (g.own ++ row ∷ []) j)) → k < length R + j
      back-own j k some = elim (cases_lt j (length g.own)) as (λ _. k < length R + j) [
        | inl before ↦ is.back j k (omega (arith, some, ap (λ o. count k (links_of o)) (get-front g.own (row ∷ []) j before)))
        | inr past ↦ elim (cases_eq j (length g.own)) as (λ _. k < length R + j) [
          | inl same ↦
              omega (arith, same, next-links n g is r at k (omega (arith, some, ap (λ i. count k (links_of (slice_get (g.own ++ row ∷ []) i))) same, ap (λ o. count k (links_of o)) (get-last g.own row))))
          | inr other ↦
              absurd (omega (arith, some, ap (λ o. count k (links_of o)) (slice_get_past (g.own ++ row ∷ []) j (omega (arith, past, other, length-append g.own (row ∷ []))))))
        ]
      ]

      fresh-own : (j : ℕ) → j < length (g.own ++ row ∷ []) → (j < length g.own) ⊎ (length R + length g.own ≡ length R + j)
      fresh-own j low = elim (cases_lt j (length g.own)) as (λ _. (j < length g.own) ⊎ (length R + length g.own ≡ length R + j)) [
        | inl before ↦ inl before
        | inr past ↦ inr (omega (arith, low, past, length-append g.own (row ∷ [])))
      ]

      by_place : (free_place g.places row 0 R ≡ 0 + length R) ⊎ IsFree g.places row R 0 (free_place g.places row 0 R) → IsPlaced (n + 1) (placed R g r)
      by_place (inl none) =
          subst (IsPlaced (n + 1)) (sym (ap (λ b. cond b (record { places = g.places ++ (length R + length g.own) ∷ []; own = g.own ++ row ∷ [] }) (record g { places = g.places ++ free_place g.places row 0 R ∷ [] })) (eq-eqb (free_place g.places row 0 R) (length R) (omega (arith, none)))))
          (next-placed n g is r at (length R + length g.own) (row ∷ [])
          (omega (arith, length-append g.own (row ∷ [])))
          (get-back R (g.own ++ row ∷ []) (length g.own) ∙ get-last g.own row)
          (λ k low same. absurd (omega (arith, is.low k low, same)))
          back-own fresh-own)
      by_place (inr found) =
          let place : ℕ = free_place g.places row 0 R in
          let inside : place < length R = omega (arith, found.low, found.at) in
          subst (IsPlaced (n + 1)) (sym (ap (λ b. cond b (record { places = g.places ++ (length R + length g.own) ∷ []; own = g.own ++ row ∷ [] }) (record g { places = g.places ++ free_place g.places row 0 R ∷ [] })) (not-same place (length R) inside)))
          (subst (λ ys. IsPlaced (n + 1) (record { places = g.places ++ free_place g.places row 0 R ∷ []; own = ys })) (append-nil g.own)
          (next-placed n g is r at place []
          (omega (arith, inside))
          (ap (λ ys. slice_get (R ++ ys) place) (append-nil g.own) ∙ get-front R g.own place inside ∙ ap (slice_get R) (omega (arith, found.at)) ∙ found.row_is)
          (λ k low. not-among g.places place found.free k (omega (arith, low, is.many)))
          (λ j k some. is.back j k (omega (arith, some, ap (λ ys. count k (links_of (slice_get ys j))) (append-nil g.own))))
          (λ j low. inl (omega (arith, low, ap length (append-nil g.own))))))
        where
          not-same : (a b : ℕ) → a < b → eqb a b ≡ false
          not-same a b h = grind (arith, nat_tests)

  -- and all rows of a list that stands there
  pub all-placed : (rows : List (Form Bytes)) (n : ℕ) (g : Placing) → ((j : ℕ) (r : Form Bytes) → slice_get rows j ≡ Some r → F (n + j) ≡ Some r) → IsPlaced n g → IsPlaced (n + length rows) (fold (placed R) g rows)
  all-placed [] n g are is = subst (λ m. IsPlaced m g) (omega arith) is
  all-placed (r ∷ rows) n g are is =
      subst (λ m. IsPlaced m (fold (placed R) (placed R g r) rows)) (longer n (length rows))
      (all-placed rows (n + 1) (placed R g r) (λ j s at. ap F (longer' n j) ∙ are (suc j) s at) (one-more n g is r (ap F (same n) ∙ are 0 r refl)))
    where
      longer : (n m : ℕ) → n + 1 + m ≡ n + suc m
      longer n m = omega arith

      longer' : (n j : ℕ) → n + 1 + j ≡ n + suc j
      longer' n j = omega arith

      same : (n : ℕ) → n ≡ n + 0
      same n = omega arith
