-- Lists that go together place by place, and where they don't.
use Rattle.std.proofs.Common.{◌≡◌, ℕ, zero, suc, ◌+◌, ◌<◌, List, [], ◌∷◌, ◌++◌, length, get_or, refl, ap, subst, ◌∙◌, arith, length-append}
use Rattle.std.specs.List.{AllZip}
use Rattle.std.proofs.Math.ListN.{get_or-append}
use Rattle.std.proofs.lemmas.List.{get_or-append-add}
use Rattle.same_value.specs.Lines.{DifferSomewhere}

module _ (R : ℕ → ℕ → Type 0) where
  pub zip-at : (xs ys : List ℕ) (i : ℕ) → AllZip R xs ys → i < length xs → R (get_or xs i 0) (get_or ys i 0)
  zip-at [] ys i zip low = absurd (omega arith)
  zip-at (x ∷ xs) [] i zip low = absurd zip
  zip-at (x ∷ xs) (y ∷ ys) zero zip low = zip.0
  zip-at (x ∷ xs) (y ∷ ys) (suc i) zip low = zip-at xs ys i zip.1 (omega arith)

  pub zip-by : (xs ys : List ℕ) → length xs ≡ length ys → ((i : ℕ) → i < length xs → R (get_or xs i 0) (get_or ys i 0)) → AllZip R xs ys
  zip-by [] [] same each = tt
  zip-by [] (y ∷ ys) same each = absurd (omega (arith, same))
  zip-by (x ∷ xs) [] same each = absurd (omega (arith, same))
  zip-by (x ∷ xs) (y ∷ ys) same each = (each 0 (omega arith), zip-by xs ys (omega (arith, same)) (λ i low. each (suc i) (omega arith)))

  pub zip-both : (xs ys us vs : List ℕ) → AllZip R xs ys → AllZip R us vs → AllZip R (xs ++ us) (ys ++ vs)
  zip-both [] [] us vs z w = w
  zip-both [] (y ∷ ys) us vs z w = absurd z
  zip-both (x ∷ xs) [] us vs z w = absurd z
  zip-both (x ∷ xs) (y ∷ ys) us vs z w = (z.0, zip-both xs ys us vs z.1 w)

  pub zip-count : (xs ys : List ℕ) → AllZip R xs ys → length xs ≡ length ys
  zip-count [] [] zip = refl
  zip-count [] (y ∷ ys) zip = absurd zip
  zip-count (x ∷ xs) [] zip = absurd zip
  zip-count (x ∷ xs) (y ∷ ys) zip = ap suc (zip-count xs ys zip.1)

  pub differ-not : (xs ys : List ℕ) → DifferSomewhere R xs ys → ¬ AllZip R xs ys
  differ-not xs ys differ zip = differ.differ (zip-at xs ys differ.place zip differ.first)

  -- lists that go together before the place, and any lists behind it
  pub differ-inside : (bf cf xs ys us vs : List ℕ) → AllZip R bf cf → DifferSomewhere R xs ys → DifferSomewhere R (bf ++ (xs ++ us)) (cf ++ (ys ++ vs))
  differ-inside bf cf xs ys us vs zip differ =
      let same = zip-count bf cf zip in
      let i = differ.place in
      record {
        place = length bf + i;
        first = omega (arith, differ.first, length-append bf (xs ++ us), length-append xs us);
        second = omega (arith, differ.second, same, length-append cf (ys ++ vs), length-append ys vs);
        differ = λ is. differ.differ
            (subst (λ y. R (get_or xs i 0) y) (ap (λ n. get_or (cf ++ (ys ++ vs)) (n + i) 0) same ∙ get_or-append-add cf (ys ++ vs) i 0 ∙ get_or-append ys vs 0 i differ.second)
            (subst (λ x. R x (get_or (cf ++ (ys ++ vs)) (length bf + i) 0)) (get_or-append-add bf (xs ++ us) i 0 ∙ get_or-append xs us 0 i differ.first) is));
      }
