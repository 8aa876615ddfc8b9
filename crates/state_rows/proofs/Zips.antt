-- Lists whose elements stand for values one by one: a place, one more, a front, and another way of standing.
use Rattle.std.proofs.Common.{ℕ, zero, suc, ◌<◌, List, [], ◌∷◌, ◌++◌, length, take, drop, set, get_or, refl, arith}
use Rattle.std.specs.Prelude.{IsSomeAnd}
use Rattle.std.specs.List.{AllZip, slice_get}
use Rattle.node_heap.specs.Links.{count}
use Rattle.node_heap.proofs.Counts.{test_same}
use Rattle.node_heap.proofs.BuildLemmas.{count-cons}

module _ {X : Type 0} (R : ℕ → X → Type 0) where
  -- at each place of the second list the two stand for each other
  pub zip-at : (ks : List ℕ) (xs : List X) (i : ℕ) → i < length xs → AllZip R ks xs → IsSomeAnd (slice_get xs i) (R (get_or ks i 0))
  zip-at [] [] i inside zip = absurd (omega (arith, inside))
  zip-at [] (x ∷ xs) i inside zip = absurd zip
  zip-at (k ∷ ks) [] i inside zip = absurd zip
  zip-at (k ∷ ks) (x ∷ xs) zero inside zip = zip.0
  zip-at (k ∷ ks) (x ∷ xs) (suc i) inside zip = zip-at ks xs i (omega (arith, inside)) zip.1

  pub zip-push : (ks : List ℕ) (xs : List X) (k : ℕ) (x : X) → AllZip R ks xs → R k x → AllZip R (ks ++ k ∷ []) (xs ++ x ∷ [])
  zip-push [] [] k x zip last = (last, tt)
  zip-push [] (y ∷ ys) k x zip last = absurd zip
  zip-push (j ∷ ks) [] k x zip last = absurd zip
  zip-push (j ∷ ks) (y ∷ ys) k x zip last = (zip.0, zip-push ks ys k x zip.1 last)

  pub zip-set : (ks : List ℕ) (xs : List X) (i k : ℕ) (x : X) → AllZip R ks xs → R k x → AllZip R (set ks i k) (set xs i x)
  zip-set [] [] i k x zip one = tt
  zip-set [] (y ∷ ys) i k x zip one = absurd zip
  zip-set (j ∷ ks) [] i k x zip one = absurd zip
  zip-set (j ∷ ks) (y ∷ ys) zero k x zip one = (one, zip.1)
  zip-set (j ∷ ks) (y ∷ ys) (suc i) k x zip one = (zip.0, zip-set ks ys i k x zip.1 one)

  pub zip-take : (n : ℕ) (ks : List ℕ) (xs : List X) → AllZip R ks xs → AllZip R (take n ks) (take n xs)
  zip-take zero [] [] zip = tt
  zip-take zero [] (x ∷ xs) zip = absurd zip
  zip-take zero (k ∷ ks) [] zip = absurd zip
  zip-take zero (k ∷ ks) (x ∷ xs) zip = tt
  zip-take (suc n) [] [] zip = tt
  zip-take (suc n) [] (x ∷ xs) zip = absurd zip
  zip-take (suc n) (k ∷ ks) [] zip = absurd zip
  zip-take (suc n) (k ∷ ks) (x ∷ xs) zip = (zip.0, zip-take n ks xs zip.1)

  pub zip-drop : (n : ℕ) (ks : List ℕ) (xs : List X) → AllZip R ks xs → AllZip R (drop n ks) (drop n xs)
  zip-drop zero ks xs zip = zip
  zip-drop (suc n) [] [] zip = tt
  zip-drop (suc n) [] (x ∷ xs) zip = absurd zip
  zip-drop (suc n) (k ∷ ks) [] zip = absurd zip
  zip-drop (suc n) (k ∷ ks) (x ∷ xs) zip = zip-drop n ks xs zip.1

-- what the links of a list stand for in one way they stand for in another
pub zip-among : {X : Type 0} (R S : ℕ → X → Type 0) (ks : List ℕ) (xs : List X) → ((k : ℕ) → 0 < count k ks → (x : X) → R k x → S k x) → AllZip R ks xs → AllZip S ks xs
zip-among R S [] [] so zip = tt
zip-among R S [] (x ∷ xs) so zip = absurd zip
zip-among R S (k ∷ ks) [] so zip = absurd zip
zip-among R S (k ∷ ks) (x ∷ xs) so zip =
    (so k (omega (arith, count-cons k k ks, test_same k k refl)) x zip.0, zip-among R S ks xs (λ j some. so j (omega (arith, count-cons j k ks, some))) zip.1)
