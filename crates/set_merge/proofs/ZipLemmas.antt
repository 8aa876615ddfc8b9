-- Two lists whose elements go together, joined with two others, and cut by a test.
use Rattle.std.proofs.Common.{◌≡◌, Bool, true, false, cond, List, [], ◌∷◌, ◌++◌, subst}
use Rattle.std.specs.List.{AllZip, filter}

module _ {X Y : Type 0} (R : X → Y → Type 0) where
  pub zip-joined : (xs us : List X) (ys vs : List Y) → AllZip R xs ys → AllZip R us vs → AllZip R (xs ++ us) (ys ++ vs)
  zip-joined [] us [] vs zip more = more
  zip-joined [] us (y ∷ ys) vs zip more = absurd zip
  zip-joined (x ∷ xs) us [] vs zip more = absurd zip
  zip-joined (x ∷ xs) us (y ∷ ys) vs zip more = (zip.0, zip-joined xs us ys vs zip.1 more)

  -- a test of the first and one of the second answer alike where both go together
  pub zip-filter : (p : X → Bool) (q : Y → Bool) → ((x : X) (y : Y) → R x y → p x ≡ q y) → (xs : List X) (ys : List Y) → AllZip R xs ys → AllZip R (filter p xs) (filter q ys)
  zip-filter p q same [] [] zip = tt
  zip-filter p q same [] (y ∷ ys) zip = absurd zip
  zip-filter p q same (x ∷ xs) [] zip = absurd zip
  zip-filter p q same (x ∷ xs) (y ∷ ys) zip =
      subst (λ t. AllZip R (cond (p x) (x ∷ filter p xs) (filter p xs)) (cond t (y ∷ filter q ys) (filter q ys))) (same x y zip.0) (by_test (p x) (zip-filter p q same xs ys zip.1))
    where
      by_test : (t : Bool) → AllZip R (filter p xs) (filter q ys) → AllZip R (cond t (x ∷ filter p xs) (filter p xs)) (cond t (y ∷ filter q ys) (filter q ys))
      by_test true rest = (zip.0, rest)
      by_test false rest = rest
