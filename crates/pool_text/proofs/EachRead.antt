-- Lists whose elements are read one after another.
use Rattle.std.proofs.Common.{◌≡◌, ℕ, zero, suc, ◌+◌, ◌<◌, Option, Some, None, option_map, List, [], ◌∷◌, ◌++◌, map, length, get_or, take, refl, ap, sym, ◌∙◌, arith, add-one}
use Rattle.std.specs.Prelude.{option_and_then}
use Rattle.pool_text.specs.Document.{all_of}

module _ {Y : Type 0} where
  abbrev pub onto : Option (List Y) → Y → Option (List Y)
  onto ys y = option_map (λ zs. y ∷ zs) ys

  onto-none : (y : Option Y) → option_and_then (onto None) y ≡ None
  onto-none None = refl
  onto-none (Some y) = refl

  pub record IsOnto (y : Option Y) (ys : Option (List Y)) (zs : List Y) : Type 0 where
    pub first : Y
    pub rest : List Y
    pub is_first : y ≡ Some first
    pub is_rest : ys ≡ Some rest
    pub is_both : zs ≡ first ∷ rest

  pub onto-some : (y : Option Y) (ys : Option (List Y)) (zs : List Y) → option_and_then (onto ys) y ≡ Some zs → IsOnto y ys zs
  onto-some None ys zs e = absurd (let f : None ≡ Some zs = e in cc)
  onto-some (Some y) None zs e = absurd (let f : None ≡ Some zs = e in cc)
  onto-some (Some y) (Some ys) zs e = record { first = y; rest = ys; is_first = refl; is_rest = refl; is_both = (let f : Some (y ∷ ys) ≡ Some zs = e in cc) }

module _ {A X Y : Type 0} (f : X → Option Y) (seen : A → X) where
  -- where one element stands for nothing, so does the list
  pub all_of-fails : (xs : List A) (i : ℕ) (x : A) → i < length xs → x ≡ get_or xs i x → f (seen x) ≡ None → all_of f (map seen xs) ≡ None
  all_of-fails [] i x low at none = absurd (omega arith)
  all_of-fails (y ∷ xs) zero x low at none =
      let is : x ≡ y = at in
      ap (λ o. option_and_then (onto (all_of f (map seen xs))) o) (ap (λ z. f (seen z)) (sym is) ∙ none)
  all_of-fails (y ∷ xs) (suc i) x low at none =
      ap (λ o. option_and_then (onto o) (f (seen y))) (all_of-fails xs i x (omega arith) at none) ∙ onto-none (f (seen y))

  -- one more element
  pub all_of-more : (xs : List A) (i : ℕ) (x : A) (ys : List Y) (y : Y) → i < length xs → x ≡ get_or xs i x → all_of f (map seen (take i xs)) ≡ Some ys → f (seen x) ≡ Some y → all_of f (map seen (take (i + 1) xs)) ≡ Some (ys ++ y ∷ [])
  all_of-more [] i x ys y low at before is = absurd (omega arith)
  all_of-more (z ∷ xs) zero x ys y low at before is =
      let same : x ≡ z = at in
      let none : Some [] ≡ Some ys = before in
      let empty : ys ≡ [] = cc in
      ap (λ o. option_and_then (onto (Some [])) o) (ap (λ w. f (seen w)) (sym same) ∙ is) ∙ ap (λ zs. Some (zs ++ y ∷ [])) (sym empty)
  all_of-more (z ∷ xs) (suc i) x ys y low at before is =
      let parts = onto-some (f (seen z)) (all_of f (map seen (take i xs))) ys before in
      rw add-one
      (ap (λ o. option_and_then (onto o) (f (seen z))) (rw add-one at (all_of-more xs i x parts.rest y (omega arith) at parts.is_rest is))
      ∙ ap (λ o. option_and_then (onto (Some (parts.rest ++ y ∷ []))) o) parts.is_first
      ∙ ap (λ zs. Some (zs ++ y ∷ [])) (sym parts.is_both))

module _ {X Y : Type 0} (f : X → Option Y) where
  pub length-all_of : (xs : List X) (ys : List Y) → all_of f xs ≡ Some ys → length ys ≡ length xs
  length-all_of [] ys is = let none : Some [] ≡ Some ys = is in let empty : [] ≡ ys = cc in ap length (sym empty)
  length-all_of (x ∷ xs) ys is =
      let parts = onto-some (f x) (all_of f xs) ys is in
      ap length parts.is_both ∙ ap suc (length-all_of xs parts.rest parts.is_rest)
