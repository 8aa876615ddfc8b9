-- The lines of a reply that has one for each of some things, and then `ok`.
use Rattle.std.proofs.Common.{◌≡◌, ℕ, ◌+◌, ◌<◌, ◌≤◌, List, [], ◌∷◌, ◌++◌, length, take, drop, map, get_or, sym, ap, ◌∙◌, refl, append_assoc}
use Rattle.std.proofs.lemmas.List.{take_more, map-append, take-append-drop, take_all, append-nil}
use Rattle.std.proofs.lemmas.List.Concat.{flat_map-append}
use Rattle.elem_core.specs.declared.TheConstants.{NEWLINE}
use Rattle.plain_space.specs.Answer.{ok_line}
use Rattle.ewig_shell.specs.Step.{reply_of}

-- the lines of two lists are those of the first, then those of the second
pub reply_of-append : (xs ys : List (List ℕ)) → reply_of (xs ++ ys) ≡ reply_of xs ++ reply_of ys
reply_of-append xs ys = flat_map-append (λ (line : List ℕ). line ++ NEWLINE ∷ []) xs ys

-- one map after another is one map
map-map : {X Y Z : Type 0} (f : Y → Z) (g : X → Y) (xs : List X) → map f (map g xs) ≡ map (λ (x : X). f (g x)) xs
map-map f g [] = refl
map-map {Z = Z} f g (x ∷ xs) = ap (λ (w : List Z). f (g x) ∷ w) (map-map f g xs)

-- the lines of what is gone over are those of what it shows
pub shown_as : {X Y Z : Type 0} (f : Y → Z) (g : X → Y) {xs items : List X} {ys : List Y} → xs ≡ items → map g items ≡ ys → map (λ (x : X). f (g x)) xs ≡ map f ys
shown_as f g {xs} same are = sym (map-map f g xs) ∙ ap (map f) (ap (map g) same ∙ are)

-- the next of those that are still to come
pub next_of : {X : Type 0} (so_far : List X) (x : X) (old new all : List X) → so_far ++ old ≡ all → old ≡ x ∷ new → (so_far ++ x ∷ []) ++ new ≡ all
next_of {X = X} so_far x old new all others e = append_assoc so_far (x ∷ []) new ∙ ap (λ (w : List X). so_far ++ w) (sym e) ∙ others

pub none_left : {X : Type 0} (so_far old all : List X) → so_far ++ old ≡ all → old ≡ [] → so_far ++ [] ≡ all
none_left {X = X} so_far old all others e = ap (λ (w : List X). so_far ++ w) (sym e) ∙ others

module _ {X : Type 0} (f : X → List ℕ) where
  -- one line more
  pub one_more : (so_far : List X) (x : X) → reply_of (map f so_far) ++ reply_of (f x ∷ []) ≡ reply_of (map f (so_far ++ x ∷ []))
  one_more so_far x = sym (reply_of-append (map f so_far) (f x ∷ [])) ∙ ap reply_of (sym (map-append f so_far (x ∷ [])))

  -- the others, and `ok`
  pub all_others : (so_far others all : List X) → so_far ++ others ≡ all → reply_of (map f so_far) ++ reply_of (map f others ++ ok_line ∷ []) ≡ reply_of (map f all ++ ok_line ∷ [])
  all_others so_far others all e =
      sym (reply_of-append (map f so_far) (map f others ++ ok_line ∷ []))
      ∙ ap reply_of (sym (append_assoc (map f so_far) (map f others) (ok_line ∷ [])))
      ∙ ap (λ (w : List (List ℕ)). reply_of (w ++ ok_line ∷ [])) (sym (map-append f so_far others) ∙ ap (map f) e)

-- the same of what is gone over by an index
module _ {X : Type 0} (f : X → List ℕ) (xs : List X) (i : ℕ) where
  pub one_more_at : (x : X) → i < length xs → x ≡ get_or xs i x → reply_of (map f (take i xs)) ++ reply_of (f x ∷ []) ≡ reply_of (map f (take (i + 1) xs))
  one_more_at x low item =
      one_more f (take i xs) x
      ∙ ap (λ (w : List X). reply_of (map f (take i xs ++ w))) (ap (λ (y : X). y ∷ []) item)
      ∙ ap (λ (w : List X). reply_of (map f w)) (sym (take_more xs i x low))

  -- the lines so far, with the others and `ok`
  pub all_others_at : reply_of (map f (take i xs)) ++ reply_of (map f (drop i xs) ++ ok_line ∷ []) ≡ reply_of (map f xs ++ ok_line ∷ [])
  all_others_at = all_others f (take i xs) (drop i xs) xs (take-append-drop i xs)

  -- all lines, and `ok`
  pub all_at : length xs ≤ i → reply_of (map f (take i xs)) ++ reply_of (ok_line ∷ []) ≡ reply_of (map f xs ++ ok_line ∷ [])
  all_at high = ap (λ (w : List X). reply_of (map f w) ++ reply_of (ok_line ∷ [])) (take_all i xs high) ∙ all_others f xs [] xs (append-nil xs)
