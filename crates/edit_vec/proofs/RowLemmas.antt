-- Rows with the same head, and lists whose members have as many elements.
use Rattle.std.proofs.Common.{◌≡◌, ℕ, suc, zero, ◌-◌, ◌+◌, ◌<◌, ◌^◌, List, [], ◌∷◌, length, take, get_or, refl, sym, ◌∙◌, arith, length-append, Option, Some, None}
use Rattle.std.specs.Prelude.{option_map}
use Rattle.std.specs.List.{All, flat_map}
use Rattle.std.proofs.lemmas.List.{get_or-take, length-take, get_or_default}
use Rattle.node_heap.specs.Links.{count}
use Rattle.node_heap.specs.Forms.{Row, Forms, Kind, cell, node, form_of, head_of, links_of}
use Rattle.rrb_core.specs.Seq.{seq_at}
use Rattle.rrb_core.specs.Vector.{IsRegular, KeepsSums, row_sums}

-- a row with the head of another
pub form-rewritten : {T : Type 0} (r r' : Option (Row T)) (k : Kind) (ls : List ℕ) → head_of r' ≡ head_of r → option_map form_of r ≡ Some (node k ls) → option_map form_of r' ≡ Some (node k (links_of r'))
form-rewritten None r' k ls heads e = absurd cc
form-rewritten (Some (cell x)) r' k ls heads e = absurd cc
form-rewritten (Some (node h l)) None k ls heads e = absurd cc
form-rewritten (Some (node h l)) (Some (cell x)) k ls heads e = absurd cc
form-rewritten (Some (node h l)) (Some (node h' l')) k ls heads e = cc

pub sums-rewritten : {T : Type 0} (r r' : Option (Row T)) → head_of r' ≡ head_of r → row_sums r' ≡ row_sums r
sums-rewritten None None heads = refl
sums-rewritten None (Some (cell y)) heads = refl
sums-rewritten None (Some (node h' l')) heads = absurd cc
sums-rewritten (Some (cell x)) None heads = refl
sums-rewritten (Some (cell x)) (Some (cell y)) heads = refl
sums-rewritten (Some (cell x)) (Some (node h' l')) heads = absurd cc
sums-rewritten (Some (node h l)) None heads = absurd cc
sums-rewritten (Some (node h l)) (Some (cell y)) heads = absurd cc
sums-rewritten (Some (node h l)) (Some (node h' l')) heads = cc

-- members of two lists with as many elements, place by place
module _ (f g : ℕ → List ℕ) where
  abbrev pub SameSizes : List ℕ → List ℕ → Type 0
  SameSizes xs ys = (j : ℕ) → j < length xs → length (g (get_or ys j 0)) ≡ length (f (get_or xs j 0))

  pub sizes-take : (xs ys : List ℕ) (m : ℕ) → length ys ≡ length xs → ((j : ℕ) → j < length xs → length (g (get_or ys j 0)) ≡ length (f (get_or xs j 0))) → length (flat_map g (take m ys)) ≡ length (flat_map f (take m xs))
  sizes-take [] [] zero count same = refl
  sizes-take [] [] (suc m) count same = refl
  sizes-take [] (y ∷ ys) m count same = absurd (omega (arith, count))
  sizes-take (x ∷ xs) [] m count same = absurd (omega (arith, count))
  sizes-take (x ∷ xs) (y ∷ ys) zero count same = refl
  sizes-take (x ∷ xs) (y ∷ ys) (suc m) count same =
      omega (arith, length-append (g y) (flat_map g (take m ys)), length-append (f x) (flat_map f (take m xs)), same 0 (omega arith), sizes-take xs ys m (omega (arith, count)) (λ j lt. same (suc j) (omega (arith, lt))))

  pub full-same : (xs ys : List ℕ) (m i : ℕ) → length ys ≡ length xs → ((j : ℕ) → j < length xs → length (g (get_or ys j 0)) ≡ length (f (get_or xs j 0))) → All (λ k. length (f k) ≡ m) (take i xs) → All (λ k. length (g k) ≡ m) (take i ys)
  full-same xs ys m i count same all k d lt =
      let low : k < i = omega (arith, lt, length-take i ys) in
      let inside : k < length xs = omega (arith, lt, length-take i ys, count) in
      let was : length (f (get_or xs k 0)) ≡ m = rw (get_or-take i xs k 0 low) at (all k 0 (omega (arith, lt, length-take i ys, length-take i xs, count))) in
      rw (get_or-take i ys k d low, get_or_default ys k d 0 (omega (arith, inside, count))) (same k inside ∙ was)

-- what a row keeps of sums depends on how many elements its children have
pub keeps-same : {K : Type 0} {F G : Forms K} (n : ℕ) (ks js ss : List ℕ) → length js ≡ length ks → SameSizes (seq_at F n) (seq_at G n) ks js → KeepsSums F n ks ss → KeepsSums G n js ss
keeps-same {K} {F} {G} n ks js ss count same s =
    let to : IsRegular F n ks → IsRegular G n js = λ r. rw count (full-same (seq_at F n) (seq_at G n) ks js (32 ^ suc n) (length ks - 1) count same r) in
    let from : IsRegular G n js → IsRegular F n ks = λ r. rw (← count) (full-same (seq_at G n) (seq_at F n) js ks (32 ^ suc n) (length js - 1) (sym count) (λ j lt. sym (same j (omega (arith, lt, count)))) r) in
    record {
      none = (λ e. to (s.none.0 e), λ r. s.none.1 (from r));
      kept = λ no. let a = s.kept (λ r. no (to r)) in record { count = a.count ∙ sym count; each = λ i b. a.each i (omega (arith, b, count)) ∙ sym (sizes-take (seq_at F n) (seq_at G n) ks js (i + 1) count same) };
    }
