-- The lists that calls of vectors make.
use Rattle.std.proofs.Common.{◌≡◌, ℕ, ◌+◌, List, [], ◌∷◌, ◌++◌, length, map, get_or, Option, Some, None, refl, ap, sym, ◌∙◌, arith}
use Rattle.std.specs.Prelude.{IsSome, drop, take, slice_set, insert}
use Rattle.std.specs.List.{take-map, drop-map}
use Rattle.std.proofs.lemmas.List.{map-append, map-set}
use Rattle.node_heap.specs.Forms.{Row, cell, value_of}
use Rattle.node_heap.specs.Heap.{Heap, row_at, holds_at, hold_count, one_at}
use Rattle.node_heap.specs.Calls.{Adds, Answered, Extends}
use Rattle.node_heap.proofs.CallerLemmas.{count-one, Extends-trans, Extends-row}
use Rattle.rrb_core.specs.Vector.{elements, IsGoodVector}
use Rattle.versions.specs.Roots.{Makes}
use Rattle.versions.specs.Rooted.{value_at, IsListOf}
use Rattle.rrb_core.proofs.CallerLemmas.{extended-same}
use Rattle.versions.proofs.ListLemmas.{lists-stay}

-- each of these links names a cell, and their values are this list
module _ {T : Type 0} (f : ℕ → Option T) where
  pub cells-pushed : (zs : List ℕ) (xs : List T) (z : ℕ) (x : T) → map f zs ≡ map Some xs → f z ≡ Some x → map f (zs ++ z ∷ []) ≡ map Some (xs ++ x ∷ [])
  cells-pushed zs xs z x is one = map-append f zs (z ∷ []) ∙ (λ i. is i ++ one i ∷ []) ∙ sym (map-append Some xs (x ∷ []))

  pub cells-both : (zs ws : List ℕ) (xs ys : List T) → map f zs ≡ map Some xs → map f ws ≡ map Some ys → map f (zs ++ ws) ≡ map Some (xs ++ ys)
  cells-both zs ws xs ys is are = map-append f zs ws ∙ (λ i. is i ++ are i) ∙ sym (map-append Some xs ys)

  pub cells-set : (zs : List ℕ) (xs : List T) (n z : ℕ) (x : T) → map f zs ≡ map Some xs → f z ≡ Some x → map f (slice_set zs n z) ≡ map Some (slice_set xs n x)
  cells-set zs xs n z x is one = map-set f zs n z ∙ (λ i. slice_set (is i) n (one i)) ∙ sym (map-set Some xs n x)

  pub cells-taken : (zs : List ℕ) (xs : List T) (n : ℕ) → map f zs ≡ map Some xs → map f (take n zs) ≡ map Some (take n xs)
  cells-taken zs xs n is = sym (take-map f n zs) ∙ ap (take n) is ∙ take-map Some n xs

  pub cells-dropped : (zs : List ℕ) (xs : List T) (n : ℕ) → map f zs ≡ map Some xs → map f (drop n zs) ≡ map Some (drop n xs)
  cells-dropped zs xs n is = sym (drop-map f n zs) ∙ ap (drop n) is ∙ drop-map Some n xs

  pub cells-inserted : (zs : List ℕ) (xs : List T) (n z : ℕ) (x : T) → map f zs ≡ map Some xs → f z ≡ Some x → map f (insert zs n z) ≡ map Some (insert xs n x)
  cells-inserted zs xs n z x is one =
      map-append f (take n zs) (z ∷ drop n zs) ∙ (λ i. cells-taken zs xs n is i ++ one i ∷ cells-dropped zs xs n is i) ∙ sym (map-append Some (take n xs) (x ∷ drop n xs))

module _ {T : Type 0} where
  pub value-live : (r : Option (Row T)) (x : T) → value_of r ≡ Some x → IsSome r
  value-live None x is = absurd (let h = is in cc)
  value-live (Some r) x is = refl

  -- cells stay where no row goes
  pub cells-kept : (old new : Heap T) → Extends old new → (zs : List ℕ) (xs : List T) → map (value_at old) zs ≡ map Some xs → map (value_at new) zs ≡ map Some xs
  cells-kept old new more [] xs is = is
  cells-kept old new more (z ∷ zs) [] is = absurd (let h = is in cc)
  cells-kept old new more (z ∷ zs) (x ∷ xs) is =
      let first : value_at old z ≡ Some x = ap (λ ys. get_or ys 0 None) is in
      let rest : map (value_at old) zs ≡ map Some xs = ap (drop 1) is in
      let kept : value_at new z ≡ Some x = ap value_of (Extends-row more z (value-live (row_at old z) x first)) ∙ first in
      λ i. kept i ∷ cells-kept old new more zs xs rest i

  -- a call that spends nothing
  pub answered-list : (old new : Heap T) (l n : ℕ) (zs : List ℕ) (xs : List T) → Answered old new [] l 0 n → IsGoodVector new l → elements new l ≡ zs → map (value_at old) zs ≡ map Some xs → Makes IsListOf old new l xs
  answered-list old new l n zs xs answered good items is = record {
    is = record { good = good; cells = ap (map (value_at new)) items ∙ cells-kept old new answered.extends zs xs is };
    keeps = lists-stay old new answered.extends;
    holds = λ k. let here : holds_at new k + 0 ≡ holds_at old k + one_at l k = answered.holds k in omega (arith, here);
    count = let all : hold_count new + 0 ≡ hold_count old + 1 = answered.count in omega (arith, all);
  }

  -- a call that spends the hold of a new cell
  pub spent-list : (old mid new : Heap T) (c l n : ℕ) (x : T) (zs : List ℕ) (xs : List T) → Adds old mid c (cell x) → Extends old mid → hold_count mid ≡ hold_count old + 1 → Answered mid new (c ∷ []) l 0 n
      → IsGoodVector new l → elements new l ≡ zs → map (value_at mid) zs ≡ map Some xs → Makes IsListOf old new l xs
  spent-list old mid new c l n x zs xs adds more one answered good items is = record {
    is = record { good = good; cells = ap (map (value_at new)) items ∙ cells-kept mid new answered.extends zs xs is };
    keeps = lists-stay old new (Extends-trans more answered.extends);
    holds = λ k.
        let first : holds_at mid k + 0 ≡ holds_at old k + one_at c k = adds.holds k in
        omega (arith, first, answered.holds k, count-one k c);
    count = let all : hold_count new + 1 ≡ hold_count mid + 1 = answered.count in omega (arith, all, one);
  }

  pub cell-value : (old new : Heap T) (c : ℕ) (x : T) → Adds old new c (cell x) → value_at new c ≡ Some x
  cell-value old new c x adds = ap value_of adds.here

  pub length-kept : (old new : Heap T) (l : ℕ) → Extends old new → IsGoodVector old l → length (elements new l) ≡ length (elements old l)
  length-kept old new l more good = ap length (extended-same more l good).1
