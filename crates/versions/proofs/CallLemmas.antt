-- What the calls of a store read of the lists that it holds.
use Rattle.std.proofs.Common.{◌≡◌, ℕ, zero, suc, List, [], ◌∷◌, length, map, get_or, drop, Option, Some, None, Result, Ok, Err, refl, ap, sym, ◌∙◌, subst, arith, Bool, true, false, inl, inr, ◌<◌, ◌≤◌}
use Rattle.std.proofs.lemmas.Bool.{cases_lt}
use Rattle.std.specs.Prelude.{OnErr, OnOk, IsErrAnd, is_err, is_ok, slice_get}
use Rattle.node_heap.specs.Heap.{Heap}
use Rattle.rrb_core.specs.Vector.{elements, IsGoodVector}
use Rattle.versions.specs.Rooted.{value_at, IsListOf}
use Rattle.versions.proofs.ListLemmas.{list-length}

pub on-err : {A E : Type 0} (r : Result A E) (P : Type 0) → P → OnErr r P
on-err (Ok x) P p = tt
on-err (Err e) P p = p

pub on-ok : {A E : Type 0} (r : Result A E) (P : Type 0) → is_err r ≡ false → OnOk r P → P
on-ok (Ok x) P fine p = p
on-ok (Err e) P fine p = absurd (let bad = fine in cc)

abbrev err_or : {A E : Type 0} → E → Result A E → E
err_or e (Ok x) = e
err_or e (Err f) = f

-- an answer that is this fault is no other
pub err-is : {A E : Type 0} (r : Result A E) (e f : E) → IsErrAnd r (λ x. x ≡ e) → r ≡ Err f → f ≡ e
err-is (Ok x) e f at is = absurd at
err-is (Err g) e f at is = sym (ap (err_or g) is) ∙ at

-- two refusals that are the same have the same fault
pub same-err : {A E : Type 0} (e f : E) → ◌≡◌ {A = Result A E} (Err e) (Err f) → e ≡ f
same-err e f is = ap (err_or e) is

pub is-fine : {A E : Type 0} (r : Result A E) → is_err r ≡ false → is_ok r ≡ true
is-fine (Ok x) fine = refl
is-fine (Err e) fine = absurd (let bad = fine in cc)

pub err-back : {A E : Type 0} (r : Result A E) (e : E) → IsErrAnd r (λ x. x ≡ e) → r ≡ Err e
err-back (Ok x) e at = absurd at
err-back (Err g) e at = ap Err at

-- where a test for the end fails, the index is inside
pub inside-by : (n i : ℕ) (b : Bool) → (n ≤ i → b ≡ true) → b ≡ false → i < n
inside-by n i b past fails = elim (cases_lt i n) as (λ _. i < n) [
  | inl low ↦ low
  | inr high ↦ absurd (let yes = past high in cc)
]

pub no-elements : {X : Type 0} (xs : List X) → length xs ≡ 0 → xs ≡ []
no-elements [] none = refl
no-elements (x ∷ xs) none = absurd (let bad : suc (length xs) ≡ 0 = none in omega (arith, bad))

-- the cell at an index has the value there
got-cell : {X : Type 0} (f : ℕ → Option X) (zs : List ℕ) (xs : List X) (n z : ℕ) → map f zs ≡ map Some xs → slice_get zs n ≡ Some z → f z ≡ slice_get xs n
got-cell f [] xs n z is at = absurd (let bad = at in cc)
got-cell f (k ∷ zs) [] n z is at = absurd (let bad = is in cc)
got-cell f (k ∷ zs) (x ∷ xs) zero z is at = let same : k ≡ z = ap (λ o. get_or (list o) 0 0) at in ap f (sym same) ∙ ap (λ os. get_or os 0 None) is
  where
    list : Option ℕ → List ℕ
    list None = []
    list (Some j) = j ∷ []
got-cell f (k ∷ zs) (x ∷ xs) (suc n) z is at = got-cell f zs xs n z (ap (drop 1) is) at

got-none : {X : Type 0} (f : ℕ → Option X) (zs : List ℕ) (xs : List X) (n : ℕ) → map f zs ≡ map Some xs → slice_get zs n ≡ None → slice_get xs n ≡ None
got-none f [] [] n is at = refl
got-none f [] (x ∷ xs) n is at = absurd (let bad = is in cc)
got-none f (k ∷ zs) [] n is at = refl
got-none f (k ∷ zs) (x ∷ xs) zero is at = absurd (let bad = at in cc)
got-none f (k ∷ zs) (x ∷ xs) (suc n) is at = got-none f zs xs n (ap (drop 1) is) at

module _ {T : Type 0} where
  module _ (h : Heap T) (l r : ℕ) (xs : List T) (at : r ≡ l) (is : IsListOf h l xs) where
    pub good-at : IsGoodVector h r
    good-at = subst (IsGoodVector h) (sym at) is.good

    pub length-at : length (elements h r) ≡ length xs
    length-at = ap (λ k. length (elements h k)) at ∙ list-length h l xs is

    pub empty-at : elements h r ≡ [] → xs ≡ []
    empty-at none = no-elements xs (sym length-at ∙ ap length none)

    pub at-empty : xs ≡ [] → elements h r ≡ []
    at-empty none = no-elements (elements h r) (length-at ∙ ap length none)

    pub value-got : (n z : ℕ) → slice_get (elements h r) n ≡ Some z → value_at h z ≡ slice_get xs n
    value-got n z got = got-cell (value_at h) (elements h l) xs n z is.cells (ap (λ k. slice_get (elements h k) n) (sym at) ∙ got)

    pub none-got : (n : ℕ) → slice_get (elements h r) n ≡ None → slice_get xs n ≡ None
    none-got n none = got-none (value_at h) (elements h l) xs n is.cells (ap (λ k. slice_get (elements h k) n) (sym at) ∙ none)

    -- where the test for no element fails, there is one wherever the list is
    pub some-at : (h' : Heap T) → IsListOf h' l xs → (b : Bool) → (elements h r ≡ [] → b ≡ true) → b ≡ false → 0 < length (elements h' l)
    some-at h' is' b none fails = elim (cases_lt 0 (length (elements h' l))) as (λ _. 0 < length (elements h' l)) [
      | inl some ↦ some
      | inr few ↦
          let same : length (elements h' l) ≡ length xs = list-length h' l xs is' in
          let yes = none (at-empty (no-elements xs (omega (arith, few, same)))) in
          absurd (cc)
    ]
