-- Lists of links with the same counts.
use Rattle.std.proofs.Common.{◌≡◌, ◌≢◌, ℕ, suc, ◌+◌, ◌<◌, List, [], ◌∷◌, length, refl, ap, sym, arith, inl, inr, ◌⊎◌}
use Rattle.std.proofs.lemmas.Bool.{cases_eq}
use Rattle.node_heap.specs.Links.{count}
use Rattle.node_heap.specs.Heap.{one_at}
use Rattle.node_heap.proofs.BuildLemmas.{count-cons}
use Rattle.node_heap.proofs.Counts.{test_same, test_other}

-- the list without one place of the link
without-one : (x : ℕ) (ys : List ℕ) → 0 < count x ys → (zs : List ℕ) × (length ys ≡ suc (length zs)) × ((k : ℕ) → count k ys ≡ one_at x k + count k zs)
without-one x [] some = absurd (omega (arith, some))
without-one x (y ∷ ys) some = by_case (cases_eq y x) (without-one x ys)
  where
    by_case : (y ≡ x) ⊎ (y ≢ x) → (0 < count x ys → (us : List ℕ) × (length ys ≡ suc (length us)) × ((k : ℕ) → count k ys ≡ one_at x k + count k us)) → (zs : List ℕ) × (length (y ∷ ys) ≡ suc (length zs)) × ((k : ℕ) → count k (y ∷ ys) ≡ one_at x k + count k zs)
    by_case (inl same) again = (ys, omega arith, λ k. omega (arith, count-cons k y ys, ap (λ z. one_at z k) same))
    by_case (inr other) again =
        let rest = again (omega (arith, some, count-cons x y ys, test_other x y (λ e. other (sym e)))) in
        (y ∷ rest.0, omega (arith, rest.1), λ k. omega (arith, count-cons k y ys, count-cons k y rest.0, rest.2 k))

pub same-counts-length : (xs ys : List ℕ) → ((k : ℕ) → count k xs ≡ count k ys) → length xs ≡ length ys
same-counts-length [] [] same = refl
same-counts-length [] (y ∷ ys) same = absurd (omega (arith, same y, count-cons y y ys, test_same y y refl))
same-counts-length (x ∷ xs) ys same =
    let less = without-one x ys (omega (arith, same x, count-cons x x xs, test_same x x refl)) in
    omega (arith, less.1, same-counts-length xs less.0 (λ k. omega (arith, same k, less.2 k, count-cons k x xs)))
