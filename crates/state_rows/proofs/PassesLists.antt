-- Tests over lists, passed where each element passes.
use Rattle.std.proofs.Common.{◌≡◌, ℕ, zero, suc, ◌+◌, ◌<◌, ◌≤◌, Bool, true, false, ◌||◌, cond, List, [], ◌∷◌, Option, Some, None, length, get_or, refl, ap, sym, ◌∙◌, arith}
use Rattle.std.specs.Prelude.{nat_le, nat_eq, slice_get}
use Rattle.std.specs.List.{All, filter, filter_map, list_all, range_with_len, cons_option}
use Rattle.std.proofs.lemmas.Bool.{and_from, eq-eqb}
use Rattle.std.proofs.lemmas.Bool.Decides.{nat_tests}
use Rattle.std.proofs.lemmas.List.Elements.{All-head, All-tail}
use Rattle.std.proofs.lemmas.List.Sums.{list_all-from_AllPass}
use lib.Pointwise.{pointwise}
use Rattle.champ_chain.specs.Entry.{SameSet, same_none, same_first, same_turned, same_through}
use Rattle.champ_chain.proofs.SetLemmas.{same-refl}
use Rattle.champ_trie.specs.Bits.{has, rank}
use Rattle.champ_trie.proofs.BitLemmas.{rank-mono, bit-has, bit-no}
use Rattle.pool_check.specs.Tries.{all_same}
use Rattle.pool_check.proofs.GroupLemmas.{rank-next}

pub or-from : (a b : Bool) → b ≡ true → (a || b) ≡ true
or-from true b h = refl
or-from false b h = h

pub most-test : (a b : ℕ) → a ≤ b → nat_le a b ≡ true
most-test a b h = grind (arith, nat_tests)

-- a list passes where the element at each place does
pub rows-pass : {X : Type 0} (test : X → Bool) (rows : List X) → ((i : ℕ) (r : X) → slice_get rows i ≡ Some r → test r ≡ true) → list_all test rows ≡ true
rows-pass test [] each = refl
rows-pass test (row ∷ rows) each = and_from (test row) (list_all test rows) (each 0 row refl) (rows-pass test rows (λ i r is. each (suc i) r is))

pub range-pass : (test : ℕ → Bool) (a m : ℕ) → ((p : ℕ) → a ≤ p → p < a + m → test p ≡ true) → list_all test (range_with_len a m) ≡ true
range-pass test a zero each = refl
range-pass test a (suc m) each =
    and_from (test a) (list_all test (range_with_len (a + 1) m)) (each a (omega arith) (omega arith)) (range-pass test (a + 1) m (λ p from to. each p (omega (arith, from)) (omega (arith, to))))

-- numbers that are all one number are all the same
pub same-pass : (c : ℕ) (ns : List ℕ) → All (λ n. n ≡ c) ns → all_same ns ≡ true
same-pass c [] all = refl
same-pass c (n ∷ ns) all =
    list_all-from_AllPass (nat_eq n) ns (λ i d low. eq-eqb n (get_or ns i d) (All-head (λ n. n ≡ c) n ns all ∙ sym (All-tail (λ n. n ≡ c) n ns all i d low)))

-- the positions of a set go with the links of their ranks
pub positions-pass : (test : ℕ → ℕ → Bool) (s a m : ℕ) (ks : List ℕ) → rank s a + length ks ≡ rank s (a + m)
    → ((p i : ℕ) → a ≤ p → p < a + m → has s p ≡ true → rank s a + i ≡ rank s p → test p (get_or ks i 0) ≡ true) → pointwise test (filter (has s) (range_with_len a m)) ks ≡ true
positions-pass test s a zero [] long each = refl
positions-pass test s a zero (k ∷ ks) long each = absurd (let e : a + 0 ≡ a = omega arith in omega (arith, long, ap (rank s) e))
positions-pass test s a (suc m) ks long each = by_has (has s a) refl ks long each (positions-pass test s (a + 1) m)
  where
    rest : List ℕ
    rest = filter (has s) (range_with_len (a + 1) m)

    far : rank s (a + 1 + m) ≡ rank s (a + suc m)
    far = let e : a + 1 + m ≡ a + suc m = omega arith in ap (rank s) e

    by_has : (b : Bool) → has s a ≡ b → (ks : List ℕ) → rank s a + length ks ≡ rank s (a + suc m)
        → ((p i : ℕ) → a ≤ p → p < a + suc m → has s p ≡ true → rank s a + i ≡ rank s p → test p (get_or ks i 0) ≡ true)
        → ((js : List ℕ) → rank s (a + 1) + length js ≡ rank s (a + 1 + m) → ((p i : ℕ) → a + 1 ≤ p → p < a + 1 + m → has s p ≡ true → rank s (a + 1) + i ≡ rank s p → test p (get_or js i 0) ≡ true) → pointwise test rest js ≡ true)
        → pointwise test (filter (has s) (a ∷ range_with_len (a + 1) m)) ks ≡ true
    by_has false e ks long each again =
        ap (λ b. pointwise test (cond b (a ∷ rest) rest) ks) e
        ∙ again ks (omega (arith, long, rank-next s a, bit-no s a e, far))
        (λ p i from to there at. each p i (omega (arith, from)) (omega (arith, to)) there (omega (arith, at, rank-next s a, bit-no s a e)))
    by_has true e [] long each again =
        absurd (let more : a + 1 ≤ a + suc m = omega arith in omega (arith, long, rank-next s a, bit-has s a e, rank-mono s (a + 1) (a + suc m) more))
    by_has true e (k ∷ js) long each again =
        ap (λ b. pointwise test (cond b (a ∷ rest) rest) (k ∷ js)) e
        ∙ and_from (test a k) (pointwise test rest js) (each a 0 (omega arith) (omega arith) e (omega arith))
        (again js (omega (arith, long, rank-next s a, bit-has s a e, far))
        (λ p i from to there at. each p (suc i) (omega (arith, from)) (omega (arith, to)) there (omega (arith, at, rank-next s a, bit-has s a e))))

-- what is found at the elements of a list in any order
module _ {X Y : Type 0} (f : X → Option Y) where
  found-first : (o : Option Y) (xs ys : List Y) → SameSet xs ys → SameSet (cons_option o xs) (cons_option o ys)
  found-first None xs ys same = same
  found-first (Some z) xs ys same = same_first z xs ys same

  found-turned : (o p : Option Y) (xs : List Y) → SameSet (cons_option o (cons_option p xs)) (cons_option p (cons_option o xs))
  found-turned None p xs = same-refl (cons_option p xs)
  found-turned (Some y) None xs = same-refl (y ∷ xs)
  found-turned (Some y) (Some z) xs = same_turned y z xs

  pub found-any_order : (xs ys : List X) → SameSet xs ys → SameSet (filter_map f xs) (filter_map f ys)
  found-any_order _ _ same_none = same_none
  found-any_order _ _ (same_first x xs ys same) = found-first (f x) (filter_map f xs) (filter_map f ys) (found-any_order xs ys same)
  found-any_order _ _ (same_turned x y xs) = found-turned (f x) (f y) (filter_map f xs)
  found-any_order _ _ (same_through xs ys zs s t) = same_through _ _ _ (found-any_order xs ys s) (found-any_order ys zs t)
