-- Links by the positions of a set: the elements of one position are those of its link.
use Rattle.std.proofs.Common.{◌≡◌, ◌≢◌, ℕ, zero, suc, ◌+◌, ◌-◌, ◌<◌, ◌≤◌, Bool, true, false, cond, List, [], ◌∷◌, ◌++◌, length, refl, ap, sym, subst, ◌∙◌, arith, inl, inr}
use Rattle.std.specs.Prelude.{nat_eq, slice_index}
use Rattle.std.specs.List.{filter, flat_map, list_all, range_with_len}
use Rattle.std.specs.Int.{bit_at}
use Rattle.std.proofs.lemmas.Bool.{cases_eq, eqb-true, ne_eqb}
use Rattle.std.proofs.lemmas.List.{append-nil}
use Rattle.std.proofs.lemmas.List.Elements.{filter-append}
use lib.Pointwise.{pointwise}
use Rattle.champ_trie.specs.Bits.{has, rank}
use Rattle.champ_trie.proofs.BitLemmas.{rank-mono, bit-has, bit-no}
use Rattle.pool_check.proofs.TestLemmas.{and-first, and-second, not-both}

filter-all : {X : Type 0} (p : X → Bool) (xs : List X) → list_all p xs ≡ true → filter p xs ≡ xs
filter-all p [] h = refl
filter-all p (x ∷ xs) h = let here = and-first (p x) (list_all p xs) h in rw (here, filter-all p xs (and-second (p x) (list_all p xs) h)) refl

pub rank-next : (s a : ℕ) → rank s (a + 1) ≡ rank s a + bit_at s a
unfolding rank
rank-next s a = let e : a + 1 ≡ suc a = omega arith in rw e refl

-- as many positions as the rank counts
pub positions-length : (s a m : ℕ) → length (filter (has s) (range_with_len a m)) + rank s a ≡ rank s (a + m)
positions-length s a zero = let e : a + 0 ≡ a = omega arith in rw e (let z : 0 + rank s a ≡ rank s a = omega arith in z)
positions-length s a (suc m) = by_has (has s a) refl (positions-length s (a + 1) m)
  where
    by_has : (b : Bool) → has s a ≡ b → length (filter (has s) (range_with_len (a + 1) m)) + rank s (a + 1) ≡ rank s (a + 1 + m) → length (filter (has s) (a ∷ range_with_len (a + 1) m)) + rank s a ≡ rank s (a + suc m)
    by_has true h rest =
        let same : a + 1 + m ≡ a + suc m = omega arith in
        let longer : length (filter (has s) (a ∷ range_with_len (a + 1) m)) ≡ suc (length (filter (has s) (range_with_len (a + 1) m))) = ap (λ b. length (cond b (a ∷ filter (has s) (range_with_len (a + 1) m)) (filter (has s) (range_with_len (a + 1) m)))) h in
        omega (arith, longer, rest, rank-next s a, bit-has s a h, ap (rank s) same)
    by_has false h rest =
        let same : a + 1 + m ≡ a + suc m = omega arith in
        let as_long : length (filter (has s) (a ∷ range_with_len (a + 1) m)) ≡ length (filter (has s) (range_with_len (a + 1) m)) = ap (λ b. length (cond b (a ∷ filter (has s) (range_with_len (a + 1) m)) (filter (has s) (range_with_len (a + 1) m)))) h in
        omega (arith, as_long, rest, rank-next s a, bit-no s a h, ap (rank s) same)

pub pointwise-length : {A B : Type 0} (E : A → B → Bool) (xs : List A) (ys : List B) → pointwise E xs ys ≡ true → length xs ≡ length ys
pointwise-length E [] [] h = refl
pointwise-length E [] (y ∷ ys) h = absurd (not-both h)
pointwise-length E (x ∷ xs) [] h = absurd (not-both h)
pointwise-length E (x ∷ xs) (y ∷ ys) h = ap suc (pointwise-length E xs ys (and-second (E x y) (pointwise E xs ys) h))

module _ {X : Type 0} (digit : X → ℕ) (g : ℕ → List X) (test : ℕ → ℕ → Bool) (says : (q k : ℕ) → test q k ≡ true → list_all (λ x. nat_eq (digit x) q) (g k) ≡ true) (s : ℕ) where
  abbrev pub with_digit : ℕ → List X → List X
  with_digit p xs = filter (λ x. nat_eq (digit x) p) xs

  filter-none : (p q : ℕ) → q ≢ p → (xs : List X) → list_all (λ x. nat_eq (digit x) q) xs ≡ true → with_digit p xs ≡ []
  filter-none p q other [] h = refl
  filter-none p q other (x ∷ xs) h =
      let is : digit x ≡ q = eqb-true (digit x) q (and-first (nat_eq (digit x) q) (list_all (λ y. nat_eq (digit y) q) xs) h) in
      let no : nat_eq (digit x) p ≡ false = ne_eqb (digit x) p (λ e. other (sym is ∙ e)) in
      rw no (filter-none p q other xs (and-second (nat_eq (digit x) q) (list_all (λ y. nat_eq (digit y) q) xs) h))

  -- no element has a smaller digit
  none-below : (a m : ℕ) (ks : List ℕ) (p : ℕ) → pointwise test (filter (has s) (range_with_len a m)) ks ≡ true → p < a → with_digit p (flat_map g ks) ≡ []
  none-below a zero [] p h low = refl
  none-below a zero (k ∷ ks) p h low = absurd (not-both h)
  none-below a (suc m) ks p h low = by_has (has s a) refl ks h (λ js e. none-below (a + 1) m js p e (omega (arith, low)))
    where
      by_has : (b : Bool) → has s a ≡ b → (ks : List ℕ) → pointwise test (filter (has s) (a ∷ range_with_len (a + 1) m)) ks ≡ true
          → ((js : List ℕ) → pointwise test (filter (has s) (range_with_len (a + 1) m)) js ≡ true → with_digit p (flat_map g js) ≡ []) → with_digit p (flat_map g ks) ≡ []
      by_has false e ks h rest = rest ks (sym (ap (λ b. pointwise test (cond b (a ∷ filter (has s) (range_with_len (a + 1) m)) (filter (has s) (range_with_len (a + 1) m))) ks) e) ∙ h)
      by_has true e ks h rest = by_links ks (sym (ap (λ b. pointwise test (cond b (a ∷ filter (has s) (range_with_len (a + 1) m)) (filter (has s) (range_with_len (a + 1) m))) ks) e) ∙ h)
        where
          by_links : (ks : List ℕ) → pointwise test (a ∷ filter (has s) (range_with_len (a + 1) m)) ks ≡ true → with_digit p (flat_map g ks) ≡ []
          by_links [] h = absurd (not-both h)
          by_links (k ∷ ks) h =
              let here = and-first (test a k) (pointwise test (filter (has s) (range_with_len (a + 1) m)) ks) h in
              let later = and-second (test a k) (pointwise test (filter (has s) (range_with_len (a + 1) m)) ks) h in
              filter-append (λ x. nat_eq (digit x) p) (g k) (flat_map g ks) ∙ ap (λ xs. xs ++ with_digit p (flat_map g ks)) (filter-none p a (λ same. absurd (omega (arith, same, low))) (g k) (says a k here)) ∙ rest ks later

  -- the elements of a position are those of its link, and there are none where it isn't in the set
  pub record AtLink (p : ℕ) (ks : List ℕ) (i : ℕ) : Type 0 where
    pub here : has s p ≡ true → (with_digit p (flat_map g ks) ≡ g (slice_index ks i)) × (test p (slice_index ks i) ≡ true)
    pub gone : has s p ≡ false → with_digit p (flat_map g ks) ≡ []

  pub found : (a m : ℕ) (ks : List ℕ) (p i : ℕ) → pointwise test (filter (has s) (range_with_len a m)) ks ≡ true → a ≤ p → p < a + m → rank s a + i ≡ rank s p → AtLink p ks i
  found a zero ks p i h from to at = absurd (omega (arith, from, to))
  found a (suc m) ks p i h from to at = by_has (has s a) refl ks h (λ js j e ahead is. found (a + 1) m js p j e ahead (omega (arith, to)) is)
    where
      by_has : (b : Bool) → has s a ≡ b → (ks : List ℕ) → pointwise test (filter (has s) (a ∷ range_with_len (a + 1) m)) ks ≡ true
          → ((js : List ℕ) (j : ℕ) → pointwise test (filter (has s) (range_with_len (a + 1) m)) js ≡ true → a + 1 ≤ p → rank s (a + 1) + j ≡ rank s p → AtLink p js j) → AtLink p ks i
      by_has false e ks h rest = elim (cases_eq a p) as (λ _. AtLink p ks i) [
        | inl same ↦ record {
          here = λ has_p. absurd (not-both (sym e ∙ ap (has s) same ∙ has_p));
          gone = λ _. none-below (a + 1) m ks p rest_test (omega (arith, same));
        }
        | inr other ↦ rest ks i rest_test (omega (arith, from, other)) (omega (arith, at, rank-next s a, bit-no s a e))
      ]
        where
          rest_test : pointwise test (filter (has s) (range_with_len (a + 1) m)) ks ≡ true
          rest_test = sym (ap (λ b. pointwise test (cond b (a ∷ filter (has s) (range_with_len (a + 1) m)) (filter (has s) (range_with_len (a + 1) m))) ks) e) ∙ h
      by_has true e ks h rest = by_links ks (sym (ap (λ b. pointwise test (cond b (a ∷ filter (has s) (range_with_len (a + 1) m)) (filter (has s) (range_with_len (a + 1) m))) ks) e) ∙ h)
        where
          by_links : (ks : List ℕ) → pointwise test (a ∷ filter (has s) (range_with_len (a + 1) m)) ks ≡ true → AtLink p ks i
          by_links [] h = absurd (not-both h)
          by_links (k ∷ ks) h = elim (cases_eq a p) as (λ _. AtLink p (k ∷ ks) i) [
            | inl same ↦
                let first : i ≡ 0 = omega (arith, at, ap (rank s) same) in
                subst (λ j. AtLink p (k ∷ ks) j) (sym first) (subst (λ q. AtLink q (k ∷ ks) 0) same (record {
                  here = λ _. (
                    filter-append (λ x. nat_eq (digit x) a) (g k) (flat_map g ks) ∙ ap (λ xs. xs ++ with_digit a (flat_map g ks)) (filter-all (λ x. nat_eq (digit x) a) (g k) (says a k here)) ∙ ap (λ xs. g k ++ xs) (none-below (a + 1) m ks a later (omega arith)) ∙ append-nil (g k),
                    here,
                  );
                  gone = λ no. absurd (not-both (sym no ∙ e));
                }))
            | inr other ↦
                let ahead : a + 1 ≤ p = omega (arith, from, other) in
                let more : rank s (a + 1) ≤ rank s p = rank-mono s (a + 1) p ahead in
                let step : rank s (a + 1) ≡ rank s a + 1 = omega (arith, rank-next s a, bit-has s a e) in
                let next : i ≡ suc (i - 1) = omega (arith, at, more, step) in
                let deeper : AtLink p ks (i - 1) = rest ks (i - 1) later ahead (omega (arith, at, more, step)) in
                let skip : with_digit p (flat_map g (k ∷ ks)) ≡ with_digit p (flat_map g ks) = filter-append (λ x. nat_eq (digit x) p) (g k) (flat_map g ks) ∙ ap (λ xs. xs ++ with_digit p (flat_map g ks)) (filter-none p a other (g k) (says a k here)) in
                subst (λ j. AtLink p (k ∷ ks) j) (sym next) (record {
                  here = λ yes. let is = deeper.here yes in (skip ∙ is.0, is.1);
                  gone = λ no. skip ∙ deeper.gone no;
                })
          ]
            where
              here : test a k ≡ true
              here = and-first (test a k) (pointwise test (filter (has s) (range_with_len (a + 1) m)) ks) h

              later : pointwise test (filter (has s) (range_with_len (a + 1) m)) ks ≡ true
              later = and-second (test a k) (pointwise test (filter (has s) (range_with_len (a + 1) m)) ks) h
