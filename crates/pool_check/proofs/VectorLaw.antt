-- In a pool that passes the tests a vector root keeps the fill rule.
use Rattle.std.proofs.Common.{◌≡◌, ℕ, zero, suc, ◌-◌, ◌<◌, ◌≤◌, ◌^◌, Bool, true, ◌&&◌, List, [], ◌∷◌, length, take, refl, ap, sym, subst, ◌∙◌, arith}
use Rattle.std.specs.Prelude.{Option, Some, None, nat_lt, nat_le}
use Rattle.std.specs.List.{list_all, All, flat_map, sum_by}
use Rattle.std.proofs.lemmas.Bool.{ltb-true, leb-true, eqb-true}
use Rattle.std.proofs.lemmas.List.Concat.{length-flat_map}
use Rattle.std.proofs.lemmas.List.Sums.{sum_by-cons}
use Rattle.node_heap.specs.Forms.{Form, Forms, cell, node, leaf, inner, trie, chain, pair, state, links_of, links_in}
use Rattle.node_heap.specs.declared.row.TheConstants.{MOST_HEIGHT}
use Rattle.rrb_core.specs.Seq.{height_in, form_height, seq_at, IsThick, IsWellInner, IsWell, IsWellShaped}
use Rattle.pool_text.specs.Rows.{is_between, is_in_range_to}
use Rattle.pool_check.specs.Vectors.{has_height, is_thick, length_at, are_children, keeps_fill_rule}
use Rattle.pool_check.specs.Kinds.{is_vector_root}
use Rattle.pool_check.proofs.TestLemmas.{and-first, and-second, not-both, all-from}

sum_by-same_each : (f g : ℕ → ℕ) → ((k : ℕ) → f k ≡ g k) → (xs : List ℕ) → sum_by f xs ≡ sum_by g xs
sum_by-same_each f g same [] = refl
sum_by-same_each f g same (x ∷ xs) = omega (arith, sum_by-cons f x xs, sum_by-cons g x xs, same x, sum_by-same_each f g same xs)

module _ {K : Type 0} (F : Forms K) where
  pub length_at-is : (n l : ℕ) → length_at F n l ≡ length (seq_at F n l)
  unfolding length_at seq_at
  length_at-is zero l = refl
  length_at-is (suc n) l = sum_by-same_each (length_at F n) (λ k. length (seq_at F n k)) (length_at-is n) (links_in F l) ∙ sym (length-flat_map (seq_at F n) (links_in F l))

  pub is_thick-is : (n l : ℕ) → is_thick F n l ≡ true → IsThick F n l
  unfolding is_thick IsThick
  is_thick-is zero l e = leb-true 16 (length (links_in F l)) e
  is_thick-is (suc n) l e =
      let wide : Bool = nat_le 16 (length (links_in F l)) in
      let deep : Bool = list_all (is_thick F n) (links_in F l) in
      (leb-true 16 (length (links_in F l)) (and-first wide deep e), all-from (is_thick F n) (IsThick F n) (is_thick-is n) (links_in F l) (and-second wide deep e))

  -- what the test of the children says
  record Children (n : ℕ) (ks : List ℕ) : Type 0 where
    pub high : list_all (λ k. has_height n (F k)) ks ≡ true
    pub thick : All (IsThick F n) (take (length ks - 1) ks)
    pub not_empty : All (λ k. 1 ≤ length (links_in F k)) ks
    pub short : length (flat_map (seq_at F n) ks) < 2 ^ 32

  children : (n : ℕ) (ks : List ℕ) → are_children F n ks ≡ true → Children n ks
  unfolding are_children
  children n ks e =
      let a : Bool = list_all (λ k. has_height n (F k)) ks in
      let b : Bool = list_all (is_thick F n) (take (length ks - 1) ks) in
      let c : Bool = list_all (λ k. nat_le 1 (length (links_in F k))) ks in
      let d : Bool = nat_lt (sum_by (length_at F n) ks) (2 ^ 32) in
      let abc : (a && b && c) ≡ true = and-first (a && b && c) d e in
      let ab : (a && b) ≡ true = and-first (a && b) c abc in
      let size : sum_by (length_at F n) ks ≡ length (flat_map (seq_at F n) ks) = sum_by-same_each (length_at F n) (λ k. length (seq_at F n k)) (length_at-is n) ks ∙ sym (length-flat_map (seq_at F n) ks) in
      record {
        high = and-first a b ab;
        thick = all-from (is_thick F n) (IsThick F n) (is_thick-is n) (take (length ks - 1) ks) (and-second a b ab);
        not_empty = all-from (λ k. nat_le 1 (length (links_in F k))) (λ k. 1 ≤ length (links_in F k)) (λ k low. leb-true 1 (length (links_in F k)) low) ks (and-second (a && b) c abc);
        short = subst (λ n. n < 2 ^ 32) size (ltb-true (sum_by (length_at F n) ks) (2 ^ 32) (and-second (a && b && c) d e));
      }

  between : (a b n : ℕ) → is_between a b n ≡ true → (a ≤ n) × (n ≤ b)
  between a b n e = (leb-true a n (and-first (nat_le a n) (nat_le n b) e), leb-true n b (and-second (nat_le a n) (nat_le n b) e))

  -- each row is in range, and keeps the fill rule
  module _ (deepest : ℕ) (ranged : (l : ℕ) (r : Form K) → F l ≡ Some r → is_in_range_to deepest r ≡ true) (filled : (l : ℕ) (r : Form K) → F l ≡ Some r → keeps_fill_rule F r ≡ true) where
    record Inner (n l : ℕ) (ks : List ℕ) : Type 0 where
      pub row : F l ≡ Some (node (inner (suc n)) ks)
      pub low : suc n ≤ MOST_HEIGHT
      pub some : 1 ≤ length ks
      pub most : length ks ≤ 32
      pub below : Children n ks

    inner-is : (l height : ℕ) (ks : List ℕ) → F l ≡ Some (node (inner height) ks) → (n : ℕ) × (height ≡ suc n) × Inner n l ks
    inner-is l zero ks is = absurd (not-both (ranged l (node (inner zero) ks) is))
    inner-is l (suc n) ks is =
        let e : is_in_range_to {K = K} deepest (node (inner (suc n)) ks) ≡ true = ranged l (node (inner (suc n)) ks) is in
        let fits = between 1 MOST_HEIGHT (suc n) (and-first (is_between 1 MOST_HEIGHT (suc n)) (is_between 1 32 (length ks)) e) in
        let few = between 1 32 (length ks) (and-second (is_between 1 MOST_HEIGHT (suc n)) (is_between 1 32 (length ks)) e) in
        let one : suc n - 1 ≡ n = omega arith in
        let fill : are_children F n ks ≡ true = ap (λ n. are_children F n ks) (sym one) ∙ filled l (node (inner (suc n)) ks) is in
        (n, refl, record { row = is; low = fits.1; some = few.0; most = few.1; below = children n ks fill })

    well-inner : (n l : ℕ) (ks : List ℕ) → Inner n l ks → ((k : ℕ) → has_height n (F k) ≡ true → IsWell F n k) → IsWell F (suc n) l
    unfolding IsWell
    well-inner n l ks row each =
        let same : ks ≡ links_in F l = sym (ap links_of row.row) in
        let P : List ℕ → Type 0 = λ xs. IsWellInner F n l (IsWell F n) (IsThick F n) in
        record {
          kind = row.row ∙ ap (λ xs. Some (node (inner (suc n)) xs)) same;
          some = subst (λ xs. 1 ≤ length xs) same row.some;
          most = subst (λ xs. length xs ≤ 32) same row.most;
          children = subst (λ xs. All (IsWell F n) xs) same (all-from (λ k. has_height n (F k)) (IsWell F n) each ks row.below.high);
          thick = subst (λ xs. All (IsThick F n) (take (length xs - 1) xs)) same row.below.thick;
          not_empty = subst (λ xs. All (λ k. 1 ≤ length (links_in F k)) xs) same row.below.not_empty;
        }

    well-leaf : (l : ℕ) (ks : List ℕ) → F l ≡ Some (node leaf ks) → IsWell F zero l
    unfolding IsWell
    well-leaf l ks is =
        let same : ks ≡ links_in F l = sym (ap links_of is) in
        record { kind = is ∙ ap (λ xs. Some (node leaf xs)) same; most = subst (λ xs. length xs ≤ 32) same (leb-true (length ks) 32 (ranged l (node leaf ks) is)) }

    -- a vector row of a height keeps the fill rule at that height
    pub well : (n l : ℕ) → has_height n (F l) ≡ true → IsWell F n l
    well zero l e = by_row (F l) refl e
      where
        by_row : (r : Option (Form K)) → F l ≡ r → has_height zero r ≡ true → IsWell F zero l
        by_row None is e = absurd (not-both e)
        by_row (Some (cell _)) is e = absurd (not-both e)
        by_row (Some (node leaf ks)) is e = well-leaf l ks is
        by_row (Some (node (inner height) ks)) is e = let found = inner-is l height ks is in absurd (omega (arith, found.1, eqb-true zero height e))
        by_row (Some (node (trie _ _ _) _)) is e = absurd (not-both e)
        by_row (Some (node chain _)) is e = absurd (not-both e)
        by_row (Some (node pair _)) is e = absurd (not-both e)
        by_row (Some (node state _)) is e = absurd (not-both e)
    well (suc n) l e = by_row (well n) (F l) refl e
      where
        by_row : ((k : ℕ) → has_height n (F k) ≡ true → IsWell F n k) → (r : Option (Form K)) → F l ≡ r → has_height (suc n) r ≡ true → IsWell F (suc n) l
        by_row each None is e = absurd (not-both e)
        by_row each (Some (cell _)) is e = absurd (not-both e)
        by_row each (Some (node leaf ks)) is e = absurd (omega (arith, eqb-true (suc n) 0 e))
        by_row each (Some (node (inner height) ks)) is e =
            let found = inner-is l height ks is in
            let same : found.0 ≡ n = omega (arith, found.1, eqb-true (suc n) height e) in
            well-inner n l ks (subst (λ n. Inner n l ks) same found.2) each
        by_row each (Some (node (trie _ _ _) _)) is e = absurd (not-both e)
        by_row each (Some (node chain _)) is e = absurd (not-both e)
        by_row each (Some (node pair _)) is e = absurd (not-both e)
        by_row each (Some (node state _)) is e = absurd (not-both e)

    -- a vector root keeps the fill rule
    pub well-shaped : (l : ℕ) → is_vector_root (F l) ≡ true → IsWellShaped F l
    unfolding seq_at
    well-shaped l e = by_row (F l) refl e
      where
        leaf-shaped : (ks : List ℕ) → F l ≡ Some (node leaf ks) → IsWellShaped F l
        leaf-shaped ks is =
            let high : height_in F l ≡ 0 = ap form_height is in
            let few : length ks ≤ 32 = leb-true (length ks) 32 (ranged l (node leaf ks) is) in
            let length_is : length (seq_at F zero l) ≡ length ks = ap (λ r. length (links_of r)) is in
            let short : length (seq_at F zero l) < 2 ^ 32 = omega (arith, length_is, few) in
            record {
              well = subst (λ n. IsWell F n l) (sym high) (well-leaf l ks is);
              two = λ some. absurd (omega (arith, some, high));
              short = subst (λ n. length (seq_at F n l) < 2 ^ 32) (sym high) short;
              low = omega (arith, high);
            }

        inner-shaped : (n : ℕ) (ks : List ℕ) → Inner n l ks → nat_le 2 (length ks) ≡ true → IsWellShaped F l
        inner-shaped n ks row two =
            let high : height_in F l ≡ suc n = ap form_height row.row in
            let same : ks ≡ links_in F l = sym (ap links_of row.row) in
            let short : length (seq_at F (suc n) l) < 2 ^ 32 = subst (λ xs. length (flat_map (seq_at F n) xs) < 2 ^ 32) same row.below.short in
            record {
              well = subst (λ n. IsWell F n l) (sym high) (well-inner n l ks row (well n));
              two = λ some. subst (λ xs. 2 ≤ length xs) same (leb-true 2 (length ks) two);
              short = subst (λ n. length (seq_at F n l) < 2 ^ 32) (sym high) short;
              low = omega (arith, high, row.low);
            }

        by_row : (r : Option (Form K)) → F l ≡ r → is_vector_root r ≡ true → IsWellShaped F l
        by_row None is e = absurd (not-both e)
        by_row (Some (cell _)) is e = absurd (not-both e)
        by_row (Some (node leaf ks)) is e = leaf-shaped ks is
        by_row (Some (node (inner height) ks)) is e = let found = inner-is l height ks is in inner-shaped found.0 ks found.2 e
        by_row (Some (node (trie _ _ _) _)) is e = absurd (not-both e)
        by_row (Some (node chain _)) is e = absurd (not-both e)
        by_row (Some (node pair _)) is e = absurd (not-both e)
        by_row (Some (node state _)) is e = absurd (not-both e)
