-- Entries by rising keys.
use Rattle.std.proofs.Common.{◌≡◌, ◌≢◌, ℕ, ◌+◌, ◌≤◌, Bool, true, false, not, cond, List, [], ◌∷◌, map, Some, None, refl, ap, sym, ◌∙◌, subst, arith}
use Rattle.std.specs.Prelude.{is_some}
use Rattle.std.specs.Ordering.{eq_by_cmp, is_eq, ordering_reverse}
use Rattle.std.specs.Cmp.{IsTotalOrder, tied_itself, alike_right}
use Rattle.std.specs.declared.cmp.Ordering.{Ordering}
use Rattle.std.specs.declared.cmp.Ordering.TheVariants.{Less, Equal, Greater}
use Rattle.std.specs.FinMap.{put, find}
use Rattle.std.specs.FinMap.Entries.{by_order, find-put, is_sorted-put, is_some-find, where_key}
use Rattle.std.specs.List.{filter, AllByRecursion}
use Rattle.std.specs.List.Sorted.{IsStrictlySortedBy}
use Rattle.std.specs.Prelude.{count_by, unwrap_or, option_map, T}
use Rattle.std.specs.List as list
use Rattle.std.specs.FinMap.Entries.{below_all, is_sorted}
use Rattle.std.specs.Prelude.{◌&&◌, ◌||◌}
use Rattle.std.specs.Ordering.{is_lt}
use Rattle.std.specs.BTreeSet.{insert_key}
use Rattle.std.proofs.lemmas.List.Sums.{sum_by-cons}
use Rattle.versions.specs.Sorted.{by_keys, has, remove_entry, remove_key, sorted_keys}
use Rattle.champ_chain.specs.Entry.{SameSet, same_none, same_first, same_turned, same_through}
use Rattle.champ_chain.proofs.SetLemmas.{same-count, same-refl}
use Rattle.champ_trie.proofs.GatherLemmas.{same-map}

module _ {K : Type 0} (R : K → K → Ordering) (o : IsTotalOrder R) where
  turned : (x y : K) → R x y ≡ Less → R y x ≡ Greater
  turned x y p = o.antisymm y x ∙ ap ordering_reverse p

module _ {K X : Type 0} (R : K → K → Ordering) (o : IsTotalOrder R) where
  -- two entries of which the one is below the other go in in any order
  put-below : (x y : K) (v w : X) (es : List (K × X)) → R x y ≡ Less → put R x v (put R y w es) ≡ put R y w (put R x v es)
  put-below x y v w [] p = rw p (rw (turned R o x y p) refl)
  put-below x y v w (e ∷ es) p =
      let q = turned R o x y p in
      elim (R y e.0) as (λ r. R y e.0 ≡ r → put R x v (by_order r ((y, w) ∷ e ∷ es) ((e.0, w) ∷ es) (e ∷ put R y w es)) ≡ put R y w (put R x v (e ∷ es))) [
        | Less ↦ λ l. let xe : R x e.0 ≡ Less = o.trans x y e.0 p l in rw p (rw xe (rw q (rw l refl)))
        | Equal ↦ λ l. let xe : R x e.0 ≡ Less = sym (alike_right o y e.0 x l) ∙ p in rw xe (rw q (rw l refl))
        | Greater ↦ λ l. elim (R x e.0) as (λ r. R x e.0 ≡ r → by_order r ((x, v) ∷ e ∷ put R y w es) ((e.0, v) ∷ put R y w es) (e ∷ put R x v (put R y w es)) ≡ put R y w (by_order r ((x, v) ∷ e ∷ es) ((e.0, v) ∷ es) (e ∷ put R x v es))) [
          | Less ↦ λ m. rw q (rw l refl)
          | Equal ↦ λ m. rw l refl
          | Greater ↦ λ m. rw l (ap (λ ds. e ∷ ds) (put-below x y v w es p))
        ] refl
      ] refl

  -- and so do any two whose keys aren't equal
  pub put-apart : (x y : K) (v w : X) (es : List (K × X)) → R x y ≢ Equal → put R x v (put R y w es) ≡ put R y w (put R x v es)
  put-apart x y v w es apart =
      elim (R x y) as (λ r. R x y ≡ r → put R x v (put R y w es) ≡ put R y w (put R x v es)) [
        | Less ↦ λ p. put-below x y v w es p
        | Equal ↦ λ p. absurd (apart p)
        | Greater ↦ λ p. sym (put-below y x w v es (o.antisymm y x ∙ ap ordering_reverse p))
      ] refl

  -- of two with equal keys the last has the value and the first its key
  pub put-again : (x y : K) (v w : X) (es : List (K × X)) → R x y ≡ Equal → put R x v (put R y w es) ≡ put R y v es
  put-again x y v w [] p = rw p refl
  put-again x y v w (e ∷ es) p =
      elim (R y e.0) as (λ r. R y e.0 ≡ r → put R x v (by_order r ((y, w) ∷ e ∷ es) ((e.0, w) ∷ es) (e ∷ put R y w es)) ≡ by_order r ((y, v) ∷ e ∷ es) ((e.0, v) ∷ es) (e ∷ put R y v es)) [
        | Less ↦ λ l. rw p refl
        | Equal ↦ λ l. rw (o.congr x y e.0 p ∙ l) refl
        | Greater ↦ λ l. rw (o.congr x y e.0 p ∙ l) (ap (λ ds. e ∷ ds) (put-again x y v w es p))
      ] refl

-- no key stands twice
abbrev pub AreOnce : {K X : Type 0} → (K → K → Ordering) → List (K × X) → Type 0
AreOnce {K} R es = (q : K) → count_by (λ e. eq_by_cmp R q e.0) es ≤ 1

-- the entries with other keys
abbrev pub other_keys : {K X : Type 0} → (K → K → Ordering) → K → List (K × X) → List (K × X)
other_keys R k es = filter (λ e. not (eq_by_cmp R k e.0)) es

-- the key that is there, or else this one
abbrev pub kept : {K X : Type 0} → (K → K → Ordering) → K → List (K × X) → K
kept R k es = unwrap_or (option_map (λ e. e.0) (list.find (λ e. eq_by_cmp R k e.0) es)) k

pub is-equal : (r : Ordering) → is_eq r ≡ true → r ≡ Equal
is-equal Less e = absurd (let bad = e in cc)
is-equal Equal e = refl
is-equal Greater e = absurd (let bad = e in cc)

isn't-equal : (r : Ordering) → is_eq r ≡ false → r ≢ Equal
isn't-equal r e same = let bad : false ≡ true = sym e ∙ ap is_eq same in absurd (let worse = bad in cc)

abbrev pub one-if : Bool → ℕ
one-if b = cond b 1 0

module _ {X : Type 0} (p : X → Bool) where
  pub count-first : (x : X) (xs : List X) → count_by p (x ∷ xs) ≡ cond (p x) 1 0 + count_by p xs
  count-first x xs = sum_by-cons (λ y. cond (p y) 1 0) x xs

  count-tail : (x : X) (xs : List X) → count_by p (x ∷ xs) ≤ 1 → count_by p xs ≤ 1
  count-tail x xs once = omega (arith, once, count-first x xs)

  -- where the first passes, no other does
  count-rest : (x : X) (xs : List X) → p x ≡ true → count_by p (x ∷ xs) ≤ 1 → count_by p xs ≡ 0
  count-rest x xs hit once = omega (arith, once, count-first x xs, ap one-if hit)

  none-pass : (x : X) (xs : List X) → count_by p (x ∷ xs) ≡ 0 → (p x ≡ false) × (count_by p xs ≡ 0)
  none-pass x xs none = by_test (p x) refl
    where
      by_test : (b : Bool) → p x ≡ b → (p x ≡ false) × (count_by p xs ≡ 0)
      by_test true e = absurd (omega (arith, none, count-first x xs, ap one-if e))
      by_test false e = (e, omega (arith, none, count-first x xs))

and-first : (a b : Bool) → T (a && b) → T a
and-first true b p = tt
and-first false b p = p

and-second : (a b : Bool) → T (a && b) → T b
and-second true b p = p
and-second false b p = absurd p

and-both : (a b : Bool) → T a → T b → T (a && b)
and-both true b p q = q
and-both false b p q = p

is-less : (r : Ordering) → T (is_lt r) → r ≡ Less
is-less Less p = refl
is-less Equal p = absurd p
is-less Greater p = absurd p

module _ {K X : Type 0} (R : K → K → Ordering) (o : IsTotalOrder R) where
  below-lower : (x y : K) (es : List (K × X)) → R x y ≡ Less → T (below_all R y es) → T (below_all R x es)
  below-lower x y [] p h = tt
  below-lower x y (e ∷ es) p h = and-both _ _ (subst (λ r. T (is_lt r)) (sym (o.trans x y e.0 p (is-less (R y e.0) (and-first (is_lt (R y e.0)) (below_all R y es) h)))) tt) (below-lower x y es p (and-second (is_lt (R y e.0)) (below_all R y es) h))

module _ {K X : Type 0} (R : K → K → Ordering) (o : IsTotalOrder R) where
  first-once : (e : K × X) (es : List (K × X)) → AreOnce R (e ∷ es) → AreOnce R es
  first-once e es once q = count-tail (λ d. eq_by_cmp R q d.0) e es (once q)

  two-apart : (e d : K × X) (es : List (K × X)) → AreOnce R (e ∷ d ∷ es) → R e.0 d.0 ≢ Equal
  two-apart e d es once same =
      let p = λ (c : K × X). eq_by_cmp R e.0 c.0 in
      absurd (omega (arith, once e.0, count-first p e (d ∷ es), count-first p d es, ap (λ r. one-if (is_eq r)) (tied_itself o e.0), ap (λ r. one-if (is_eq r)) same))

  none-other : (k : K) (es : List (K × X)) → count_by (λ e. eq_by_cmp R k e.0) es ≡ 0 → other_keys R k es ≡ es
  none-other k [] none = refl
  none-other k (e ∷ es) none =
      let first = none-pass (λ d. eq_by_cmp R k d.0) e es none in
      rw first.0 (ap (λ ds. e ∷ ds) (none-other k es first.1))

  kept-tied : (k : K) (es : List (K × X)) → R k (kept R k es) ≡ Equal
  kept-tied k [] = tied_itself o k
  kept-tied k (e ∷ es) =
      elim (eq_by_cmp R k e.0) as (λ b. eq_by_cmp R k e.0 ≡ b → R k (unwrap_or (option_map (λ d. d.0) (cond b (Some e) (list.find (λ d. eq_by_cmp R k d.0) es))) k) ≡ Equal) [
        | true ↦ λ hit. is-equal (R k e.0) hit
        | false ↦ λ miss. kept-tied k es
      ] refl

  -- a map with the value at a key: the key that is there stays
  pub bound-by_keys : (k : K) (v : X) (es : List (K × X)) → AreOnce R es → by_keys R ((kept R k es, v) ∷ other_keys R k es) ≡ put R k v (by_keys R es)
  bound-by_keys k v [] once = refl
  bound-by_keys k v (e ∷ es) once = by_test (bound-by_keys k v es (first-once e es once)) (eq_by_cmp R k e.0) refl
    where
      by_test : by_keys R ((kept R k es, v) ∷ other_keys R k es) ≡ put R k v (by_keys R es) → (b : Bool) → eq_by_cmp R k e.0 ≡ b → by_keys R ((kept R k (e ∷ es), v) ∷ other_keys R k (e ∷ es)) ≡ put R k v (put R e.0 e.1 (by_keys R es))
      by_test rest true hit =
          rw hit (rw (none-other k es (count-rest (λ d. eq_by_cmp R k d.0) e es hit (once k))) (sym (put-again R o k e.0 v e.1 (by_keys R es) (is-equal (R k e.0) hit))))
      by_test rest false miss =
          let far : R k e.0 ≢ Equal = isn't-equal (R k e.0) miss in
          let also : R (kept R k es) e.0 ≢ Equal = λ same. far (o.congr k (kept R k es) e.0 (kept-tied k es) ∙ same) in
          rw miss (put-apart R o (kept R k es) e.0 v e.1 (by_keys R (other_keys R k es)) also
          ∙ ap (put R e.0 e.1) rest
          ∙ sym (put-apart R o k e.0 v e.1 (by_keys R es) far))

  -- what is found by a key is found in the list as it was
  pub find-by_keys : (q : K) (es : List (K × X)) → find R q (by_keys R es) ≡ find R q es
  find-by_keys q [] = refl
  find-by_keys q (e ∷ es) = find-put R o q e.0 e.1 (by_keys R es) ∙ ap (cond (eq_by_cmp R q e.0) (Some e.1)) (find-by_keys q es)

  pub sorted-by_keys : (es : List (K × X)) → T (is_sorted R (by_keys R es))
  sorted-by_keys [] = tt
  sorted-by_keys (e ∷ es) = is_sorted-put R o e.0 e.1 (by_keys R es) (sorted-by_keys es)

  -- an entry below all others goes to the front of those that pass a test
  put-front : (p : K → Bool) (k : K) (v : X) (es : List (K × X)) → T (below_all R k es) → put R k v (where_key R p es) ≡ (k, v) ∷ where_key R p es
  put-front p k v [] h = refl
  put-front p k v (e ∷ es) h =
      elim (p e.0) as (λ b. put R k v (cond b (e ∷ where_key R p es) (where_key R p es)) ≡ (k, v) ∷ cond b (e ∷ where_key R p es) (where_key R p es)) [
        | true ↦ rw (is-less (R k e.0) (and-first (is_lt (R k e.0)) (below_all R k es) h)) refl
        | false ↦ put-front p k v es (and-second (is_lt (R k e.0)) (below_all R k es) h)
      ]

  -- a test that equal keys pass alike
  module _ (p : K → Bool) (alike : (x y : K) → R x y ≡ Equal → p x ≡ p y) where
    where-put : (k : K) (v : X) (es : List (K × X)) → T (is_sorted R es) → p k ≡ true → where_key R p (put R k v es) ≡ put R k v (where_key R p es)
    where-put k v [] h hit = rw hit refl
    where-put k v (e ∷ es) h hit =
        elim (R k e.0) as (λ r. R k e.0 ≡ r → where_key R p (by_order r ((k, v) ∷ e ∷ es) ((e.0, v) ∷ es) (e ∷ put R k v es)) ≡ put R k v (where_key R p (e ∷ es))) [
          | Less ↦ λ l. rw hit (sym (put-front p k v (e ∷ es) (and-both _ _ (subst (λ r. T (is_lt r)) (sym l) tt) (below-lower R o k e.0 es l (and-first (below_all R e.0 es) (is_sorted R es) h)))))
          | Equal ↦ λ l. let too : p e.0 ≡ true = sym (alike k e.0 l) ∙ hit in rw too (rw l refl)
          | Greater ↦ λ l. elim (p e.0) as (λ b. cond b (e ∷ where_key R p (put R k v es)) (where_key R p (put R k v es)) ≡ put R k v (cond b (e ∷ where_key R p es) (where_key R p es))) [
            | true ↦ rw l (ap (λ ds. e ∷ ds) (where-put k v es (and-second (below_all R e.0 es) (is_sorted R es) h) hit))
            | false ↦ where-put k v es (and-second (below_all R e.0 es) (is_sorted R es) h) hit
          ]
        ] refl

    where-not : (k : K) (v : X) (es : List (K × X)) → p k ≡ false → where_key R p (put R k v es) ≡ where_key R p es
    where-not k v [] miss = rw miss refl
    where-not k v (e ∷ es) miss =
        elim (R k e.0) as (λ r. R k e.0 ≡ r → where_key R p (by_order r ((k, v) ∷ e ∷ es) ((e.0, v) ∷ es) (e ∷ put R k v es)) ≡ where_key R p (e ∷ es)) [
          | Less ↦ λ l. rw miss refl
          | Equal ↦ λ l. let too : p e.0 ≡ false = sym (alike k e.0 l) ∙ miss in rw too refl
          | Greater ↦ λ l. ap (λ ds. cond (p e.0) (e ∷ ds) ds) (where-not k v es miss)
        ] refl

    pub where-by_keys : (es : List (K × X)) → by_keys R (filter (λ e. p e.0) es) ≡ where_key R p (by_keys R es)
    where-by_keys [] = refl
    where-by_keys (e ∷ es) = by_test (where-by_keys es) (p e.0) refl
      where
        by_test : by_keys R (filter (λ d. p d.0) es) ≡ where_key R p (by_keys R es) → (b : Bool) → p e.0 ≡ b → by_keys R (filter (λ d. p d.0) (e ∷ es)) ≡ where_key R p (put R e.0 e.1 (by_keys R es))
        by_test rest true hit = rw hit (ap (put R e.0 e.1) rest ∙ sym (where-put e.0 e.1 (by_keys R es) (sorted-by_keys es) hit))
        by_test rest false miss = rw miss (rest ∙ sym (where-not e.0 e.1 (by_keys R es) miss))

  -- a map without a key
  pub cut-by_keys : (k : K) (es : List (K × X)) → by_keys R (other_keys R k es) ≡ remove_entry R (by_keys R es) k
  cut-by_keys k es = where-by_keys (λ x. not (eq_by_cmp R k x)) (λ x y tie. ap (λ r. not (is_eq r)) (alike_right o x y k tie)) es

  -- the keys of a map with a value at a key are a set with the key
  pub keys-put : (k : K) (v : X) (es : List (K × X)) → map (λ e. e.0) (put R k v es) ≡ insert_key R (map (λ e. e.0) es) k
  keys-put k v [] = refl
  keys-put k v (e ∷ es) =
      elim (R k e.0) as (λ r. R k e.0 ≡ r → map (λ d. d.0) (by_order r ((k, v) ∷ e ∷ es) ((e.0, v) ∷ es) (e ∷ put R k v es)) ≡ insert_key R (e.0 ∷ map (λ d. d.0) es) k) [
        | Less ↦ λ l. rw l refl
        | Equal ↦ λ l. rw l refl
        | Greater ↦ λ l. rw l (ap (λ ks. e.0 ∷ ks) (keys-put k v es))
      ] refl

  pub keys-where : (p : K → Bool) (es : List (K × X)) → map (λ e. e.0) (where_key R p es) ≡ filter p (map (λ e. e.0) es)
  keys-where p [] = refl
  keys-where p (e ∷ es) =
      elim (p e.0) as (λ b. map (λ d. d.0) (cond b (e ∷ where_key R p es) (where_key R p es)) ≡ cond b (e.0 ∷ filter p (map (λ d. d.0) es)) (filter p (map (λ d. d.0) es))) [
        | true ↦ ap (λ ks. e.0 ∷ ks) (keys-where p es)
        | false ↦ keys-where p es
      ]

  -- a new entry, and the others in some order
  put-new : (k : K) (v : X) (es : List (K × X)) → find R k es ≡ None → SameSet (put R k v es) ((k, v) ∷ es)
  put-new k v [] none = same-refl _
  put-new k v (e ∷ es) none =
      elim (R k e.0) as (λ r. R k e.0 ≡ r → cond (is_eq r) (Some e.1) (find R k es) ≡ None → SameSet (by_order r ((k, v) ∷ e ∷ es) ((e.0, v) ∷ es) (e ∷ put R k v es)) ((k, v) ∷ e ∷ es)) [
        | Less ↦ λ l found. same-refl _
        | Equal ↦ λ l found. absurd (let bad = found in cc)
        | Greater ↦ λ l found. same_through _ _ _ (same_first e _ _ (put-new k v es found)) (same_turned e (k, v) es)
      ] refl none

  -- where nothing is found, all are others
  pub all-others : (q : K) (es : List (K × X)) → find R q es ≡ None → other_keys R q es ≡ es
  all-others q [] none = refl
  all-others q (e ∷ es) none =
      elim (eq_by_cmp R q e.0) as (λ b. cond b (Some e.1) (find R q es) ≡ None → cond (not b) (e ∷ other_keys R q es) (other_keys R q es) ≡ e ∷ es) [
        | true ↦ λ found. absurd (let bad = found in cc)
        | false ↦ λ found. ap (λ ds. e ∷ ds) (all-others q es found)
      ] none

  find-none : (q : K) (es : List (K × X)) → count_by (λ e. eq_by_cmp R q e.0) es ≡ 0 → find R q es ≡ None
  find-none q [] none = refl
  find-none q (e ∷ es) none = let first = none-pass (λ d. eq_by_cmp R q d.0) e es none in rw first.0 (find-none q es first.1)

  -- they are the same entries
  pub by_keys-same : (es : List (K × X)) → AreOnce R es → SameSet (by_keys R es) es
  by_keys-same [] once = same_none
  by_keys-same (e ∷ es) once =
      let absent = find-by_keys e.0 es ∙ find-none e.0 es (count-rest (λ d. eq_by_cmp R e.0 d.0) e es (ap is_eq (tied_itself o e.0)) (once e.0)) in
      same_through _ _ _ (put-new e.0 e.1 (by_keys R es) absent) (same_first e _ _ (by_keys-same es (first-once e es once)))

  -- entries in any order
  pub same-by_keys : (es ds : List (K × X)) → SameSet es ds → AreOnce R es → by_keys R es ≡ by_keys R ds
  same-by_keys _ _ same_none once = refl
  same-by_keys _ _ (same_first x xs ys s) once = ap (put R x.0 x.1) (same-by_keys xs ys s (first-once x xs once))
  same-by_keys _ _ (same_turned x y xs) once = put-apart R o x.0 y.0 x.1 y.1 (by_keys R xs) (two-apart x y xs once)
  same-by_keys _ _ (same_through xs ys zs s t) once = same-by_keys xs ys s once ∙ same-by_keys ys zs t (λ q. omega (arith, once q, same-count (λ e. eq_by_cmp R q e.0) xs ys s))

-- a key that is there
pub there-by_keys : {K : Type 0} (R : K → K → Ordering) → IsTotalOrder R → (k : K) (es : List (K × Unit {0})) → is_some (find R k es) ≡ true → put R k tt (by_keys R es) ≡ by_keys R es
there-by_keys R o k [] none = absurd (let bad = none in cc)
there-by_keys R o k (e ∷ es) some = by_test (there-by_keys R o k es) (eq_by_cmp R k e.0) refl some
  where
    by_test : (is_some (find R k es) ≡ true → put R k tt (by_keys R es) ≡ by_keys R es) → (b : Bool) → eq_by_cmp R k e.0 ≡ b → is_some (cond b (Some e.1) (find R k es)) ≡ true → put R k tt (put R e.0 e.1 (by_keys R es)) ≡ put R e.0 e.1 (by_keys R es)
    by_test rest true hit found = put-again R o k e.0 tt e.1 (by_keys R es) (is-equal (R k e.0) hit)
    by_test rest false miss found = put-apart R o k e.0 tt e.1 (by_keys R es) (isn't-equal (R k e.0) miss) ∙ ap (put R e.0 e.1) (rest found)

pub count-map : {A B : Type 0} (p : B → Bool) (f : A → B) (xs : List A) → count_by p (map f xs) ≡ count_by (λ x. p (f x)) xs
count-map p f [] = refl
count-map p f (x ∷ xs) = omega (arith, count-first p (f x) (map f xs), count-first (λ y. p (f y)) x xs, count-map p f xs)

-- what passes a test, read of the elements
pub map-where : {A B : Type 0} (f : A → B) (p : B → Bool) (xs : List A) → map f (filter (λ x. p (f x)) xs) ≡ filter p (map f xs)
map-where f p [] = refl
map-where f p (x ∷ xs) =
    elim (p (f x)) as (λ b. map f (cond b (x ∷ filter (λ y. p (f y)) xs) (filter (λ y. p (f y)) xs)) ≡ cond b (f x ∷ filter p (map f xs)) (filter p (map f xs))) [
      | true ↦ ap (λ ys. f x ∷ ys) (map-where f p xs)
      | false ↦ map-where f p xs
    ]

-- a key, as an entry with nothing
abbrev mark : {K : Type 0} → K → K × Unit {0}
mark k = (k, tt)

-- the same of keys alone
module _ {K : Type 0} (R : K → K → Ordering) (o : IsTotalOrder R) where
  pub keys-marked : (ks : List K) → sorted_keys R ks ≡ map (λ e. e.0) (by_keys R (map mark ks))
  keys-marked [] = refl
  keys-marked (k ∷ ks) = ap (λ js. insert_key R js k) (keys-marked ks) ∙ sym (keys-put R o k tt (by_keys R (map mark ks)))

  pub find-marked : (q : K) (ks : List K) → is_some (find R q (map mark ks)) ≡ has R q ks
  find-marked q [] = refl
  find-marked q (k ∷ ks) = elim (eq_by_cmp R q k) as (λ b. is_some (cond b (Some (tt {0})) (find R q (map mark ks))) ≡ (b || has R q ks)) [ true ↦ refl | false ↦ find-marked q ks ]

  -- the set has a key just where the list has it
  pub has-sorted : (q : K) (ks : List K) → has R q (sorted_keys R ks) ≡ has R q ks
  has-sorted q ks =
      let es = map mark ks in
      ap (has R q) (keys-marked ks) ∙ sym (is_some-find R q (by_keys R es)) ∙ ap is_some (find-by_keys R o q es) ∙ find-marked q ks

  -- a key that is there stays
  pub there-sorted : (k : K) (ks : List K) → has R k ks ≡ true → insert_key R (sorted_keys R ks) k ≡ sorted_keys R ks
  there-sorted k ks some =
      let es = map mark ks in
      ap (λ js. insert_key R js k) (keys-marked ks) ∙ sym (keys-put R o k tt (by_keys R es)) ∙ ap (map (λ e. e.0)) (there-by_keys R o k es (find-marked k ks ∙ some)) ∙ sym (keys-marked ks)

  -- the keys that pass a test that equal keys pass alike
  pub where-sorted : (p : K → Bool) → ((x y : K) → R x y ≡ Equal → p x ≡ p y) → (ks : List K) → sorted_keys R (filter p ks) ≡ filter p (sorted_keys R ks)
  where-sorted p alike ks =
      let es = map mark ks in
      keys-marked (filter p ks) ∙ ap (λ ds. map (λ e. e.0) (by_keys R ds)) (map-where mark (λ e. p e.0) ks) ∙ ap (map (λ e. e.0)) (where-by_keys R o p alike es)
      ∙ keys-where R o p (by_keys R es) ∙ ap (filter p) (sym (keys-marked ks))

  pub cut-sorted : (k : K) (ks : List K) → sorted_keys R (filter (λ j. not (eq_by_cmp R k j)) ks) ≡ remove_key R (sorted_keys R ks) k
  cut-sorted k ks = where-sorted (λ j. not (eq_by_cmp R k j)) (λ x y tie. ap (λ r. not (is_eq r)) (alike_right o x y k tie)) ks

  pub same-sorted : (ks js : List K) → SameSet ks js → ((q : K) → count_by (eq_by_cmp R q) ks ≤ 1) → sorted_keys R ks ≡ sorted_keys R js
  same-sorted ks js s once =
      keys-marked ks ∙ ap (map (λ e. e.0)) (same-by_keys R o (map mark ks) (map mark js) (same-map mark ks js s) (λ q. omega (arith, once q, count-map (λ e. eq_by_cmp R q e.0) mark ks))) ∙ sym (keys-marked js)

  pub sorted-same : (ks : List K) → ((q : K) → count_by (eq_by_cmp R q) ks ≤ 1) → SameSet (sorted_keys R ks) ks
  sorted-same ks once =
      let es = map mark ks in
      let same = same-map (λ (e : K × Unit {0}). e.0) _ _ (by_keys-same R o es (λ q. omega (arith, once q, count-map (λ e. eq_by_cmp R q e.0) mark ks))) in
      subst (λ js. SameSet js ks) (sym (keys-marked ks)) (subst (SameSet (map (λ e. e.0) (by_keys R es))) (unmarked ks) same)
    where
      unmarked : (js : List K) → map (λ e. e.0) (map mark js) ≡ js
      unmarked [] = refl
      unmarked (j ∷ js) = ap (λ is. j ∷ is) (unmarked js)

-- entries whose keys rise have rising keys
module _ {K X : Type 0} (R : K → K → Ordering) where
  all-less : (x : K) (es : List (K × X)) → T (below_all R x es) → AllByRecursion (λ y. R x y ≡ Less) (map (λ e. e.0) es)
  all-less x [] low = tt
  all-less x (e ∷ es) low = (is-less (R x e.0) (and-first (is_lt (R x e.0)) (below_all R x es) low), all-less x es (and-second (is_lt (R x e.0)) (below_all R x es) low))

  keys-rise : (es : List (K × X)) → T (is_sorted R es) → IsStrictlySortedBy R (map (λ e. e.0) es)
  unfolding IsStrictlySortedBy
  keys-rise [] sorted = tt
  keys-rise (e ∷ es) sorted = (all-less e.0 es (and-first (below_all R e.0 es) (is_sorted R es) sorted), keys-rise es (and-second (below_all R e.0 es) (is_sorted R es) sorted))

pub sorted-rise : {K : Type 0} (R : K → K → Ordering) → IsTotalOrder R → (ks : List K) → IsStrictlySortedBy R (sorted_keys R ks)
sorted-rise R o ks = subst (IsStrictlySortedBy R) (sym (keys-marked R o ks)) (keys-rise R (by_keys R (map mark ks)) (sorted-by_keys R o (map mark ks)))
