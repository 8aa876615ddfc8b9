-- What is read of a whole store: its handles in order, and its rows.
use Rattle.std.proofs.Common.{◌≡◌, ℕ, suc, ◌+◌, ◌<◌, List, [], ◌∷◌, map, get_or, Option, Some, None, Bool, true, false, ◌&&◌, ◌==◌, cond, T, refl, ap, sym, ◌∙◌, subst, arith}
use Rattle.std.specs.Prelude.{IsSome, is_some, option_map, count_by}
use Rattle.std.specs.Ordering.{nat_cmp, is_lt}
use Rattle.std.specs.declared.cmp.Ordering.TheVariants.{Less, Equal, Greater}
use Rattle.std.specs.Cmp.{nat_cmp_total}
use Rattle.std.specs.FinMap.{get, empty, keys, from_sorted, is_sorted, same_map, nat_cmp-IsAntisymmetric, get-empty, get-from_entries, get-from_sorted, entries-from_sorted}
use Rattle.std.specs.FinMap.Entries.{below_all}
use Rattle.std.proofs.lemmas.Bool.{lt-ltb}
use Rattle.std.proofs.lemmas.List.Sums.{sum_by-cons}
use Rattle.node_heap.specs.Heap.{Heap, row_at, holds_at, live_count, IsGraph}
use Rattle.slab.specs.Slab.{entries_from}
use Rattle.versions.specs.Roots.{root_of, values_from, values_in, HasRoots}
use Rattle.versions.proofs.RootLemmas.{listed-at, sum-none}

both : (a b : Bool) → T a → T b → T (a && b)
both true b p q = q
both false b p q = absurd p

low-less : (x v : ℕ) → x < v → T (is_lt (nat_cmp x v))
low-less x v low = subst (λ b. T (is_lt (cond b Less (cond (x == v) Equal Greater)))) (sym (lt-ltb x v low)) tt

module _ {E V : Type 0} (read : Heap E → ℕ → V) (h : Heap E) where
  all-above : (roots : List (Option ℕ)) (x v : ℕ) → x < v → T (below_all nat_cmp x (values_from read h v roots))
  all-above [] x v low = tt
  all-above (None ∷ roots) x v low = all-above roots x (suc v) (omega (arith, low))
  all-above (Some l ∷ roots) x v low = both _ _ (low-less x v low) (all-above roots x (suc v) (omega (arith, low)))

  rising : (roots : List (Option ℕ)) (v : ℕ) → T (is_sorted nat_cmp (values_from read h v roots))
  rising [] v = tt
  rising (None ∷ roots) v = rising roots (suc v)
  rising (Some l ∷ roots) v = both _ _ (all-above roots v (suc v) (omega arith)) (rising roots (suc v))

  numbers : (roots : List (Option ℕ)) (v k : ℕ) → v ≡ k → map (λ (e : ℕ × V). e.0) (values_from read h v roots) ≡ map (λ (e : ℕ × ℕ). e.0) (entries_from k roots)
  numbers [] v k is = refl
  numbers (None ∷ roots) v k is = numbers roots (suc v) (k + 1) (omega (arith, is))
  numbers (Some l ∷ roots) v k is = λ i. is i ∷ numbers roots (suc v) (k + 1) (omega (arith, is)) i

  -- the versions of a store are the numbers of its roots
  pub keys-in : (roots : List (Option ℕ)) → keys (values_in read h roots) ≡ map (λ (e : ℕ × ℕ). e.0) (entries_from 0 roots)
  keys-in roots =
      let es = values_from read h 0 roots in
      let same : values_in read h roots ≡ from_sorted {R = nat_cmp} es = same_map nat_cmp_total nat_cmp-IsAntisymmetric (values_in read h roots) (from_sorted {R = nat_cmp} es) (λ q. get-from_entries nat_cmp_total es q ∙ sym (get-from_sorted nat_cmp es q (rising roots 0))) in
      ap keys same ∙ ap (map (λ (e : ℕ × V). e.0)) (entries-from_sorted nat_cmp es (rising roots 0)) ∙ numbers roots 0 0 refl

none-counted : {X : Type 0} (rows : List (Option X)) → ((l : ℕ) → get_or rows l None ≡ None) → count_by is_some rows ≡ 0
none-counted [] none = refl
none-counted (None ∷ rows) none = sum_by-cons (λ o. cond (is_some o) 1 0) None rows ∙ omega (arith, none-counted rows (λ l. none (suc l)))
none-counted (Some x ∷ rows) none = absurd (let bad = none 0 in cc)

no-root : {V : Type 0} (f : ℕ → V) (o : Option ℕ) → option_map f o ≡ None → o ≡ None
no-root f None none = refl
no-root f (Some l) none = absurd (let bad = none in cc)

-- a store without versions has no rows
module _ {E V : Type 0} (Is : Heap E → ℕ → V → Type 0) (read : Heap E → ℕ → V) (h : Heap E) (roots : List (Option ℕ)) (has : HasRoots Is read h roots) (graph : IsGraph h) (none : values_in read h roots ≡ empty) where
  no-hold : (k : ℕ) → holds_at h k ≡ 0
  no-hold k = has.holds.holds k ∙ sum-none k roots (λ v. no-root (read h) (root_of roots v) (sym (listed-at read h roots v) ∙ ap (λ m. get m v) none ∙ get-empty nat_cmp v))

  no-row : (l : ℕ) → row_at h l ≡ None
  no-row l = elim (row_at h l) as (λ r. (IsSome r → ⊥) → r ≡ None) [
    | None ↦ λ off. refl
    | Some r ↦ λ off. absurd (off refl)
  ] (λ some. let way = graph.reached l some in absurd (omega (arith, way.1, no-hold way.0)))

  pub no-rows : live_count h ≡ 0
  no-rows = none-counted h.rows no-row
