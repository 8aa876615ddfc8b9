-- What is written of a store says its values.
use Rattle.std.proofs.Common.{◌≡◌, ℕ, suc, ◌+◌, ◌<◌, ◌≤◌, ◌^◌, true, List, [], ◌∷◌, length, map, get_or, Option, Some, None, option_map, refl, ap, sym, subst, ◌∙◌, arith, inl, inr}
use Rattle.std.specs.Prelude.{IsSome, is_some, count_by, replicate, slice_get}
use Rattle.std.specs.List.{zip, list_all}
use Rattle.std.specs.FinMap.{from_entries}
use Rattle.std.proofs.lemmas.Bool.{cases_eq}
use Rattle.std.proofs.lemmas.List.{length-map}
use Rattle.elem_core.specs.declared.codes.TheConstants.{CODE_BITS}
use Rattle.node_heap.specs.Links.{count}
use Rattle.node_heap.specs.Forms.{Row, links_in}
use Rattle.node_heap.specs.Heap.{Heap, row_at, IsGraph}
use Rattle.node_heap.proofs.Counts.{test_other, count-cons}
use Rattle.slab.specs.Slab.{entries_from}
use Rattle.pool_order.specs.Order.{order, order_of}
use Rattle.pool_text.specs.Rows.{Bytes, is_in_range}
use Rattle.pool_text.specs.Rules.{present_rules}
use Rattle.pool_text.specs.Pool.{place_in, settings_by, pool, pool_at, text_form, text_forms}
use Rattle.pool_text.specs.Renaming.{IsRooted, IsPoolOf, PoolsAreRenamed}
use Rattle.pool_text.specs.declared.pool.Pool.{Pool}
use Rattle.pool_text.specs.declared.rules.TheConstants.{MOST_HISTORY}
use Rattle.pool_text.proofs.Gathered.{order-by-text}
use Rattle.pool_text.proofs.Held.{rooted-heap}
use Rattle.pool_text.proofs.PoolRows.{order-of-pool}
use Rattle.pool_check.specs.Damages.{damage_with_roots}
use Rattle.pool_check.specs.declared.root.RootKind.{RootKind}
use Rattle.pool_check.specs.Passing.{PassesAsMade, PoolsPassAsMade}
use Rattle.versions.specs.Roots.{values_in}
use Rattle.versions_pool.specs.Saved.{Saved, rise}
use Rattle.versions_pool.specs.Stores.{pool_with, Says}
use Rattle.versions_pool.specs.Loading.{names_in, roots_in, IsSavedOf}
use Rattle.versions_pool.proofs.SlotLemmas.{entries-named, entries-rise, entries-many, entries-count, named-values}

-- a root that is listed stands in a slot
pub root-from : (slots : List (Option ℕ)) (k r : ℕ) → 0 < count r (map (λ (e : ℕ × ℕ). e.1) (entries_from k slots)) → (v : ℕ) × (get_or slots v None ≡ Some r)
root-from [] k r some = absurd (omega (arith, some))
root-from (None ∷ slots) k r some = let later = root-from slots (k + 1) r some in (suc later.0, later.1)
root-from (Some l ∷ slots) k r some = elim (cases_eq l r) as (λ _. (v : ℕ) × (get_or (Some l ∷ slots) v None ≡ Some r)) [
  | inl same ↦ (0, ap (λ (m : ℕ). Some m) same)
  | inr other ↦
      let later = root-from slots (k + 1) r (omega (arith, some, count-cons r l (map (λ (e : ℕ × ℕ). e.1) (entries_from (k + 1) slots)), test_other l r other)) in
      (suc later.0, later.1)
]

pub some-same : (k l : ℕ) → Some k ≡ Some l → k ≡ l
some-same k l is = let e : Some k ≡ Some l = is in let same : k ≡ l = cc in same

-- what is counted has an index
pub index-of : (k : ℕ) (ks : List ℕ) → 0 < count k ks → (i : ℕ) × (i < length ks) × (slice_get ks i ≡ Some k)
index-of k [] some = absurd (omega (arith, some))
index-of k (j ∷ ks) some = elim (cases_eq j k) as (λ _. (i : ℕ) × (i < length (j ∷ ks)) × (slice_get (j ∷ ks) i ≡ Some k)) [
  | inl same ↦ (0, omega arith, ap (λ (m : ℕ). Some m) same)
  | inr other ↦ let later = index-of k ks (omega (arith, some, count-cons k j ks, test_other j k other)) in (suc later.0, omega (arith, later.1), later.2)
]

module _ {T : Type 0} (text : T → Bytes) (h : Heap T) (slots : List (Option ℕ)) (graph : IsGraph h) (live : (r : ℕ) → 0 < count r (roots_in slots) → IsSome (row_at h r)) where
  pub rooted : IsRooted (length h.rows) (text_forms text h) (roots_in slots)
  rooted = rooted-heap text h (roots_in slots) graph live

  text-some : (r : Option (Row T)) → IsSome (option_map (text_form text) r) → IsSome r
  text-some None is = is
  text-some (Some row) is = refl

  -- what is listed is there
  pub listed-live : (l : ℕ) → 0 < count l (order_of h (roots_in slots)) → IsSome (row_at h l)
  listed-live l some =
      let from = (order-of-pool (length h.rows) (text_forms text h) (roots_in slots) rooted).reached l (omega (arith, some, ap (count l) (order-by-text text h (roots_in slots)))) in
      text-some (row_at h l) (rooted.there from.0 l from.1 from.2)

  -- the pool of the rows that the roots reach
  abbrev pub saved_pool : Pool
  saved_pool = pool_at text h (roots_in slots) (settings_by CODE_BITS MOST_HISTORY)

  abbrev pub saved_order : List ℕ
  saved_order = order (length h.rows) (links_in (text_forms text h)) (roots_in slots)

  pub saved-bits : saved_pool.bits ≡ CODE_BITS
  unfolding pool
  saved-bits = refl

  pub saved-listed : PoolsAreRenamed → IsPoolOf (text_forms text h) (roots_in slots) saved_order saved_pool
  saved-listed renames = renames (length h.rows) (text_forms text h) (roots_in slots) (settings_by CODE_BITS MOST_HISTORY) rooted

  pub saved-passes : PoolsPassAsMade → PassesAsMade (text_forms text h) (roots_in slots) saved_pool
  saved-passes passes = passes (length h.rows) (text_forms text h) (roots_in slots) (settings_by CODE_BITS MOST_HISTORY) rooted

  -- what is listed in the pool's order is listed in the heap's
  pub listed-as : (l : ℕ) → 0 < count l saved_order → 0 < count l (order_of h (roots_in slots))
  listed-as l some = omega (arith, some, ap (count l) (order-by-text text h (roots_in slots)))

  module _ {V : Type 0} (at : Heap T → ℕ → V) (read : Pool → ℕ → V) (kind : RootKind) (few : count_by is_some slots ≤ 2 ^ 50) (renames : PoolsAreRenamed) (s : Saved) (is : IsSavedOf text h slots s) where
    -- it says the store's values where its pool passes and they are read of it
    pub saved-says : list_all is_in_range saved_pool.rows ≡ true → damage_with_roots present_rules (replicate (length saved_pool.roots) kind) saved_pool ≡ None → map (read saved_pool) saved_pool.roots ≡ map (at h) (roots_in slots)
        → Says read kind (values_in at h slots) s
    saved-says in_range passed same = record {
      rise = subst (λ ns. rise ns ≡ true) (sym is.names) (entries-rise slots);
      many = ap length is.names ∙ entries-many slots ∙ sym (length-map (roots_in slots) (place_in saved_order)) ∙ ap length (sym (saved-listed renames).tops) ∙ ap (λ (Q : Pool). length Q.roots) (sym is.pool);
      few = omega (arith, entries-count slots, ap length is.names, few);
      in_range = ap (λ (Q : Pool). list_all is_in_range Q.rows) is.pool ∙ in_range;
      undamaged = ap (λ (Q : Pool). damage_with_roots present_rules (replicate (length Q.roots) kind) Q) is.pool ∙ passed;
      stands =
          ap (λ (ns : List ℕ). from_entries (zip ns (map (read (pool_with s.rows s.roots)) s.roots))) is.names
          ∙ ap (λ (Q : Pool). from_entries (zip (names_in slots) (map (read Q) Q.roots))) is.pool
          ∙ ap (λ (vs : List V). from_entries (zip (names_in slots) vs)) same
          ∙ sym (named-values at h (names_in slots) (roots_in slots) slots (entries-named slots));
    }

-- a heap's pool is that of its own rows and roots
pub own-pool : {T : Type 0} (text : T → Bytes) (h : Heap T) (roots : List ℕ) (Q : Pool) → Q ≡ pool_at text h roots (settings_by CODE_BITS MOST_HISTORY) → pool_with Q.rows Q.roots ≡ pool_at text h roots (settings_by CODE_BITS MOST_HISTORY)
unfolding pool
own-pool text h roots Q is = ap (λ (R : Pool). pool_with R.rows R.roots) is
