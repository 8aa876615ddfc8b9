-- Loaded roots are those of a store, where each is of its kind.
use Rattle.std.proofs.Common.{◌≡◌, ℕ, zero, suc, ◌<◌, List, [], ◌∷◌, length, map, get_or, Option, Some, None, ap, sym, subst, ◌∙◌, arith, inl, inr, refl}
use Rattle.std.specs.Prelude.{replicate, slice_get}
use Rattle.std.specs.List.{zip}
use Rattle.std.specs.Ordering.{nat_cmp}
use Rattle.std.specs.FinMap.{find, from_entries}
use Rattle.std.specs.declared.cmp.Ordering.{Ordering}
use Rattle.std.proofs.lemmas.Bool.{cases_eq}
use Rattle.node_heap.specs.Links.{count}
use Rattle.node_heap.specs.Heap.{Heap, holds_at, hold_count}
use Rattle.node_heap.proofs.Counts.{test_other, count-cons}
use Rattle.pool_text.specs.Rows.{Bytes}
use Rattle.pool_text.specs.declared.pool.Pool.{Pool}
use Rattle.pool_check.specs.declared.root.RootKind.{RootKind}
use Rattle.pool_load.specs.Kinds.{IsOfKind}
use Rattle.pool_load.specs.Loads.{Loads, AreRowsLoaded, AreValuedByPlace}
use Rattle.pool_load.specs.Laws.{LoadedRootsAreOfKinds}
use Rattle.versions.specs.Roots.{values_in, HasRoots}
use Rattle.versions_pool.specs.Slots.{AreNamed}
use Rattle.versions_pool.specs.Loading.{AreNames, AreSaid, AreLoadedAt, AreLoadedWith}
use Rattle.versions_pool.proofs.SlotLemmas.{find-first, find-later, named-holds, named-count, named-values}

-- a root that is found stands in the list
pub found-root : (names roots : List ℕ) (v l : ℕ) → find nat_cmp v (zip names roots) ≡ Some l → (i : ℕ) × (i < length roots) × (get_or roots i 0 ≡ l)
found-root [] roots v l is = absurd (let e : None ≡ Some l = is in cc)
found-root (n ∷ names) [] v l is = absurd (let e : None ≡ Some l = is in cc)
found-root (n ∷ names) (k ∷ roots) v l is = elim (cases_eq v n) as (λ _. (i : ℕ) × (i < length (k ∷ roots)) × (get_or (k ∷ roots) i 0 ≡ l)) [
  | inl same ↦ (0, omega arith, (let e : Some k ≡ Some l = sym (find-first v n k (zip names roots) same) ∙ is in let f : k ≡ l = cc in f))
  | inr other ↦ let later = found-root names roots v l (sym (find-later v n k (zip names roots) other) ∙ is) in (suc later.0, omega (arith, later.1), later.2)
]

-- what is so at each index is so of each number that is listed
pub each-at : (Is : ℕ → Type 0) (ks : List ℕ) → ((i : ℕ) → i < length ks → Is (get_or ks i 0)) → (r : ℕ) → 0 < count r ks → Is r
each-at Is [] each r some = absurd (omega (arith, some))
each-at Is (k ∷ ks) each r some = elim (cases_eq k r) as (λ _. Is r) [
  | inl same ↦ subst Is same (each 0 (omega arith))
  | inr other ↦ each-at Is ks (λ i low. each (suc i) (omega (arith, low))) r (omega (arith, some, count-cons r k ks, test_other k r other))
]

kind-at : (kind : RootKind) (n i : ℕ) → i < n → slice_get (replicate n kind) i ≡ Some kind
kind-at kind zero i low = absurd (omega (arith, low))
kind-at kind (suc n) zero low = refl
kind-at kind (suc n) (suc i) low = kind-at kind n i (omega (arith, low))

module _ {T V : Type 0} (text : T → Bytes) (Is : Heap T → ℕ → V → Type 0) (at : Heap T → ℕ → V) (names : List ℕ) (P : Pool) (h : Heap T) (slots : List (Option ℕ)) (loaded : AreLoadedAt text names P h slots) where
  -- each loaded root is of the kind
  pub of-kind : (format : Bytes) (kind : RootKind) (bytes : Bytes) (cmp : T → T → Ordering) (code : T → ℕ) → LoadedRootsAreOfKinds text cmp code → AreSaid format kind bytes names P → (i : ℕ) → i < length loaded.roots → IsOfKind cmp code P.bits h kind (get_or loaded.roots i 0)
  of-kind format kind bytes cmp code kinds said i low =
      kinds h loaded.roots P (replicate (length P.roots) kind) i kind loaded.rows said.kinds (kind-at kind (length P.roots) i (omega (arith, low, loaded.many)))

  -- they are those of a store where each stands for what is read there
  pub loaded-has : ((i : ℕ) → i < length loaded.roots → Is h (get_or loaded.roots i 0) (at h (get_or loaded.roots i 0))) → HasRoots Is at h slots
  loaded-has each = record {
    stands = λ v l here.
        let found = found-root names loaded.roots v l (sym (loaded.named v) ∙ here) in
        subst (λ k. Is h k (at h k)) found.2 (each found.0 found.1);
    holds = loaded.holds;
  }

  -- with the values that are read of the pool
  pub loaded-values : (read : Pool → ℕ → V) → map (read P) P.roots ≡ map (at h) loaded.roots → values_in at h slots ≡ from_entries (zip names (map (read P) P.roots))
  loaded-values read same = named-values at h names loaded.roots slots loaded.named ∙ ap (λ (vs : List V). from_entries (zip names vs)) (sym same)

-- rows that were loaded into an empty heap, and slots with their roots
module _ {T : Type 0} (text : T → Bytes) (old new : Heap T) (none : (k : ℕ) → holds_at old k ≡ 0) (empty : hold_count old ≡ 0) (names roots : List ℕ) (P : Pool) (slots : List (Option ℕ)) (are : AreNames names P.roots)
    (loads : Loads old new roots P) (loaded : AreRowsLoaded text new roots P) (rooted : length roots ≡ length P.roots) (named : AreNamed names roots slots) where
  pub loaded-with : (value : ℕ → Bytes → T) → AreValuedByPlace text value new roots → AreLoadedWith text value names P new slots
  loaded-with value valued = record {
    loaded = record {
      roots = roots;
      many = rooted;
      named = named;
      rows = loaded;
      holds = record {
        holds = λ k. omega (arith, loads.holds k, none k, named-holds names roots slots are.rise (are.many ∙ sym rooted) named k);
        count = omega (arith, loads.count, empty, named-count names roots slots are.rise (are.many ∙ sym rooted) named);
        few = omega (arith, named-count names roots slots are.rise (are.many ∙ sym rooted) named, are.few, are.many, rooted);
      };
    };
    valued = valued;
  }
