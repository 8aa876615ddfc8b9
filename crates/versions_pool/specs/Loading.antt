-- Inside: what a document is read to, and the heap that its rows are loaded to; and what is written of a heap.
use Rattle.std.specs.Prelude.{◌≡◌, ℕ, ◌<◌, ◌≤◌, ◌^◌, true, List, Option, length, map, replicate, Some, None, IsSome}
use Rattle.elem_core.specs.declared.codes.TheConstants.{CODE_BITS}
use Rattle.elem_core.specs.Cell.{IsCell}
use Rattle.node_heap.specs.Links.{count, Reaches}
use Rattle.node_heap.specs.Forms.{cell}
use Rattle.node_heap.specs.Heap.{Heap, row_at, form_at, links_at}
use Rattle.slab.specs.Slab.{entries_from}
use Rattle.pool_order.specs.Order.{order_of}
use Rattle.pool_text.specs.Rows.{Bytes}
use Rattle.pool_text.specs.Pool.{pool_at, settings_by, fits_pool}
use Rattle.pool_text.specs.declared.pool.Pool.{Pool}
use Rattle.pool_text.specs.declared.rules.TheConstants.{MOST_HISTORY}
use Rattle.pool_check.specs.Roots.{roots_are_of}
use Rattle.pool_check.specs.declared.root.RootKind.{RootKind}
use Rattle.pool_load.specs.Loads.{AreRowsLoaded, AreValuedByPlace}
use Rattle.versions.specs.Roots.{HoldsRoots}
use Rattle.versions_pool.specs.Saved.{Saved, rise, saved_in_bytes}
use Rattle.versions_pool.specs.Stores.{pool_with, store_damage}
use Rattle.versions_pool.specs.Slots.{AreNamed}

-- names that rise, a root for each, no more than a store has
pub record AreNames (names roots : List ℕ) : Type 0 where
  pub rise : rise names ≡ true
  pub many : length names ≡ length roots
  pub few : length names ≤ 2 ^ 50

-- the bytes say these names and this pool, whose roots are of the kind, and fail no test
pub record AreSaid (format : Bytes) (kind : RootKind) (bytes : Bytes) (names : List ℕ) (P : Pool) : Type 0 where
  pub said : saved_in_bytes format bytes ≡ Some (record { names = names; roots = P.roots; rows = P.rows })
  pub pool : P ≡ pool_with P.rows P.roots
  pub names_are : AreNames names P.roots
  pub kinds : roots_are_of (replicate (length P.roots) kind) P ≡ true
  pub whole : store_damage format kind bytes ≡ None

-- the numbers of slots with a root, rising, and these roots in the same order
abbrev pub names_in : List (Option ℕ) → List ℕ
names_in slots = map (λ (e : ℕ × ℕ). e.0) (entries_from 0 slots)

abbrev pub roots_in : List (Option ℕ) → List ℕ
roots_in slots = map (λ (e : ℕ × ℕ). e.1) (entries_from 0 slots)

module _ {T : Type 0} (text : T → Bytes) where
  -- the heap has the pool's rows and the holds of its roots, which stand at the names
  pub record AreLoadedAt (names : List ℕ) (P : Pool) (h : Heap T) (slots : List (Option ℕ)) : Type 0 where
    pub roots : List ℕ
    pub many : length roots ≡ length P.roots
    pub named : AreNamed names roots slots
    pub rows : AreRowsLoaded text h roots P
    pub holds : HoldsRoots h slots

  -- and each cell has the value of its place and its text
  pub record AreLoadedWith (value : ℕ → Bytes → T) (names : List ℕ) (P : Pool) (h : Heap T) (slots : List (Option ℕ)) : Type 0 where
    pub loaded : AreLoadedAt names P h slots
    pub valued : AreValuedByPlace text value h loaded.roots

  -- each value that the roots reach has the text of a cell
  abbrev pub AreCells : Heap T → List (Option ℕ) → Type 0
  AreCells h slots = (l : ℕ) (x : T) → 0 < count l (order_of h (roots_in slots)) → row_at h l ≡ Some (cell x) → IsCell (text x)

  -- the roots are there, and all that they reach fits a pool
  pub record CanBeSaved (h : Heap T) (slots : List (Option ℕ)) : Type 0 where
    pub live : (r : ℕ) → 0 < count r (roots_in slots) → IsSome (row_at h r)
    pub fits : AreCells h slots → (r l : ℕ) → 0 < count r (roots_in slots) → Reaches (links_at h) r l → fits_pool (form_at h l) ≡ true

  -- it says the numbers of the roots and the pool of the rows that they reach
  pub record IsSavedOf (h : Heap T) (slots : List (Option ℕ)) (s : Saved) : Type 0 where
    pub names : s.names ≡ names_in slots
    pub pool : pool_with s.rows s.roots ≡ pool_at text h (roots_in slots) (settings_by CODE_BITS MOST_HISTORY)
    pub cells : AreCells h slots
