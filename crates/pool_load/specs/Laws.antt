-- What loaded roots reach: the vectors and the tries that the pool has, at their links.
use Rattle.std.specs.Prelude.{◌≡◌, ℕ, ◌<◌, Bool, true, List, map, Some, slice_get, slice_index}
use Rattle.std.specs.List.{AllZip, list_all}
use Rattle.std.specs.declared.cmp.Ordering.{Ordering}
use Rattle.node_heap.specs.Links.{count, Reaches}
use Rattle.node_heap.specs.Heap.{Heap, form_at, links_at}
use Rattle.rrb_core.specs.Seq.{seq}
use Rattle.rrb_core.specs.Vector.{IsVectorOf}
use Rattle.champ_chain.specs.Entry.{Entry, entry}
use Rattle.champ_kinds.specs.Binding.{Binding}
use Rattle.champ_kinds.specs.Root.{Root}
use Rattle.champ_kinds.specs.Kinds.{HasEntries, IsPair, IsSetOf, IsMapOf}
use Rattle.pool_order.specs.Order.{order_of}
use Rattle.pool_text.specs.Rows.{Bytes}
use Rattle.pool_text.specs.Pool.{forms_in, row_count, place_in, text_forms, fits_pool}
use Rattle.pool_text.specs.Renaming.{IsPoolOf}
use Rattle.pool_text.specs.declared.pool.Pool.{Pool}
use Rattle.pool_check.specs.Tries.{entries_below}
use Rattle.pool_check.specs.Kinds.{is_vector_root, is_trie_root, is_cell_of, is_pair_of}
use Rattle.pool_check.specs.Roots.{roots_are_of}
use Rattle.pool_check.specs.declared.root.RootKind.{RootKind}
use Rattle.pool_check.specs.Readings.{moved}
use Rattle.pool_load.specs.Kinds.{IsOfKind}
use Rattle.pool_load.specs.Loads.{AreLoaded, AreRowsLoaded}

-- the entries below a place of a pool
abbrev pub entries_in : Pool → ℕ → List (Entry Bytes)
entries_in P place = entries_below (row_count P) (forms_in P) place

-- the place of a link among the rows that the roots reach, and the link at a place
abbrev pub place_at : {T : Type 0} → Heap T → List ℕ → ℕ → ℕ
place_at h roots = place_in (order_of h roots)

abbrev pub link_at : {T : Type 0} → Heap T → List ℕ → ℕ → ℕ
link_at h roots = slice_index (order_of h roots)

module _ {T : Type 0} (text : T → Bytes) where
  -- the pool lists the rows that these roots reach, and the same ones are vector roots or trie roots
  pub record AreListed (h : Heap T) (roots : List ℕ) (P : Pool) : Type 0 where
    pub rows : IsPoolOf (text_forms text h) roots (order_of h roots) P
    pub vectors : (r l : ℕ) → 0 < count r roots → Reaches (links_at h) r l → is_vector_root (forms_in P (place_at h roots l)) ≡ is_vector_root (form_at h l)
    pub tries : (r l : ℕ) → 0 < count r roots → Reaches (links_at h) r l → is_trie_root (forms_in P (place_at h roots l)) ≡ is_trie_root (form_at h l)

  -- where all tests were passed, those of the rows were
  abbrev pub LoadedRootsHaveRows : Type 0
  LoadedRootsHaveRows = (h : Heap T) (roots : List ℕ) (P : Pool) → AreLoaded text h roots P → AreRowsLoaded text h roots P

  -- so it is of loaded roots
  abbrev pub LoadedRowsAreListed : Type 0
  LoadedRowsAreListed = (h : Heap T) (roots : List ℕ) (P : Pool) → AreRowsLoaded text h roots P → AreListed h roots P

  -- a vector root that they reach is that of a good vector, of the elements that the pool has at its place
  abbrev pub LoadedVectorsAreGood : Type 0
  LoadedVectorsAreGood =
      (h : Heap T) (roots : List ℕ) (P : Pool) (r l : ℕ) → AreRowsLoaded text h roots P → 0 < count r roots → Reaches (links_at h) r l → is_vector_root (form_at h l) ≡ true
      → IsVectorOf h l (map (link_at h roots) (seq (forms_in P) (place_at h roots l)))

  -- what they reach fits a pool, so that they can be saved
  abbrev pub LoadedRootsFit : Type 0
  LoadedRootsFit = (h : Heap T) (roots : List ℕ) (P : Pool) (r l : ℕ) → AreRowsLoaded text h roots P → 0 < count r roots → Reaches (links_at h) r l → fits_pool (form_at h l) ≡ true

  module _ (cmp : T → T → Ordering) (code : T → ℕ) where
    -- by the pool's bits the root is that of the trie of the entries that the pool has at its place: a set where all of them are
    -- cells, and a map where all are pairs
    pub record IsTrieAt (h : Heap T) (roots : List ℕ) (P : Pool) (root : Root) : Type 0 where
      pub entries : List (Entry T)
      pub same : map (λ e. entry (text e.key) e.link) entries ≡ map (moved (link_at h roots)) (entries_in P (place_at h roots root.root))
      pub trie : HasEntries cmp code h root entries
      pub is_set : (p : Bytes → Bool) → list_all (λ e. is_cell_of p (forms_in P e.link)) (entries_in P (place_at h roots root.root)) ≡ true → IsSetOf cmp code h root entries
      pub is_map : (p q : ℕ → Bool) → list_all (λ e. is_pair_of p q (forms_in P e.link)) (entries_in P (place_at h roots root.root)) ≡ true
          → (M : List (Binding T)) × AllZip (IsPair (form_at h)) entries M × IsMapOf cmp code h root M

    -- so is a trie root that loaded roots reach
    abbrev pub LoadedTriesAreGood : Type 0
    LoadedTriesAreGood =
        (h : Heap T) (roots : List ℕ) (P : Pool) (r l : ℕ) → AreRowsLoaded text h roots P → 0 < count r roots → Reaches (links_at h) r l → is_trie_root (form_at h l) ≡ true
        → IsTrieAt h roots P (record { root = l; bits = P.bits })

    -- each loaded root is what its kind says
    abbrev pub LoadedRootsAreOfKinds : Type 0
    LoadedRootsAreOfKinds =
        (h : Heap T) (roots : List ℕ) (P : Pool) (kinds : List RootKind) (i : ℕ) (kind : RootKind) → AreRowsLoaded text h roots P → roots_are_of kinds P ≡ true → slice_get kinds i ≡ Some kind
        → IsOfKind cmp code P.bits h kind (slice_index roots i)
