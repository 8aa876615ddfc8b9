-- Rows under other links: a pool has the rows that its roots reach, under their places.
use Rattle.std.specs.Prelude.{◌≡◌, ℕ, ◌<◌, List, length, map, option_map, slice_index, IsSome}
use Rattle.std.specs.List.{range_with_len}
use Rattle.node_heap.specs.Links.{count, Reaches, LeadsDown}
use Rattle.node_heap.specs.Forms.{Forms, links_in, value_of, head_of, Tree, IsTree}
use Rattle.node_heap.specs.Heap.{Heap, row_at, form_at, holds_at, live_count, IsGraph}
use Rattle.node_heap.specs.Calls.{KeepsBelow}
use Rattle.pool_order.specs.Order.{order}
use Rattle.pool_order.specs.Laws.{HaveRanksBelow}
use Rattle.pool_text.specs.Rows.{Bytes}
use Rattle.pool_text.specs.Pool.{forms_in, row_count, order_in, place_in, relink, Settings, settings_of, pool, pool_at}
use Rattle.pool_text.specs.declared.pool.Pool.{Pool}

module _ {K : Type 0} where
  -- at the new link of each row that the link reaches, H has that row with new links
  abbrev pub IsRenamed : (ℕ → ℕ) → Forms K → Forms K → ℕ → Type 0
  IsRenamed f G H l = (m : ℕ) → Reaches (links_in G) l m → H (f m) ≡ option_map (relink f) (G m)

  -- the new link reads as the old one: of one kind, with one value, with new links, and with one tree
  pub record ReadsTheSame (f : ℕ → ℕ) (G H : Forms K) (l : ℕ) : Type 0 where
    pub kind : head_of (H (f l)) ≡ head_of (G l)
    pub value : value_of (H (f l)) ≡ value_of (G l)
    pub links : links_in H (f l) ≡ map f (links_in G l)
    pub tree : (t : Tree K) → IsTree G l t → IsTree H (f l) t

  -- the rows that the roots reach are there, and each way down from a root has at most n rows
  pub record IsRooted (n : ℕ) (G : Forms K) (roots : List ℕ) : Type 0 where
    pub rank : ℕ → ℕ
    pub falls : LeadsDown rank (links_in G)
    pub low : HaveRanksBelow rank n roots
    pub there : (r l : ℕ) → 0 < count r roots → Reaches (links_in G) r l → IsSome (G l)

-- a link reads as its new link
abbrev pub RenamedReadsTheSame : Type 0 → Type 0
RenamedReadsTheSame K = (f : ℕ → ℕ) (G H : Forms K) (l : ℕ) → IsRenamed f G H l → ReadsTheSame f G H l

-- where new links can be turned back into the old ones, the old rows are the new ones renamed
abbrev pub RenamingTurnsBack : Type 0 → Type 0
RenamingTurnsBack K = (f g : ℕ → ℕ) (G H : Forms K) (l : ℕ) → IsRenamed f G H l → ((m : ℕ) → Reaches (links_in G) l m → g (f m) ≡ m) → IsRenamed g H G (f l)

-- the pool lists these links: their places are new links for them, and the other way round, and the rows stand in their order
pub record IsPoolOf (G : Forms Bytes) (roots ks : List ℕ) (P : Pool) : Type 0 where
  pub many : row_count P ≡ length ks
  pub tops : P.roots ≡ map (place_in ks) roots
  pub renamed : (r l : ℕ) → 0 < count r roots → Reaches (links_in G) r l → IsRenamed (place_in ks) G (forms_in P) l
  pub back : (r l : ℕ) → 0 < count r roots → Reaches (links_in G) r l → IsRenamed (slice_index ks) (forms_in P) G (place_in ks l)
  pub same : (r l : ℕ) → 0 < count r roots → Reaches (links_in G) r l → slice_index ks (place_in ks l) ≡ l
  pub in_order : order_in P ≡ range_with_len 0 (row_count P)

-- a pool has the rows that the roots reach, under their places, and stands in its own order
abbrev pub PoolsAreRenamed : Type 0
PoolsAreRenamed = (n : ℕ) (G : Forms Bytes) (roots : List ℕ) (settings : Settings) → IsRooted n G roots → IsPoolOf G roots (order n (links_in G) roots) (pool n G roots settings)

-- where new links can be turned back into the old ones, the rows under new links have the pool of the old ones
abbrev pub RenamedHaveOnePool : Type 0
RenamedHaveOnePool =
    (n m : ℕ) (f g : ℕ → ℕ) (G H : Forms Bytes) (roots : List ℕ) (settings : Settings) → IsRooted n G roots → IsRooted m H (map f roots)
    → ((r : ℕ) → 0 < count r roots → IsRenamed f G H r) → ((r l : ℕ) → 0 < count r roots → Reaches (links_in G) r l → g (f l) ≡ l)
    → pool m H (map f roots) settings ≡ pool n G roots settings

-- a pool is the pool of its own rows from its roots
abbrev pub IsOfItself : Pool → Type 0
IsOfItself P = pool (row_count P) (forms_in P) P.roots (settings_of P) ≡ P

module _ (T : Type 0) where
  -- these roots are rows of the heap
  abbrev pub AreLive : Heap T → List ℕ → Type 0
  AreLive h roots = (r : ℕ) → 0 < count r roots → IsSome (row_at h r)

  -- what the roots of a heap reach is there, no deeper than the heap has places
  abbrev pub HeapsAreRooted : Type 0
  HeapsAreRooted = (h : Heap T) (roots : List ℕ) → IsGraph h → AreLive h roots → IsRooted (length h.rows) (form_at h) roots

  -- where the roots are all that is held, each as often as it stands in the list, the pool has every row of the heap
  abbrev pub NothingLeaks : Type 0
  NothingLeaks = (text : T → Bytes) (h : Heap T) (roots : List ℕ) (settings : Settings) → IsGraph h → ((l : ℕ) → holds_at h l ≡ count l roots) → row_count (pool_at text h roots settings) ≡ live_count h

  -- the pool stays where all that the roots reach stays
  abbrev pub PoolsStay : Type 0
  PoolsStay =
      (text : T → Bytes) (old new : Heap T) (roots : List ℕ) (settings : Settings) → IsGraph old → IsGraph new → AreLive old roots → ((r : ℕ) → 0 < count r roots → KeepsBelow old new r)
      → pool_at text new roots settings ≡ pool_at text old roots settings

-- the pool of a heap of texts is that of its forms
abbrev pub TextsAreForms : Type 0
TextsAreForms = (h : Heap Bytes) (roots : List ℕ) (settings : Settings) → pool_at (λ text. text) h roots settings ≡ pool (length h.rows) (form_at h) roots settings
