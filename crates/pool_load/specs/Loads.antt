-- What a load does to a heap, and what its roots are.
use Rattle.std.specs.Prelude.{◌≡◌, ℕ, ◌+◌, ◌-◌, ◌^◌, ◌<◌, List, length, Some, None, min, sum_by}
use Rattle.node_heap.specs.Links.{count, Reaches}
use Rattle.node_heap.specs.Forms.{Form, cell, is_cell, is_node}
use Rattle.node_heap.specs.Heap.{Heap, row_at, links_at, holds_at, hold_count, live_count, cell_count, node_count, IsGraph}
use Rattle.node_heap.specs.Calls.{Extends, Balances}
use Rattle.pool_order.specs.Order.{order_of}
use Rattle.pool_text.specs.Rows.{Bytes}
use Rattle.pool_text.specs.Pool.{row_count, place_in, settings_of, pool_at}
use Rattle.pool_text.specs.Renaming.{AreLive}
use Rattle.pool_text.specs.declared.pool.Pool.{Pool}
use Rattle.pool_check.specs.Checked.{IsChecked, HasCheckedRows}
use Rattle.rrb_core.specs.Vector.{HaveSums}

-- how many of the rows are cells, and how many nodes
abbrev pub cells_of : {K : Type 0} → List (Form K) → ℕ
cells_of rows = sum_by (λ row. is_cell (Some row)) rows

abbrev pub nodes_of : {K : Type 0} → List (Form K) → ℕ
nodes_of rows = sum_by (λ row. is_node (Some row)) rows

module _ {T : Type 0} where
  -- every old row stays, just as many rows came as the pool has, each row below the roots is a new one, and each root is held
  -- once more for each of its places
  pub record Loads (old new : Heap T) (roots : List ℕ) (P : Pool) : Type 0 where
    pub extends : Extends old new
    pub graph : IsGraph new
    pub fresh : (r l : ℕ) → 0 < count r roots → Reaches (links_at new) r l → row_at old l ≡ None
    pub holds : (k : ℕ) → holds_at new k ≡ holds_at old k + count k roots
    pub count : hold_count new ≡ hold_count old + length roots
    pub cells : cell_count new ≡ cell_count old + cells_of P.rows
    pub nodes : node_count new ≡ node_count old + nodes_of P.rows
    pub live : live_count new ≡ live_count old + row_count P
    pub made : new.made ≡ min (old.made + row_count P) (2 ^ 64 - 1)
    pub balance : Balances old new

  -- the pool of these roots is this one, which passed these tests, and the inner rows below them keep their sums
  pub record AreLoadedBy (Passed : Pool → Type 0) (text : T → Bytes) (h : Heap T) (roots : List ℕ) (P : Pool) : Type 0 where
    pub graph : IsGraph h
    pub live : AreLive T h roots
    pub checked : Passed P
    pub pool : pool_at text h roots (settings_of P) ≡ P
    pub sums : HaveSums h roots

  -- it passed all tests, those of a space's roots too
  abbrev pub AreLoaded : (T → Bytes) → Heap T → List ℕ → Pool → Type 0
  AreLoaded text h roots P = AreLoadedBy IsChecked text h roots P

  -- it passed those of its rows, whatever its roots are
  abbrev pub AreRowsLoaded : (T → Bytes) → Heap T → List ℕ → Pool → Type 0
  AreRowsLoaded text h roots P = AreLoadedBy HasCheckedRows text h roots P

  -- the value of each cell that the roots reach is the one that is made of its place in their pool and its text
  abbrev pub AreValuedByPlace : (T → Bytes) → (ℕ → Bytes → T) → Heap T → List ℕ → Type 0
  AreValuedByPlace text value h roots = (l : ℕ) (x : T) → 0 < count l (order_of h roots) → row_at h l ≡ Some (cell x) → x ≡ value (place_in (order_of h roots) l) (text x)
