-- Rows that are made one after the other, in the order of their places.
use Rattle.std.specs.Prelude.{◌≡◌, ◌≢◌, ℕ, ◌+◌, ◌-◌, ◌^◌, ◌<◌, ◌≤◌, true, List, length, take, Some, None, IsSome, option_map, slice_get, slice_index, nat_lt}
use Rattle.std.specs.List.{list_all}
use Rattle.node_heap.specs.Links.{count, IsReached}
use Rattle.node_heap.specs.Forms.{Row, Form, cell, links_of, is_cell, is_node}
use Rattle.node_heap.specs.Heap.{Heap, row_at, links_at, holds_at, hold_count, cell_count, node_count, live_count, one_at, HasSpares, IsGraph, most_holds}
use Rattle.node_heap.specs.Calls.{SameRows, Extends, Makes}
use Rattle.rrb_core.specs.Vector.{row_sums, HasSums}
use Rattle.pool_text.specs.Rows.{Bytes, is_in_range}
use Rattle.pool_text.specs.Pool.{relink, text_form, text_forms}
use Rattle.pool_text.specs.Renaming.{AreLive}
use Rattle.pool_check.specs.Rows.{is_line_or_node}
use Rattle.pool_check.specs.Vectors.{has_height}
use Rattle.pool_load.specs.Loads.{cells_of, nodes_of}
use Rattle.pool_load.specs.Rows.{length_over, KeepsSumsOver}

-- every place is below the bound
abbrev pub ArePlacesBelow : ℕ → List ℕ → Type 0
ArePlacesBelow bound places = list_all (λ p. nat_lt p bound) places ≡ true

module _ {T : Type 0} where
  -- the new heap has this row besides, held once, and every other hold stays
  pub record ComesBeside (old new : Heap T) (link : ℕ) (row : Row T) : Type 0 where
    pub fresh : row_at old link ≡ None
    pub here : row_at new link ≡ Some row
    pub others : (k : ℕ) → k ≢ link → row_at new k ≡ row_at old k
    pub holds : (k : ℕ) → holds_at new k ≡ holds_at old k + one_at link k
    pub count : hold_count new ≡ hold_count old + 1
    pub makes : Makes old new (is_cell (Some row)) (is_node (Some row))
    pub graph : IsGraph new
    pub extends : Extends old new

  -- the row can be made over rows with these links and lengths by place
  pub record CanMake (h : Heap T) (links lengths : List ℕ) (row : Form Bytes) : Type 0 where
    pub in_range : is_in_range row ≡ true
    pub line : is_line_or_node row ≡ true
    pub below : ArePlacesBelow (length links) (links_of (Some row))
    pub known : length links ≤ length lengths
    pub live : AreLive T h links
    pub short : length_over lengths row < 2 ^ 32
    pub spares : HasSpares h (is_cell (Some row)) (is_node (Some row))
    pub few : hold_count h + 32 < most_holds
    pub graph : IsGraph h

  -- the row was made, with these links for its places
  pub record MakesPoolRow (text : T → Bytes) (old new : Heap T) (links lengths : List ℕ) (form : Form Bytes) (link : ℕ) : Type 0 where
    pub row : Row T
    pub comes : ComesBeside old new link row
    pub stands : text_form text row ≡ relink (slice_index links) form
    pub sums : KeepsSumsOver lengths form (row_sums (Some row))

  -- the first rows were made, each once and held once, with these links by place
  pub record AreMade (text : T → Bytes) (old new : Heap T) (rows : List (Form Bytes)) (links : List ℕ) : Type 0 where
    pub few : length links ≤ length rows
    pub forms : (p : ℕ) → p < length links → text_forms text new (slice_index links p) ≡ option_map (relink (slice_index links)) (slice_get rows p)
    pub once : (k : ℕ) → count k links ≤ 1
    pub fresh : (k : ℕ) → 0 < count k links → row_at old k ≡ None
    pub all : (k : ℕ) → IsSome (row_at new k) → row_at old k ≡ None → 0 < count k links
    pub sums : (p n : ℕ) → p < length links → has_height n (slice_get rows p) ≡ true → HasSums new n (slice_index links p)
    pub holds : (k : ℕ) → holds_at new k ≡ holds_at old k + count k links
    pub count : hold_count new ≡ hold_count old + length links
    pub makes : Makes old new (cells_of (take (length links) rows)) (nodes_of (take (length links) rows))
    pub graph : IsGraph new
    pub extends : Extends old new

  module _ (text : T → Bytes) where
    -- a cell at the link has the value that is made of its text
    abbrev pub IsValued : (Bytes → T) → Heap T → ℕ → Type 0
    IsValued value h l = (x : T) → row_at h l ≡ Some (cell x) → x ≡ value (text x)

    -- so it is of each of these links, by its place among them
    abbrev pub AreValued : (ℕ → Bytes → T) → Heap T → List ℕ → Type 0
    AreValued value h links = (p : ℕ) → p < length links → IsValued (value p) h (slice_index links p)

  -- the holds of these links were given up, and nothing else has changed
  pub record GivesUp (old new : Heap T) (links : List ℕ) : Type 0 where
    pub rows : SameRows old new
    pub holds : (k : ℕ) → holds_at new k + count k links ≡ holds_at old k
    pub count : hold_count new + length links ≡ hold_count old
    pub cells : cell_count new ≡ cell_count old
    pub nodes : node_count new ≡ node_count old
    pub live : live_count new ≡ live_count old
    pub made : new.made ≡ old.made
    pub spare_cells : new.spare_cells ≡ old.spare_cells
    pub spare_nodes : new.spare_nodes ≡ old.spare_nodes
    pub graph : IsGraph new

  -- every row is reached without these holds
  abbrev pub AreReachedWithout : Heap T → List ℕ → Type 0
  AreReachedWithout h links = (l : ℕ) → IsSome (row_at h l) → IsReached (λ k. holds_at h k - count k links) (links_at h) l
