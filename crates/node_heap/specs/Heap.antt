-- What a contract sees of a heap.
use Rattle.std.specs.Prelude.{ℕ, ◌+◌, ◌^◌, ◌<◌, ◌≤◌, List, length, Option, None, IsSome, is_some, count_by, sum, sum_by, slice_index_or, ◌==◌, if◌then◌else◌}
use Rattle.node_heap.specs.Links.{Links, count, HasLink, IsReached, LeadsDown}
use Rattle.node_heap.specs.Forms.{Row, Rows, Forms, links_of, links_in, forms_of, is_cell, is_node}

-- the row and the holds of each link from 0 on, the spares of each kind, and the number of rows ever made
pub record Heap (T : Type 0) : Type 0 where
  pub rows : List (Option (Row T))
  pub holds : List ℕ
  pub spare_cells : ℕ
  pub spare_nodes : ℕ
  pub made : ℕ

-- the most holds that a heap may have in all
abbrev pub most_holds : ℕ
most_holds = 2 ^ 60

-- half of them: with fewer, a call on one container may begin, which takes holds on its way
abbrev pub half_holds : ℕ
half_holds = 2 ^ 59

-- a quarter of them: with fewer, an edit may begin whose steps are such calls
abbrev pub quarter_holds : ℕ
quarter_holds = 2 ^ 58

-- a small part of them: with fewer, a part of a program may begin that makes many such calls
abbrev pub program_holds : ℕ
program_holds = 2 ^ 50

-- one more than the most rows that a heap may have, its spares among them
abbrev pub row_limit : ℕ
row_limit = 2 ^ 56

-- 1 at the link itself, and else 0
abbrev pub one_at : ℕ → ℕ → ℕ
one_at l k = if l == k then 1 else 0

-- the places of a link, over all rows
abbrev pub places_in : {T : Type 0} → List (Option (Row T)) → ℕ → ℕ
places_in rows l = sum_by (λ r. count l (links_of r)) rows

module _ {T : Type 0} where
  -- the row that a link names, if any
  abbrev pub row_at : Heap T → Rows T
  row_at h l = slice_index_or h.rows l None

  abbrev pub form_at : Heap T → Forms T
  form_at h = forms_of (row_at h)

  abbrev pub links_at : Heap T → Links
  links_at h = links_in (row_at h)

  abbrev pub holds_at : Heap T → ℕ → ℕ
  holds_at h l = slice_index_or h.holds l 0

  -- the holds and the places of a link
  abbrev pub owners_at : Heap T → ℕ → ℕ
  owners_at h l = holds_at h l + places_in h.rows l

  -- the holds in all
  abbrev pub hold_count : Heap T → ℕ
  hold_count h = sum h.holds

  abbrev pub live_count : Heap T → ℕ
  live_count h = count_by is_some h.rows

  abbrev pub cell_count : Heap T → ℕ
  cell_count h = sum_by is_cell h.rows

  abbrev pub node_count : Heap T → ℕ
  node_count h = sum_by is_node h.rows

  -- there are at least so many spares of each kind
  abbrev pub HasSpares : Heap T → ℕ → ℕ → Type 0
  HasSpares h cells nodes = (cells ≤ h.spare_cells) × (nodes ≤ h.spare_nodes)

  -- links and holds lead to rows, each row is reached from a hold, and each link leads down
  pub record IsGraph (h : Heap T) : Type 0 where
    pub closed : (l k : ℕ) → HasLink (links_at h) l k → IsSome (row_at h k)
    pub held : (l : ℕ) → 0 < holds_at h l → IsSome (row_at h l)
    pub reached : (l : ℕ) → IsSome (row_at h l) → IsReached (holds_at h) (links_at h) l
    pub rank : ℕ → ℕ
    pub falls : LeadsDown rank (links_at h)
    pub short : (l : ℕ) → length (links_at h l) ≤ 32
    pub few_holds : hold_count h ≤ most_holds
    pub few_rows : live_count h + (h.spare_cells + h.spare_nodes) < row_limit
    pub few_made : h.made < 2 ^ 64
