-- A row on the way to an element.
use Rattle.std.specs.Prelude.{◌≡◌, ℕ, ◌^◌, ◌<◌, ◌≤◌, List, ◌++◌, length, drop}
use Rattle.node_heap.specs.Heap.{Heap, form_at}
use Rattle.node_heap.specs.declared.row.TheConstants.{MOST_HEIGHT}
use Rattle.rrb_core.specs.Seq.{seq_at, IsWell}
use Rattle.rrb_core.specs.Vector.{HasSums}
use Rattle.same_value.specs.declared.places.RowOnWay.{RowOnWay}

module _ {T : Type 0} where
  -- the elements below the row, from the one of the place on
  abbrev pub rest_of : Heap T → RowOnWay → List ℕ
  rest_of h p = drop p.within (seq_at (form_at h) p.height p.link)

  -- the row is one of a vector, and its elements from the one of the place on are the first of these
  pub record IsOnWay (h : Heap T) (xs : List ℕ) (p : RowOnWay) : Type 0 where
    pub well : IsWell (form_at h) p.height p.link
    pub sums : HasSums h p.height p.link
    pub low : p.height ≤ MOST_HEIGHT
    pub short : length (seq_at (form_at h) p.height p.link) < 2 ^ 32
    pub inside : p.within < length (seq_at (form_at h) p.height p.link)
    pub later : List ℕ
    pub front : xs ≡ rest_of h p ++ later
