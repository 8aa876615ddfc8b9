-- Cells, and vectors of cells.
use Rattle.std.specs.Prelude.{◌≡◌, ℕ, Some}
use Rattle.std.specs.List.{All, AllZip}
use Rattle.std.specs.declared.cmp.Ordering.{Ordering}
use Rattle.std.specs.declared.cmp.Ordering.TheVariants.{Equal}
use Rattle.node_heap.specs.Forms.{Forms, cell}
use Rattle.node_heap.specs.Heap.{Heap, form_at}
use Rattle.rrb_core.specs.Vector.{elements, IsGoodVector}

module _ {K : Type 0} where
  -- the link names a cell
  abbrev pub IsCellLink : Forms K → ℕ → Type 0
  IsCellLink F l = (x : K) × (F l ≡ Some (cell x))

  -- the links name cells whose values the order calls equal
  pub record IsSameCell (cmp : K → K → Ordering) (F : Forms K) (l m : ℕ) : Type 0 where
    pub first : K
    pub second : K
    pub here : F l ≡ Some (cell first)
    pub there : F m ≡ Some (cell second)
    pub equal : cmp first second ≡ Equal

module _ {T : Type 0} where
  -- the root of a vector of cells
  pub record IsLines (h : Heap T) (v : ℕ) : Type 0 where
    pub good : IsGoodVector h v
    pub cells : All (IsCellLink (form_at h)) (elements h v)

  -- the vectors have as many elements, and those at each place are equal
  abbrev pub IsSameLines : (T → T → Ordering) → Heap T → ℕ → ℕ → Type 0
  IsSameLines cmp h v w = AllZip (IsSameCell cmp (form_at h)) (elements h v) (elements h w)
