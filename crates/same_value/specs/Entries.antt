-- Entries of maps: pairs of a key's cell and a value.
use Rattle.std.specs.Prelude.{◌≡◌, ℕ, [], ◌∷◌, Some}
use Rattle.std.specs.declared.cmp.Ordering.{Ordering}
use Rattle.node_heap.specs.Forms.{Forms, cell, node, pair}
use Rattle.same_value.specs.Cells.{IsSameCell}

module _ {K : Type 0} (F : Forms K) where
  -- the link names a pair of a cell and a value of which this holds
  pub record IsPairOf (IsValue : ℕ → Type 0) (l : ℕ) : Type 0 where
    pub key : K
    pub key_cell : ℕ
    pub value : ℕ
    pub row : F l ≡ Some (node pair (key_cell ∷ value ∷ []))
    pub cell : F key_cell ≡ Some (cell key)
    pub good : IsValue value

  -- the links name pairs with equal keys, and with these values
  pub record HaveSameKey (cmp : K → K → Ordering) (l m value other_value : ℕ) : Type 0 where
    pub key_cell : ℕ
    pub row : F l ≡ Some (node pair (key_cell ∷ value ∷ []))
    pub other_key_cell : ℕ
    pub other_row : F m ≡ Some (node pair (other_key_cell ∷ other_value ∷ []))
    pub keys : IsSameCell cmp F key_cell other_key_cell

  -- the links name pairs with equal keys, and the values are the same
  pub record IsSamePair (cmp : K → K → Ordering) (IsSame : ℕ → ℕ → Type 0) (l m : ℕ) : Type 0 where
    pub value : ℕ
    pub other_value : ℕ
    pub keys : HaveSameKey cmp l m value other_value
    pub values : IsSame value other_value
