-- What a map of cells says of a key.
use Rattle.std.specs.Prelude.{◌≡◌, ℕ, List, Some, None}
use Rattle.std.specs.declared.cmp.Ordering.{Ordering}
use Rattle.elem_core.specs.declared.codes.TheConstants.{CODE_BITS}
use Rattle.node_heap.specs.Forms.{cell}
use Rattle.node_heap.specs.Heap.{Heap, row_at}
use Rattle.champ_kinds.specs.Root.{Root}
use Rattle.champ_kinds.specs.Binding.{Binding, value_with}
use Rattle.champ_kinds.specs.Kinds.{IsMapOf}

-- the map of a root, by all bits of the keys' codes
abbrev pub by_root : ℕ → Root
by_root l = record { root = l; bits = CODE_BITS }

module _ {T : Type 0} (cmp : T → T → Ordering) (code : T → ℕ) (h : Heap T) (r : Root) (key : T) where
  -- the map has a cell of this value at the key
  pub record Says (value : T) : Type 0 where
    pub bindings : List (Binding T)
    pub map : IsMapOf cmp code h r bindings
    pub link : ℕ
    pub bound : value_with cmp key bindings ≡ Some link
    pub row : row_at h link ≡ Some (cell value)

  -- the map has nothing at the key
  pub record SaysNothing : Type 0 where
    pub bindings : List (Binding T)
    pub map : IsMapOf cmp code h r bindings
    pub unbound : value_with cmp key bindings ≡ None
