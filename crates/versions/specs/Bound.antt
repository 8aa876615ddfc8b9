-- What a root stands for in a store of maps: a trie, by all bits of the keys' codes, whose entries are pairs of cells.
use Rattle.std.specs.Prelude.{◌≡◌, ℕ, List, Some, filter_map}
use Rattle.std.specs.List.{AllZip}
use Rattle.std.specs.declared.cmp.Ordering.{Ordering}
use Rattle.node_heap.specs.Heap.{Heap}
use Rattle.champ_trie.specs.Walk.{walk}
use Rattle.champ_kinds.specs.Binding.{Binding}
use Rattle.champ_kinds.specs.Kinds.{IsMapOf}
use Rattle.versions.specs.declared.piece.Piece.{Piece}
use Rattle.versions.specs.declared.piece.Piece.TheVariants.{Key, Value}
use Rattle.versions.specs.Rooted.{value_at}
use Rattle.versions.specs.Sorted.{by_keys}
use Rattle.versions.specs.Keyed.{by_root}
use Rattle.versions.specs.Pieces.{piece_code, piece_order, entry_at}

module _ {K V : Type 0} (cmp : K → K → Ordering) where
  -- the entries of a map
  abbrev pub map_at : Heap (Piece K V) → ℕ → List (K × V)
  map_at h l = by_keys cmp (filter_map (entry_at h) (walk h l))

  -- the binding's key and the cell of its value are those of the entry
  pub record IsBoundTo (h : Heap (Piece K V)) (b : Binding (Piece K V)) (e : K × V) : Type 0 where
    pub key : b.key ≡ Key e.0
    pub value : value_at h b.value ≡ Some (Value e.1)

  -- the trie with this root is a map of cells, which has these entries
  pub record IsKeyMap (value_cmp : V → V → Ordering) (code : K → ℕ) (h : Heap (Piece K V)) (l : ℕ) (map : List (K × V)) : Type 0 where
    pub bindings : List (Binding (Piece K V))
    pub stands : IsMapOf (piece_order cmp value_cmp) (piece_code code) h (by_root l) bindings
    pub entries : List (K × V)
    pub bound : AllZip (IsBoundTo h) bindings entries
    pub sorted : map ≡ by_keys cmp entries
