-- What a root is in a heap, by its kind.
use Rattle.std.specs.Prelude.{◌≡◌, ℕ, List, [], ◌∷◌, Some}
use Rattle.std.specs.List.{All}
use Rattle.std.specs.declared.cmp.Ordering.{Ordering}
use Rattle.node_heap.specs.Forms.{cell, node, state}
use Rattle.node_heap.specs.Heap.{Heap, form_at}
use Rattle.rrb_core.specs.Vector.{IsGoodVector, elements}
use Rattle.champ_kinds.specs.Binding.{Binding}
use Rattle.champ_kinds.specs.Root.{Root}
use Rattle.champ_kinds.specs.Kinds.{IsMapOf}
use Rattle.champ_kinds.specs.Stands.{IsSomeSet}
use Rattle.pool_check.specs.declared.root.RootKind.{RootKind}
use Rattle.pool_check.specs.declared.root.RootKind.TheVariants.{Lines, Cells, CellMap, LinesMap, Names, NamedLines, State, Versions, History}

module _ {T : Type 0} (cmp : T → T → Ordering) (code : T → ℕ) (bits : ℕ) (h : Heap T) where
  abbrev pub rooted : ℕ → Root
  rooted l = record { root = l; bits = bits }

  -- the link is that of a cell
  abbrev pub IsCellLink : ℕ → Type 0
  IsCellLink l = (x : T) × (form_at h l ≡ Some (cell x))

  -- it is the root of a good vector, of whose elements this is so
  pub record IsVectorTo (Is : ℕ → Type 0) (l : ℕ) : Type 0 where
    pub good : IsGoodVector h l
    pub elements : All Is (elements h l)

  -- it is the root of a map, of whose values this is so
  pub record IsMapTo (Is : ℕ → Type 0) (l : ℕ) : Type 0 where
    pub bindings : List (Binding T)
    pub map : IsMapOf cmp code h (rooted l) bindings
    pub values : All (λ b. Is b.value) bindings

  abbrev pub IsSetRoot : ℕ → Type 0
  IsSetRoot l = IsSomeSet cmp code h (rooted l)

  abbrev pub IsLines : ℕ → Type 0
  IsLines = IsVectorTo IsCellLink

  -- it is a state: of a map to vectors of cells, and of a set
  pub record IsStateLink (l : ℕ) : Type 0 where
    pub buffers : ℕ
    pub stars : ℕ
    pub row : form_at h l ≡ Some (node state (buffers ∷ stars ∷ []))
    pub map : IsMapTo IsLines buffers
    pub set : IsSetRoot stars

  -- it is the root of what the kind says; of names, that they are cells
  abbrev pub IsOfKind : RootKind → ℕ → Type 0
  IsOfKind Lines = IsLines
  IsOfKind Cells = IsSetRoot
  IsOfKind CellMap = IsMapTo IsCellLink
  IsOfKind LinesMap = IsMapTo IsLines
  IsOfKind Names = IsSetRoot
  IsOfKind NamedLines = IsMapTo IsLines
  IsOfKind State = IsStateLink
  IsOfKind Versions = IsMapTo IsStateLink
  IsOfKind History = IsVectorTo IsStateLink
