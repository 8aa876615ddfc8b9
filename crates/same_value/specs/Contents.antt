-- What maps, sets and states have in them, and when two have the same.
use Rattle.std.specs.Prelude.{◌≡◌, ℕ, List, [], ◌∷◌, Some}
use Rattle.std.specs.List.{All}
use Rattle.std.specs.declared.cmp.Ordering.{Ordering}
use Rattle.std.specs.declared.cmp.Ordering.TheVariants.{Equal}
use Rattle.node_heap.specs.Forms.{node, state}
use Rattle.node_heap.specs.Heap.{Heap, form_at}
use Rattle.champ_chain.specs.Entry.{Entry}
use Rattle.champ_kinds.specs.Root.{Root}
use Rattle.champ_kinds.specs.Binding.{Binding}
use Rattle.champ_kinds.specs.Kinds.{IsMapOf, IsSetOf}
use Rattle.champ_kinds.specs.Laws.{GoOneToOne}
use Rattle.same_value.specs.Cells.{IsCellLink, IsSameCell, IsLines, IsSameLines}
use Rattle.same_value.specs.declared.values.Values.{Values}
use Rattle.same_value.specs.declared.values.Values.TheVariants.{Cells, Lines, States}

module _ {T : Type 0} (cmp : T → T → Ordering) where
  -- the keys are equal, and the values are the same
  abbrev pub IsSameBinding : (ℕ → ℕ → Type 0) → Binding T → Binding T → Type 0
  IsSameBinding IsSame b c = (cmp b.key c.key ≡ Equal) × IsSame b.value c.value

  -- the finite maps are equal: each binding of the first goes with one of the second
  abbrev pub AreSameMaps : (ℕ → ℕ → Type 0) → List (Binding T) → List (Binding T) → Type 0
  AreSameMaps IsSame M N = GoOneToOne (IsSameBinding IsSame) M N

  -- the sets of keys are equal
  abbrev pub AreSameSets : List (Entry T) → List (Entry T) → Type 0
  AreSameSets E D = GoOneToOne (λ e d. cmp e.key d.key ≡ Equal) E D

  module _ (code : T → ℕ) (h : Heap T) where
    -- the root is the map of these bindings, each with such a value
    pub record IsMapWith (IsValue : ℕ → Type 0) (r : Root) (M : List (Binding T)) : Type 0 where
      pub map : IsMapOf cmp code h r M
      pub values : All (λ b. IsValue b.value) M

    -- the link names a state: a map of vectors of cells, and a set
    pub record IsStateLink (bits l : ℕ) : Type 0 where
      pub map_root : ℕ
      pub set_root : ℕ
      pub row : form_at h l ≡ Some (node state (map_root ∷ set_root ∷ []))
      pub bindings : List (Binding T)
      pub map : IsMapWith (IsLines h) (record { root = map_root; bits = bits }) bindings
      pub entries : List (Entry T)
      pub set : IsSetOf cmp code h (record { root = set_root; bits = bits }) entries

    -- the links name states with equal maps and equal sets
    pub record IsSameState (bits l m : ℕ) : Type 0 where
      pub first : IsStateLink bits l
      pub second : IsStateLink bits m
      pub maps : AreSameMaps (IsSameLines cmp h) first.bindings second.bindings
      pub sets : AreSameSets first.entries second.entries

    -- the link is a value of this sort
    abbrev pub IsValueOf : Values → ℕ → ℕ → Type 0
    IsValueOf Cells bits l = IsCellLink (form_at h) l
    IsValueOf Lines bits l = IsLines h l
    IsValueOf States bits l = IsStateLink bits l

    -- the links are the same value of this sort
    abbrev pub IsSameValue : Values → ℕ → ℕ → ℕ → Type 0
    IsSameValue Cells bits l m = IsSameCell cmp (form_at h) l m
    IsSameValue Lines bits l m = IsSameLines cmp h l m
    IsSameValue States bits l m = IsSameState bits l m
