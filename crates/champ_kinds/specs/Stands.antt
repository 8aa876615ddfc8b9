-- Maps and sets whatever they hold: what one call hands to the next.
use Rattle.std.specs.Prelude.{ℕ, List}
use Rattle.std.specs.declared.cmp.Ordering.{Ordering}
use Rattle.node_heap.specs.Heap.{Heap}
use Rattle.champ_chain.specs.Entry.{Entry}
use Rattle.champ_kinds.specs.Root.{Root}
use Rattle.champ_kinds.specs.Binding.{Binding}
use Rattle.champ_kinds.specs.Kinds.{IsMapOf, IsSetOf}

module _ {T : Type 0} (cmp : T → T → Ordering) (code : T → ℕ) where
  -- the root is a map, and a set
  abbrev pub IsSomeMap : Heap T → Root → Type 0
  IsSomeMap h r = (M : List (Binding T)) × IsMapOf cmp code h r M

  abbrev pub IsSomeSet : Heap T → Root → Type 0
  IsSomeSet h r = (E : List (Entry T)) × IsSetOf cmp code h r E

  -- what was a map is one, and what was a set
  abbrev pub KeepsMaps : Heap T → Heap T → Type 0
  KeepsMaps old new = (r : Root) → IsSomeMap old r → IsSomeMap new r

  abbrev pub KeepsSets : Heap T → Heap T → Type 0
  KeepsSets old new = (r : Root) → IsSomeSet old r → IsSomeSet new r
