-- Inside: what is made of the room that an edit takes first.
use Rattle.std.specs.Prelude.{ℕ}
use Rattle.node_heap.specs.Heap.{Heap}
use Rattle.node_heap.specs.Calls.{Gains, KeepsToNeed, MakesWhatCame}

module _ {T : Type 0} where
  -- whatever gains rows from then on makes rows of spares, and leaves no more spare than so many cells and nodes, or than there were
  abbrev pub MakesOfRoom : ℕ → ℕ → Heap T → Heap T → Type 0
  MakesOfRoom cells nodes old mid = (later : Heap T) → Gains mid later → MakesWhatCame old later × KeepsToNeed old later cells nodes
