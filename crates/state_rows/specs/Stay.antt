-- What rows stand for depends on the rows that they reach alone.
use Rattle.std.specs.Prelude.{ℕ, List}
use Rattle.node_heap.specs.Heap.{Heap}
use Rattle.node_heap.specs.Calls.{KeepsBelow}
use Rattle.shell_terms.specs.Edit.{Bytes}
use Rattle.plain_space.specs.Workspace.{Named, State}
use Rattle.state_rows.specs.InHeap.{AreLinesIn, IsStateIn, AreVersionsIn, IsHistoryIn}

-- what the link stands for in the old heap it stands for in the new one
pub record StandsOn (old new : Heap Bytes) (bits l : ℕ) : Type 0 where
  pub lines : (xs : List Bytes) → AreLinesIn old bits l xs → AreLinesIn new bits l xs
  pub state : (s : State) → IsStateIn old bits l s → IsStateIn new bits l s
  pub versions : (m : Named State) → AreVersionsIn old bits l m → AreVersionsIn new bits l m
  pub history : (ss : List State) → IsHistoryIn old bits l ss → IsHistoryIn new bits l ss

-- a link stands for the same wherever all that it reaches is the same
abbrev pub StatesStay : Type 0
StatesStay = (old new : Heap Bytes) (bits l : ℕ) → KeepsBelow old new l → StandsOn old new bits l
