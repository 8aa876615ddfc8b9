-- The roots of a space, and what they stand for in its heap.
use Rattle.std.specs.Prelude.{◌≡◌, ℕ, ◌≤◌, List, [], ◌∷◌, ◌++◌, length}
use Rattle.elem_core.specs.declared.codes.TheConstants.{CODE_BITS}
use Rattle.node_heap.specs.Links.{count}
use Rattle.node_heap.specs.Heap.{holds_at, hold_count, IsGraph}
use Rattle.plain_space.specs.Workspace.{Workspace, most, HasBoundedUndo}
use Rattle.state_rows.specs.Standing.{HeapStandsFor}
use Rattle.space_state.specs.declared.roots.Batch.{Batch}
use Rattle.space_state.specs.declared.roots.Batch.TheVariants.{Closed, Open}
use Rattle.space_state.specs.declared.roots.Roots.{Roots}
use Rattle.space_state.specs.declared.roots.RootedHeap.{RootedHeap}

-- the base of an open batch
abbrev pub base_of : Batch → List ℕ
base_of Closed = []
base_of (Open l) = l ∷ []

-- the roots in the order of a pool: the current state, the versions, undo, redo and, in a batch, its base
abbrev pub root_list : Roots → List ℕ
root_list roots = roots.current ∷ roots.versions ∷ roots.undo ∷ roots.redo ∷ base_of roots.batch

-- this is the workspace's bound of undo; it is within the greatest, and undo fits it
abbrev pub IsBounded : ℕ → Workspace → Type 0
IsBounded history W = (W.history ≡ history) × (W.history ≤ most) × HasBoundedUndo W

-- the roots stand for the workspace, whose bound of undo the heap has, and they are all that is held but for these links
pub record Keeps (s : RootedHeap) (besides : List ℕ) (W : Workspace) : Type 0 where
  pub graph : IsGraph s.heap
  pub bits : s.bits ≤ CODE_BITS
  pub bounded : IsBounded s.history W
  pub stands : HeapStandsFor s.heap s.bits (root_list s.roots) W
  pub holds : (k : ℕ) → holds_at s.heap k ≡ count k (root_list s.roots ++ besides)
  pub total : hold_count s.heap ≡ length (root_list s.roots ++ besides)
