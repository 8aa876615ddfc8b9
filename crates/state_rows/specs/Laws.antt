-- Laws of roots that stand for a workspace.
use Rattle.std.specs.Prelude.{◌≡◌, ℕ, ◌≤◌, List}
use Rattle.elem_core.specs.declared.codes.TheConstants.{CODE_BITS}
use Rattle.node_heap.specs.Heap.{Heap, IsGraph}
use Rattle.pool_text.specs.Pool.{settings_by, pool_at}
use Rattle.pool_text.specs.Renaming.{AreLive}
use Rattle.pool_text.specs.declared.pool.Pool.{Pool}
use Rattle.pool_text.specs.Rules.{Rules}
use Rattle.pool_check.specs.Damages.{IsValid, IsValidBy}
use Rattle.rrb_core.specs.Vector.{HaveSums}
use Rattle.shell_terms.specs.Edit.{Bytes}
use Rattle.plain_space.specs.Workspace.{Workspace, HasBoundedUndo}
use Rattle.state_rows.specs.Standing.{StandsForBy, StandsFor, HeapStandsFor}

-- roots of a heap that stand for a workspace, of which undo is within its bound, have a valid pool by that bound, which stands for it
-- too
abbrev pub PoolsStand : Type 0
PoolsStand =
    (h : Heap Bytes) (bits : ℕ) (roots : List ℕ) (W : Workspace) → IsGraph h → bits ≤ CODE_BITS → HasBoundedUndo W → HeapStandsFor h bits roots W
    → IsValid (pool_at (λ text. text) h roots (settings_by bits W.history)) × StandsFor (pool_at (λ text. text) h roots (settings_by bits W.history)) W

-- roots of a heap stand for a workspace where their pool does, and the inner rows below them keep their sums
abbrev pub RootsStand : Type 0
RootsStand =
    (h : Heap Bytes) (bits : ℕ) (roots : List ℕ) (W : Workspace) → IsGraph h → AreLive Bytes h roots → HaveSums h roots
    → StandsFor (pool_at (λ text. text) h roots (settings_by bits W.history)) W
    → HeapStandsFor h bits roots W

-- by whatever rules, a pool stands for one workspace
abbrev pub OneWorkspace : Type 0
OneWorkspace = (rules : Rules) (P : Pool) (V W : Workspace) → StandsForBy rules P V → StandsForBy rules P W → V ≡ W

-- and every pool that is valid by them stands for a workspace, of which undo is within its bound
abbrev pub ValidPoolsStand : Type 0
ValidPoolsStand = (rules : Rules) (P : Pool) → IsValidBy rules P → (W : Workspace) × StandsForBy rules P W × HasBoundedUndo W
