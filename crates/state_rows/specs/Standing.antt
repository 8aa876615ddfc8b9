-- What stands for a workspace: roots over forms, in a heap and in a pool.
use Rattle.std.specs.Prelude.{◌≡◌, ℕ, List, [], ◌∷◌, Option, Some, None}
use Rattle.node_heap.specs.Forms.{Forms}
use Rattle.node_heap.specs.Heap.{Heap, form_at}
use Rattle.rrb_core.specs.Seq.{IsWellShaped}
use Rattle.rrb_core.specs.Vector.{IsGoodVector}
use Rattle.pool_text.specs.Rules.{Rules, present_rules}
use Rattle.pool_text.specs.Pool.{forms_in}
use Rattle.pool_text.specs.declared.pool.Pool.{Pool}
use Rattle.shell_terms.specs.Edit.{Bytes}
use Rattle.plain_space.specs.Workspace.{State, Workspace}
use Rattle.state_rows.specs.Reading.{IsStateBy, AreVersionsBy, IsHistoryBy}

-- a base state is there in a batch alone, as the fifth root
abbrev pub IsBase : (ℕ → State → Type 0) → List ℕ → Option State → Type 0
IsBase IsIt [] None = Unit {0}
IsBase IsIt (l ∷ []) (Some now) = IsIt l now
IsBase IsIt _ _ = ⊥

-- the roots are the current state, the versions, undo and redo, and in a batch its base, by these rules. They say nothing of the
-- bound of undo.
abbrev pub StandForBy : Rules → Forms Bytes → (ℕ → Type 0) → ℕ → List ℕ → Workspace → Type 0
StandForBy rules F IsVector bits (c ∷ v ∷ u ∷ r ∷ base) W =
    IsStateBy rules F IsVector bits c W.current × AreVersionsBy rules F IsVector bits v W.versions × IsHistoryBy rules F IsVector bits u W.undo
    × IsHistoryBy rules F IsVector bits r W.redo × IsBase (IsStateBy rules F IsVector bits) base W.base
StandForBy rules F IsVector bits _ W = ⊥

-- the same by the rules by which pools are made
abbrev pub StandFor : Forms Bytes → (ℕ → Type 0) → ℕ → List ℕ → Workspace → Type 0
StandFor = StandForBy present_rules

-- the pool stands for the workspace by these rules: by its roots, and its history is the bound of undo
abbrev pub StandsForBy : Rules → Pool → Workspace → Type 0
StandsForBy rules P W = StandForBy rules (forms_in P) (IsWellShaped (forms_in P)) P.bits P.roots W × (W.history ≡ P.history)

-- the pool stands for the workspace by the rules by which pools are made
abbrev pub StandsFor : Pool → Workspace → Type 0
StandsFor P W = StandsForBy present_rules P W

-- the roots of a heap stand for the workspace, whatever the bound of undo
abbrev pub HeapStandsFor : Heap Bytes → ℕ → List ℕ → Workspace → Type 0
HeapStandsFor h bits roots W = StandFor (form_at h) (IsGoodVector h) bits roots W
