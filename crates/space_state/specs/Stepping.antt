-- A step through undo and redo.
use Rattle.std.specs.Prelude.{◌≡◌, ◌<◌, List, length, false}
use Rattle.plain_space.specs.declared.refusal.Refusal.{Refusal}
use Rattle.plain_space.specs.Workspace.{State, Workspace, in_batch}
use Rattle.plain_space.specs.Refusing.{outside_batch, on_last}
use Rattle.plain_space.specs.Answer.{Answer}
use Rattle.space_state.specs.Turns.{IsDueBy}

-- a step can be made from these states: no batch is open, and there is one
pub record CanStep (from : List State) (W : Workspace) : Type 0 where
  pub outside : in_batch W ≡ false
  pub some : 0 < length from

-- no step can be made from these states, whatever it would come to, for a reason that is due and isn't want of memory
abbrev pub HasNoStep : List State → Workspace → Refusal → Type 0
HasNoStep from W why = (next : State → List State → Answer) → IsDueBy (outside_batch W (on_last from next)) ⊥ why
