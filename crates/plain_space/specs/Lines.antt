-- The lines of a workspace.
use Rattle.std.specs.Prelude.{◌≡◌, ℕ, List, Some, slice_get}
use Rattle.std.specs.FinMap as map
use Rattle.shell_terms.specs.Edit.{Bytes}
use Rattle.plain_space.specs.Workspace.{State, Workspace}

-- A state that the workspace keeps, beside the base of a batch.
pub data IsStateOf (work : Workspace) (now : State) : Type 0 where
  is_current : now ≡ work.current → IsStateOf work now
  is_version : (name : Bytes) → map.get work.versions name ≡ Some now → IsStateOf work now
  is_undone : (i : ℕ) → slice_get work.undo i ≡ Some now → IsStateOf work now
  is_redone : (i : ℕ) → slice_get work.redo i ≡ Some now → IsStateOf work now

-- A line of a buffer of the state.
pub record IsLineOf (now : State) (text : Bytes) : Type 0 where
  pub name : Bytes
  pub lines : List Bytes
  pub index : ℕ
  pub buffer : map.get now.buffers name ≡ Some lines
  pub line : slice_get lines index ≡ Some text

-- A line of some state of the workspace.
pub record IsLineIn (work : Workspace) (text : Bytes) : Type 0 where
  pub now : State
  pub state : IsStateOf work now
  pub line : IsLineOf now text
