-- Laws of the plain answer.
use Rattle.std.specs.Prelude.{◌≡◌, ℕ, ◌+◌, ◌-◌, ◌<◌, ◌≤◌, Bool, not, ◌&&◌, ◌||◌, List, [], ◌∷◌, None, Some, length, Ok, Err, IsTrue}
use Rattle.std.specs.Bool.{Decides}
use Rattle.std.specs.Option.{option_or}
use Rattle.std.specs.FinMap as map
use Rattle.elem_core.specs.declared.TheConstants.{MAX_LINE}
use Rattle.plain_space.specs.declared.TheConstants.{MOST_SPACES}
use Rattle.plain_space.specs.declared.refusal.Refusal.TheVariants.{Range, Limit}
use Rattle.shell_terms.specs.Edit.{Bytes, PlainEdit, add, put}
use Rattle.shell_terms.specs.Command.{Merging, join_stars, common_stars, other_stars, join_buffers, PlainCommand, edit, merge, undo, history, indent}
use Rattle.plain_space.specs.Workspace.{State, Workspace, most, lines_of, is_starred, same_texts, same_state, in_batch, version_of, merged_with, all_lines_pass, last_of, HasBoundedUndo, with_current}
use Rattle.plain_space.specs.Lines.{IsLineIn}
use Rattle.plain_space.specs.Edited.{edited}
use Rattle.plain_space.specs.Answer.{tells, elsewhere, answer, done}

-- Outside a batch, where undo keeps a state at least, an undo takes an edit back: all is as it was but that redo has the edited
-- state alone, and that undo has lost the state for which the edit's took the place.
abbrev pub UndoTakesBack : Type 0
UndoTakesBack =
    (work : Workspace) (next : State) → work.base ≡ None → 1 ≤ work.history
    → answer (with_current work next) undo ≡ done (record work { undo = last_of (work.history - 1) work.undo; redo = next ∷ [] })

-- Undo stays within its bound: what a command leaves has no more states in undo than its bound says, where that was so before.
abbrev pub UndoStaysBounded : Type 0
UndoStaysBounded =
    (work after : Workspace) (command : PlainCommand) (reply : List Bytes) → HasBoundedUndo work
    → answer work command ≡ Ok (tells reply after) → HasBoundedUndo after

-- The bound of undo after a command that the workspace answers: the one that `history` names, and after any other the one that was.
abbrev pub bound_after : PlainCommand → ℕ → ℕ
bound_after (history count) bound = count
bound_after _ bound = bound

-- `history` alone changes the bound, of all commands that the workspace answers. A `load`, which it doesn't, brings its document's.
abbrev pub HistoryAloneSetsBound : Type 0
HistoryAloneSetsBound =
    (work after : Workspace) (command : PlainCommand) (reply : List Bytes)
    → answer work command ≡ Ok (tells reply after) → after.history ≡ bound_after command work.history

-- What is answered of a buffer that has the most lines, where a line is to be added or put.
pub record FullBuffer (now : State) (name text : Bytes) (index : ℕ) : Type 0 where
  pub no_add : edited now (add name text) ≡ Err Limit
  pub no_put : index ≤ most → edited now (put name index text) ≡ Err Limit
  pub range_first : most < index → edited now (put name index text) ≡ Err Range

-- A buffer with the most lines takes no further line.
abbrev pub FullLines : Type 0
FullLines =
    (now : State) (name text : Bytes) (index : ℕ) (lines : List Bytes) → lines_of now name ≡ Some lines → length lines ≡ most
    → FullBuffer now name text index

-- Where redo holds the most states, there is no undo outside a batch.
abbrev pub FullRedo : Type 0
FullRedo = (work : Workspace) → work.base ≡ None → length work.redo ≡ most → 1 ≤ length work.undo → answer work undo ≡ Err Limit

-- In a batch an edit changes the current state alone, and so does a merge.
pub record EditsInBatch : Type 0 where
  pub edits :
      (work : Workspace) (change : PlainEdit) (next : State) → IsTrue (in_batch work) → edited work.current change ≡ Ok next
      → answer work (edit change) ≡ done (record work { current = next })
  pub merges :
      (work : Workspace) (kind : Merging) (version : Bytes) (state : State) → IsTrue (in_batch work) → version_of work version ≡ Some state
      → answer work (merge kind version) ≡ done (record work { current = merged_with kind work.current state })

-- What has each name after a merge: what was joined has the state's own where both have the name, and what isn't merged stays.
pub record MergesByName : Type 0 where
  pub lines_stay :
      (now version : State) (name : Bytes)
      → (lines_of (merged_with join_stars now version) name ≡ lines_of now name)
      × (lines_of (merged_with common_stars now version) name ≡ lines_of now name)
      × (lines_of (merged_with other_stars now version) name ≡ lines_of now name)
  pub stars_stay : (now version : State) (name : Bytes) → is_starred (merged_with join_buffers now version) name ≡ is_starred now name
  pub stars_joined : (now version : State) (name : Bytes) → is_starred (merged_with join_stars now version) name ≡ (is_starred now name || is_starred version name)
  pub stars_common : (now version : State) (name : Bytes) → is_starred (merged_with common_stars now version) name ≡ (is_starred now name && is_starred version name)
  pub other_stars : (now version : State) (name : Bytes) → is_starred (merged_with other_stars now version) name ≡ (is_starred now name && not (is_starred version name))
  pub buffers_joined : (now version : State) (name : Bytes) → lines_of (merged_with join_buffers now version) name ≡ option_or (lines_of now name) (lines_of version name)

-- A merge with a state's equal changes nothing, but that no star is left of those which the other hasn't.
pub record MergesWithEqual : Type 0 where
  pub stars_joined : (now : State) → merged_with join_stars now now ≡ now
  pub stars_common : (now : State) → merged_with common_stars now now ≡ now
  pub no_stars : (now : State) → merged_with other_stars now now ≡ record now { stars = map.empty }
  pub buffers_joined : (now : State) → merged_with join_buffers now now ≡ now

-- All lines pass a test exactly where each line of each state does.
abbrev pub AllLinesPass : Type 0
AllLinesPass =
    (test : Bytes → Bool) (work : Workspace)
    → Decides (all_lines_pass test work) ((text : Bytes) → IsLineIn work text → IsTrue (test text))

-- Lines aren't moved by so many spaces where one of them, in whatever state, hasn't room for these. Else the store has the say.
pub record IndentNeedsRoom : Type 0 where
  pub too_long :
      (work : Workspace) (count : ℕ) (file text : Bytes) → work.base ≡ None → count ≤ MOST_SPACES → IsLineIn work text → MAX_LINE < length text + count
      → answer work (indent count file) ≡ Err Limit
  pub room :
      (work : Workspace) (count : ℕ) (file : Bytes) → work.base ≡ None → count ≤ MOST_SPACES
      → ((text : Bytes) → IsLineIn work text → length text + count ≤ MAX_LINE)
      → answer work (indent count file) ≡ Ok elsewhere

-- What is the same is equal, and what is equal is the same: of the lines of buffers, and of states.
pub record SameIsEqual : Type 0 where
  pub lines : (one other : List Bytes) → Decides (same_texts one other) (one ≡ other)
  pub states : (one other : State) → Decides (same_state one other) (one ≡ other)
