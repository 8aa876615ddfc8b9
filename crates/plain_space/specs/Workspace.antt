-- The plain workspace: what a space stands for.
use Rattle.std.specs.Prelude.{ℕ, ◌-◌, ◌^◌, ◌≤◌, Bool, not, ◌&&◌, if◌then◌else◌, List, [], ◌∷◌, ◌++◌, Option, None, is_some, length, drop, map as each, nat_eq}
use Rattle.std.specs.Ordering.{nat_cmp}
use Rattle.std.specs.Cmp.Lexicographic.{slice_cmp}
use Rattle.std.specs.FinMap as map
use lib.Pointwise.{pointwise}
use Rattle.std.specs.List.{list_all}
use Rattle.shell_terms.specs.Edit.{Bytes}
use Rattle.shell_terms.specs.Command.{Merging, join_stars, common_stars, other_stars, join_buffers}

-- A finite map from names, in byte order.
abbrev pub Named : Type 0 → Type 0
Named X = map.FinMap (slice_cmp nat_cmp) X

-- A finite set of names, in byte order: a map with nothing at each name.
abbrev pub Names : Type 0
Names = Named (Unit {0})

-- A state: the buffers' lines by the buffers' names, and the names that are starred.
pub record State : Type 0 where
  pub buffers : Named (List Bytes)
  pub stars : Names

-- A workspace: the current state, the versions by their names, the states to undo and to redo, the last one last, the bound:
-- how many states undo keeps; and in a batch the base: the state at its begin.
pub record Workspace : Type 0 where
  pub current : State
  pub versions : Named State
  pub undo : List State
  pub redo : List State
  pub history : ℕ
  pub base : Option State

-- The most lines that a buffer may have, the most states that redo may hold, and the greatest bound of undo.
abbrev pub most : ℕ
most = 2 ^ 32 - 1

-- The state without buffers and stars.
abbrev pub blank : State
blank = record { buffers = map.empty; stars = map.empty }

-- The workspace of a new space: undo keeps as many states as it can.
abbrev pub start : Workspace
start = record { current = blank; versions = map.empty; undo = []; redo = []; history = most; base = None }

-- ## A state

-- The lines of the buffer, if there is one of this name.
abbrev pub lines_of : State → Bytes → Option (List Bytes)
lines_of state name = map.get state.buffers name

-- The state in which the buffer has these lines, made or replaced.
abbrev pub with_lines : State → Bytes → List Bytes → State
with_lines state name lines = record state { buffers = map.insert state.buffers name lines }

-- The state in which the buffer is gone.
abbrev pub without_lines : State → Bytes → State
without_lines state name = record state { buffers = map.remove state.buffers name }

-- Whether the name is starred.
abbrev pub is_starred : State → Bytes → Bool
is_starred state name = map.contains_key state.stars name

-- The state in which the name is starred.
abbrev pub with_star : State → Bytes → State
with_star state name = record state { stars = map.insert state.stars name tt }

-- The state in which the name isn't starred.
abbrev pub without_star : State → Bytes → State
without_star state name = record state { stars = map.remove state.stars name }

-- What the first has, and of the second what has other names.
abbrev pub joined : {X : Type 0} → Named X → Named X → Named X
joined one other = map.from_entries (map.entries one ++ map.entries other)

-- What the first has with names that the second has too.
abbrev pub in_common : {X Y : Type 0} → Named X → Named Y → Named X
in_common one other = map.retain_keys one (λ name. map.contains_key other name)

-- What the first has with names that the second hasn't.
abbrev pub apart_from : {X Y : Type 0} → Named X → Named Y → Named X
apart_from one other = map.retain_keys one (λ name. not (map.contains_key other name))

-- The state merged with that of a version.
abbrev pub merged_with : Merging → State → State → State
merged_with join_stars state version = record state { stars = joined state.stars version.stars }
merged_with common_stars state version = record state { stars = in_common state.stars version.stars }
merged_with other_stars state version = record state { stars = apart_from state.stars version.stars }
merged_with join_buffers state version = record state { buffers = joined state.buffers version.buffers }

-- The name of a buffer with the number of its lines.
abbrev pub size_of : Bytes × List Bytes → Bytes × ℕ
size_of buffer = (buffer.0, length buffer.1)

-- The names of the buffers with the numbers of their lines, in byte order.
abbrev pub sizes : State → List (Bytes × ℕ)
sizes state = each size_of (map.entries state.buffers)

-- Whether two texts are the same bytes.
abbrev pub same_text : Bytes → Bytes → Bool
same_text = pointwise nat_eq

-- Whether two lists have the same texts.
abbrev pub same_texts : List Bytes → List Bytes → Bool
same_texts = pointwise same_text

-- Whether two buffers have the same name and the same lines.
abbrev pub same_buffer : Bytes × List Bytes → Bytes × List Bytes → Bool
same_buffer one other = same_text one.0 other.0 && same_texts one.1 other.1

-- Whether two states have the same buffers and stars.
abbrev pub same_state : State → State → Bool
same_state one other =
    pointwise same_buffer (map.entries one.buffers) (map.entries other.buffers)
    && same_texts (map.keys one.stars) (map.keys other.stars)

-- ## A workspace

-- Whether a batch is open.
abbrev pub in_batch : Workspace → Bool
in_batch work = is_some work.base

-- The last so many of a list, which are all of it where it has no more.
abbrev pub last_of : {X : Type 0} → ℕ → List X → List X
last_of count xs = drop (length xs - count) xs

-- Undo with one more state at its end: of all these states the last ones stay, as many as the bound says.
abbrev pub undo_with : Workspace → State → List State
undo_with work state = last_of work.history (work.undo ++ state ∷ [])

-- Undo holds no more states than the bound says.
abbrev pub HasBoundedUndo : Workspace → Type 0
HasBoundedUndo work = length work.undo ≤ work.history

-- The states that the workspace keeps, beside the base of a batch.
abbrev pub states_of : Workspace → List State
states_of work = work.current ∷ (map.values work.versions ++ (work.undo ++ work.redo))

-- Whether each line of each of these states passes the test.
abbrev pub all_lines_pass : (Bytes → Bool) → Workspace → Bool
all_lines_pass test work = list_all (λ state. list_all (list_all test) (map.values state.buffers)) (states_of work)

-- The state of the version, if there is one of this name.
abbrev pub version_of : Workspace → Bytes → Option State
version_of work version = map.get work.versions version

-- The workspace with another current state. Outside a batch the old one goes to the end of undo, and redo is emptied.
abbrev pub with_current : Workspace → State → Workspace
with_current work next =
    if in_batch work
    then record work { current = next }
    else record work { current = next; undo = undo_with work work.current; redo = [] }
