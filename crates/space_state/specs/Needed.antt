-- For how many cells and how many nodes a command makes room, of which it makes no more.
use Rattle.std.specs.Prelude.{ℕ, ◌+◌, ◌*◌, ◌/◌, [], length, Result, IfOk}
use Rattle.std.specs.Option.{option_map_or}
use Rattle.elem_core.specs.declared.codes.TheConstants.{LEVELS}
use Rattle.node_heap.specs.Calls.{KeepsToNeed}
use Rattle.shell_terms.specs.Edit.{Bytes, PlainEdit, new, add, set, put, del, cat, cut, copy, drop, star, unstar, fill}
use Rattle.shell_terms.specs.Command.{Merging, PlainCommand, edit, merge, mark, unmark, back, undo, redo, «end», history}
use Rattle.plain_space.specs.declared.refusal.Refusal.{Refusal}
use Rattle.plain_space.specs.Workspace.{State, Workspace, version_of}
use Rattle.plain_space.specs.Cost.{alike_buffers, alike_stars, alike_versions, merge_size}
use Rattle.space_state.specs.declared.undo_redo.TheConstants.{UNDO_NODES, REDO_NODES, HISTORY_NODES}
use Rattle.space_state.specs.declared.line_edits.TheConstants.{IN_PLACE_NODES}
use Rattle.space_state.specs.declared.room.TheConstants.{EDIT_NODES}
use Rattle.space_state.specs.declared.undo_end.TheConstants.{TURN_NODES}
use Rattle.space_state.specs.declared.roots.RootedHeap.{RootedHeap}
use Rattle.space_state.specs.Roots.{Keeps}

-- the cells of an edit
abbrev pub edit_cells : PlainEdit → ℕ
edit_cells (new name) = 1
edit_cells (add name text) = 1
edit_cells (set name index text) = 1
edit_cells (fill name lines) = length lines + 1
edit_cells _ = 2

-- its nodes: a number for its kind, one for each name that is alike in what is written, and those of a vector of the lines that come
-- from outside
abbrev pub edit_nodes : ℕ → PlainEdit → State → ℕ
edit_nodes bits (new name) now = IN_PLACE_NODES + TURN_NODES + alike_buffers bits now name
edit_nodes bits (add name text) now = IN_PLACE_NODES + TURN_NODES + alike_buffers bits now name
edit_nodes bits (set name index text) now = IN_PLACE_NODES + TURN_NODES + alike_buffers bits now name
edit_nodes bits (put name index text) now = EDIT_NODES + alike_buffers bits now name
edit_nodes bits (del name from to) now = EDIT_NODES + alike_buffers bits now name
edit_nodes bits (cat name other) now = EDIT_NODES + alike_buffers bits now name
edit_nodes bits (cut name from to other) now = EDIT_NODES + (alike_buffers bits now name + alike_buffers bits now other)
edit_nodes bits (copy name other) now = EDIT_NODES + alike_buffers bits now other
edit_nodes bits (drop name) now = EDIT_NODES + alike_buffers bits now name
edit_nodes bits (star name) now = EDIT_NODES + alike_stars bits now name
edit_nodes bits (unstar name) now = EDIT_NODES + alike_stars bits now name
edit_nodes bits (fill name lines) now = EDIT_NODES + (length lines / 16 + 8) + alike_buffers bits now name

-- the nodes of a merge with a version: a row of each depth for each star of the two states, or each buffer, and one
abbrev pub merge_nodes : Merging → Workspace → Bytes → ℕ
merge_nodes kind work version = option_map_or (λ other. LEVELS * merge_size kind work.current other + 1) (version_of work version) 0

-- the same of every command
abbrev pub cells_needed : PlainCommand → ℕ
cells_needed (edit change) = edit_cells change
cells_needed (merge kind version) = 2
cells_needed (mark version) = 2
cells_needed (unmark version) = 2
cells_needed _ = 0

abbrev pub nodes_needed : ℕ → PlainCommand → Workspace → ℕ
nodes_needed bits (edit change) work = edit_nodes bits change work.current
nodes_needed bits (merge kind version) work = EDIT_NODES + merge_nodes kind work version
nodes_needed bits (mark version) work = EDIT_NODES + alike_versions bits work version
nodes_needed bits (unmark version) work = EDIT_NODES + alike_versions bits work version
nodes_needed bits (back version) work = TURN_NODES
nodes_needed bits undo work = UNDO_NODES
nodes_needed bits redo work = REDO_NODES
nodes_needed bits end work = TURN_NODES
nodes_needed bits (history count) work = HISTORY_NODES
nodes_needed bits _ work = 0

-- on Ok a command hoards no room: the rows and the spares of each kind are together no more than the old rows and the old spares, or
-- than the old rows and what the command needs, whichever is more
abbrev pub HoardsNone : PlainCommand → RootedHeap → Result (Unit {0}) Refusal → RootedHeap → Type 0
HoardsNone command before result after =
    (W : Workspace) → Keeps before [] W → IfOk result (λ _. KeepsToNeed before.heap after.heap (cells_needed command) (nodes_needed before.bits command W))
