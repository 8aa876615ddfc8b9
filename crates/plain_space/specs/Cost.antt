-- How many rows a command may add to the pool.
use Rattle.std.specs.Prelude.{ℕ, ◌+◌, ◌*◌, ◌==◌, List, length}
use Rattle.std.specs.List.{count_by}
use Rattle.std.specs.Option.{option_map_or}
use Rattle.std.specs.FinMap as map
use Rattle.elem_core.specs.Codes.{text_code, masked_code}
use Rattle.shell_terms.specs.Edit.{Bytes, PlainEdit, new, add, set, put, del, cat, cut, copy, drop, star, unstar, fill}
use Rattle.shell_terms.specs.Command.{Merging, join_buffers, PlainCommand, edit, merge, mark, unmark, back, undo, redo, «end», history}
use Rattle.plain_space.specs.Workspace.{State, Workspace, version_of}

-- How many of the names have the masked code of this one, itself included where it is among them.
abbrev pub alike : ℕ → List Bytes → Bytes → ℕ
alike bits names name =
    count_by (λ other. masked_code (text_code other) bits == masked_code (text_code name) bits) names

-- The same among the names of a state's buffers, and among its stars.
abbrev pub alike_buffers : ℕ → State → Bytes → ℕ
alike_buffers bits now name = alike bits (map.keys now.buffers) name

abbrev pub alike_stars : ℕ → State → Bytes → ℕ
alike_stars bits now name = alike bits (map.keys now.stars) name

-- And among the names of the versions.
abbrev pub alike_versions : ℕ → Workspace → Bytes → ℕ
alike_versions bits work version = alike bits (map.keys work.versions) version

-- The most rows that an edit adds: a number for its kind, one for each name that is alike in what is written, and two for each
-- line that comes from outside.
abbrev pub edit_cost : ℕ → PlainEdit → State → ℕ
edit_cost bits (new name) now = 256 + alike_buffers bits now name
edit_cost bits (add name text) now = 256 + alike_buffers bits now name
edit_cost bits (set name index text) now = 256 + alike_buffers bits now name
edit_cost bits (put name index text) now = 768 + alike_buffers bits now name
edit_cost bits (del name from to) now = 768 + alike_buffers bits now name
edit_cost bits (cat name other) now = 320 + alike_buffers bits now name
edit_cost bits (cut name from to other) now = 768 + (alike_buffers bits now name + alike_buffers bits now other)
edit_cost bits (copy name other) now = 256 + alike_buffers bits now other
edit_cost bits (drop name) now = 256 + alike_buffers bits now name
edit_cost bits (star name) now = 256 + alike_stars bits now name
edit_cost bits (unstar name) now = 256 + alike_stars bits now name
edit_cost bits (fill name lines) now = 256 + 2 * length lines + alike_buffers bits now name

-- How many stars two states have, or how many buffers, as a merge goes over them.
abbrev pub merge_size : Merging → State → State → ℕ
merge_size join_buffers now other = map.len now.buffers + map.len other.buffers
merge_size _ now other = map.len now.stars + map.len other.stars

-- The most rows that a merge adds: a number, and for each of these sixteen.
abbrev pub merge_cost : Merging → State → State → ℕ
merge_cost kind now other = 256 + 16 * merge_size kind now other

-- The same of every command. What only asks, begins or aborts adds none. Of the line
-- `read` the edit that it comes to is counted.
unfoldable pub cost : ℕ → PlainCommand → Workspace → ℕ
cost bits (edit change) work = edit_cost bits change work.current
cost bits (merge kind version) work = option_map_or (merge_cost kind work.current) (version_of work version) 0
cost bits (mark version) work = 64 + alike_versions bits work version
cost bits (unmark version) work = 64 + alike_versions bits work version
cost bits (back version) work = 256
cost bits undo work = 64
cost bits redo work = 256
cost bits end work = 256
cost bits (history count) work = 256
cost bits _ work = 0
