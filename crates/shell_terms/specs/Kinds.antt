-- What kinds of commands there are.
use Rattle.std.specs.Prelude.{Bool, true, false}
use Rattle.shell_terms.specs.Command.{PlainCommand, edit, merge, mark, unmark, back, undo, redo, begin, «end», abort, history, get, len, show, list, stars, marks, same, eqv, stats, made, read, write, save, load, part, chain, indent, dedent, quit}

-- What a command does. It looks at the space, or lists what is there by its names; it changes the space alone, or opens a batch or
-- gives it up; or it uses the store.
pub data CommandKind : Type 0 where
  looks : CommandKind
  lists : CommandKind
  changes : CommandKind
  batches : CommandKind
  stores : CommandKind

-- Each command's kind.
abbrev pub kind_of : PlainCommand → CommandKind
kind_of (edit change) = changes
kind_of (merge kind version) = changes
kind_of (mark version) = changes
kind_of (unmark version) = changes
kind_of (back version) = changes
kind_of undo = changes
kind_of redo = changes
kind_of begin = batches
kind_of end = changes
kind_of abort = batches
kind_of (history count) = changes
kind_of (get name index) = looks
kind_of (len name) = looks
kind_of (show name from to) = looks
kind_of list = lists
kind_of stars = lists
kind_of marks = lists
kind_of (same name other) = looks
kind_of (eqv version other) = looks
kind_of stats = looks
kind_of made = looks
kind_of (read name file) = stores
kind_of (write name file) = stores
kind_of (save file) = stores
kind_of (load file) = stores
kind_of (part file number) = stores
kind_of (chain file number) = stores
kind_of (indent count file) = stores
kind_of (dedent count file) = stores
kind_of quit = looks

-- Whether commands of the kind only ask.
abbrev pub is_asking : CommandKind → Bool
is_asking looks = true
is_asking lists = true
is_asking _ = false

-- Whether they use the store.
abbrev pub is_storing : CommandKind → Bool
is_storing stores = true
is_storing _ = false

-- Whether they may want memory: not to look, to begin a batch or to give it up.
abbrev pub may_want_memory : CommandKind → Bool
may_want_memory looks = false
may_want_memory batches = false
may_want_memory _ = true

-- The same of a command.
abbrev pub only_asks : PlainCommand → Bool
only_asks command = is_asking (kind_of command)

abbrev pub uses_store : PlainCommand → Bool
uses_store command = is_storing (kind_of command)

abbrev pub wants_memory : PlainCommand → Bool
wants_memory command = may_want_memory (kind_of command)
