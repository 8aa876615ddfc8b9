-- The commands of the shell, as its definitions see them.
use Rattle.std.specs.Prelude.{ℕ}
use Rattle.shell_terms.specs.Edit.{Bytes, PlainEdit}

-- What a merge with a version makes of the current state: the stars of both, those that both have, or those that the version hasn't;
-- or the buffers of both, by their names.
pub data Merging : Type 0 where
  join_stars : Merging
  common_stars : Merging
  other_stars : Merging
  join_buffers : Merging

-- What a line of the shell asks for: a command with its names, numbers and texts, in the order of the line.
pub data PlainCommand : Type 0 where
  edit : (change : PlainEdit) → PlainCommand
  merge : (kind : Merging) (version : Bytes) → PlainCommand
  mark : (version : Bytes) → PlainCommand
  unmark : (version : Bytes) → PlainCommand
  back : (version : Bytes) → PlainCommand
  undo : PlainCommand
  redo : PlainCommand
  begin : PlainCommand
  «end» : PlainCommand
  abort : PlainCommand
  history : (count : ℕ) → PlainCommand
  get : (name : Bytes) (index : ℕ) → PlainCommand
  len : (name : Bytes) → PlainCommand
  show : (name : Bytes) (from to : ℕ) → PlainCommand
  list : PlainCommand
  stars : PlainCommand
  marks : PlainCommand
  same : (name other : Bytes) → PlainCommand
  eqv : (version other : Bytes) → PlainCommand
  stats : PlainCommand
  made : PlainCommand
  read : (name file : Bytes) → PlainCommand
  write : (name file : Bytes) → PlainCommand
  save : (file : Bytes) → PlainCommand
  load : (file : Bytes) → PlainCommand
  part : (file : Bytes) (number : ℕ) → PlainCommand
  chain : (file : Bytes) (number : ℕ) → PlainCommand
  indent : (count : ℕ) (file : Bytes) → PlainCommand
  dedent : (count : ℕ) (file : Bytes) → PlainCommand
  quit : PlainCommand
