-- The edits of the shell, as its definitions see them.
use Rattle.std.specs.Prelude.{ℕ, List}

-- A text or a name, as its bytes.
abbrev pub Bytes : Type 0
Bytes = List ℕ

-- What changes the buffers or the stars: an edit with its names, numbers and texts, in the order of the line. To read a
-- file is to fill a buffer: the file's lines stand in place of its name.
pub data PlainEdit : Type 0 where
  new : (name : Bytes) → PlainEdit
  add : (name text : Bytes) → PlainEdit
  set : (name : Bytes) (index : ℕ) (text : Bytes) → PlainEdit
  put : (name : Bytes) (index : ℕ) (text : Bytes) → PlainEdit
  del : (name : Bytes) (from to : ℕ) → PlainEdit
  cat : (name other : Bytes) → PlainEdit
  cut : (name : Bytes) (from to : ℕ) (other : Bytes) → PlainEdit
  copy : (name other : Bytes) → PlainEdit
  drop : (name : Bytes) → PlainEdit
  star : (name : Bytes) → PlainEdit
  unstar : (name : Bytes) → PlainEdit
  fill : (name : Bytes) (lines : List Bytes) → PlainEdit
