-- The texts of cells.
use Rattle.std.specs.Prelude.{ℕ, [], IsSome, unwrap_or}
use Rattle.node_heap.specs.Forms.{Forms, value_of}
use Rattle.shell_terms.specs.Edit.{Bytes}

-- the text of the cell that the link names, and no bytes where it names none
abbrev pub text_at : Forms Bytes → ℕ → Bytes
text_at F l = unwrap_or (value_of (F l)) []

-- the link names a cell
abbrev pub NamesCell : Forms Bytes → ℕ → Type 0
NamesCell F l = IsSome (value_of (F l))
