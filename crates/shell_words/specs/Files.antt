-- The files of a chain of documents.
use Rattle.std.specs.Prelude.{ℕ, ◌∷◌, ◌++◌}
use Rattle.std.specs.Fmt.{decimal}
use Rattle.shell_terms.specs.Edit.{Bytes}

-- The name of the partial document of this number behind a file: the file's, a full stop (46) and the number.
abbrev pub numbered : Bytes → ℕ → Bytes
numbered file number = file ++ 46 ∷ decimal number
