-- The lines of a file, or why its bytes have none.
use Rattle.std.specs.Prelude.{◌≡◌, ℕ, List, ⊤, Contains}
use Rattle.std.specs.Str.{IsUtf8}
use Rattle.std.specs.declared.result.Result.{Result}
use Rattle.std.specs.declared.result.Result.TheVariants.{Ok, Err}
use Rattle.shell_io.specs.Pieces.{pieces, IsOverlong}
use Rattle.shell_io.specs.declared.lines.LinesFault.{LinesFault}
use Rattle.shell_io.specs.declared.lines.LinesFault.TheVariants.{Long, Utf8, Memory}

-- a piece of the bytes is too long to be a line
abbrev pub HasOverlong : List ℕ → Type 0
HasOverlong bytes = (piece : List ℕ) × Contains (pieces bytes) piece × IsOverlong piece

-- why bytes have no lines: the first of these that holds
abbrev pub HasNoLines : List ℕ → LinesFault → Type 0
HasNoLines bytes Long = HasOverlong bytes
HasNoLines bytes Utf8 = (¬ HasOverlong bytes) × (¬ IsUtf8 bytes)
HasNoLines bytes Memory = ⊤

-- the lines of the bytes are their pieces, where none is too long and the bytes are UTF-8
abbrev pub HasLines : List ℕ → Result (List (List ℕ)) LinesFault → Type 0
HasLines bytes (Ok lines) = (lines ≡ pieces bytes) × (¬ HasOverlong bytes) × IsUtf8 bytes
HasLines bytes (Err fault) = HasNoLines bytes fault
