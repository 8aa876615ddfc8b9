-- What a borrowed line and a borrowed name show to contracts: their bytes.
use Rattle.std.specs.Prelude.{ℕ, List}
use Rattle.elem_core.specs.declared.words.Line.{Line}
use Rattle.elem_core.specs.declared.words.Name.{Name}

-- The bytes of a line.
abbrev pub line_bytes : Line → List ℕ
line_bytes line = line.text.now

-- The bytes of a name.
abbrev pub name_bytes : Name → List ℕ
name_bytes name = name.text.now
