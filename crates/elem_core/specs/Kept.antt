-- What a text keeps.
use Rattle.std.specs.Prelude.{ℕ, List}
use Rattle.std.specs.String.{string_bytes}
use Rattle.elem_core.specs.declared.kept.Kept.{Kept}
use Rattle.elem_core.specs.declared.kept.Kept.TheVariants.{Short, Long}

-- The bytes of a text, wherever they lie.
abbrev pub kept_bytes : Kept → List ℕ
kept_bytes (Short text) = text
kept_bytes (Long text) = string_bytes text
