-- Spaces at the front of a text.
use Rattle.std.specs.Prelude.{ℕ, ◌==◌, ◌++◌, replicate, drop, min}
use Rattle.std.specs.List.{prefix_len}
use Rattle.pool_text.specs.Rows.{Bytes}

-- so many spaces before the text
abbrev pub indented : ℕ → Bytes → Bytes
indented n text = replicate n 32 ++ text

-- how many spaces the text begins with
abbrev pub leading : Bytes → ℕ
leading text = prefix_len (λ byte. byte == 32) text

-- the text without these, or without the first so many of them
abbrev pub dedented : ℕ → Bytes → Bytes
dedented n text = drop (min n (leading text)) text
