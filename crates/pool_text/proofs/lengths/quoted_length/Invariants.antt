use Rattle.std.proofs.Common.{◌≡◌, ◌+◌, length, take}
use Rattle.std.specs.Prelude.{sum_by}
use Rattle.json.specs.Print.{escape_byte}
use Rattle.pool_text.specs.Length.{capped}
use Rattle.pool_text.proofs.lengths.quoted_length.Given as goal

abbrev pub invariant-loop-byte : goal.invariant-loop-byte
invariant-loop-byte l = l.sum ≡ capped (2 + sum_by (λ b. length (escape_byte b)) (take l.byte-index l.fn.text))
