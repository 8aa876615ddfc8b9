use Rattle.std.proofs.Common.{◌≡◌, ◌+◌, length, take}
use Rattle.std.specs.Prelude.{sum_by, decimal}
use Rattle.pool_text.specs.Length.{capped}
use Rattle.pool_text.proofs.lengths.numbers_length.Given as goal

abbrev pub invariant-loop-number : goal.invariant-loop-number
invariant-loop-number l = l.sum ≡ capped (sum_by (λ n. length (decimal n) + 1) (take l.number-index l.numbers))
