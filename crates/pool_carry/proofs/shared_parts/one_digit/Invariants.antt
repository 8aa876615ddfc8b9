use Rattle.std.proofs.Common.{◌≡◌, take}
use Rattle.std.specs.List.{All}
use Rattle.elem_core.specs.Codes.{digit_at}
use Rattle.pool_carry.proofs.shared_parts.one_digit.Given as goal

abbrev pub invariant-loop-entry : goal.invariant-loop-entry
invariant-loop-entry l = All (λ e. digit_at e.code 0 ≡ l.first) (take l.entry-index l.entries)
