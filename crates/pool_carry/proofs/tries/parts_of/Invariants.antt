use Rattle.std.proofs.Common.{◌≡◌, ℕ, take, length}
use Rattle.std.specs.Prelude.{slice_get, IfSome}
use Rattle.pool_carry.specs.Making.{with_digit}
use Rattle.pool_carry.proofs.tries.parts_of.Given as goal

abbrev pub invariant-loop-entry : goal.invariant-loop-entry
invariant-loop-entry l = (length l.parts.items ≡ 32) × ((p : ℕ) → IfSome (slice_get l.parts.items p) (λ part. part.items ≡ with_digit l.depth p (take l.entry-index l.entries)))
