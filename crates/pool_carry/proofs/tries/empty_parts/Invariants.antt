use Rattle.std.proofs.Common.{◌≡◌, ℕ, [], length}
use Rattle.std.specs.Prelude.{slice_get, IfSome}
use Rattle.pool_carry.proofs.tries.empty_parts.Given as goal

abbrev pub invariant-loop-position : goal.invariant-loop-position
invariant-loop-position l = (length l.parts.items ≡ l._position) × ((p : ℕ) → IfSome (slice_get l.parts.items p) (λ part. part.items ≡ []))
