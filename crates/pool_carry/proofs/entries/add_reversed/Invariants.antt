use Rattle.std.proofs.Common.{◌≡◌, ℕ, ◌++◌, map, Bor}
use Rattle.pool_carry.proofs.entries.add_reversed.Given as goal

abbrev pub invariant-loop-place : goal.invariant-loop-place
invariant-loop-place l = l.waiting.items ≡ l.fn.waiting.items ++ map (λ (place : Bor ℕ). place.now) l.yielded
