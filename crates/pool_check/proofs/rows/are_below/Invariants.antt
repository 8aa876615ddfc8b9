use Rattle.std.proofs.Common.{◌≡◌, true, take, ltb}
use Rattle.std.specs.List.{list_all}
use Rattle.pool_check.proofs.rows.are_below.Given as goal

abbrev pub invariant-loop-link : goal.invariant-loop-link
invariant-loop-link l = list_all (λ k. ltb k l.fn.bound) (take l.link-index l.fn.links) ≡ true
