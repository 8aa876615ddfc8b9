use Rattle.std.proofs.Common.{ℕ, ◌*◌, ◌+◌, ◌<◌, ◌≤◌, get_or}
use Rattle.node_heap.specs.Glass.{lent}
use Rattle.same_value.proofs.tries.same_in_turn.Given as goal

abbrev pub invariant-loop-place : goal.invariant-loop-place
invariant-loop-place g l =
    ((i : ℕ) → i < l.place → g.C.Compares.same l.how (lent l.glass) (get_or l.links i 0) (get_or l.others i 0)) × (g.C.Compares.counted → l.steps ≤ l.initial.steps + 6 * l.place)
