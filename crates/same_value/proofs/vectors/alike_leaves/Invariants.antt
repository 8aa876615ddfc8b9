use Rattle.std.proofs.Common.{ℕ, ◌<◌, get_or}
use Rattle.node_heap.specs.Heap.{form_at}
use Rattle.same_value.specs.Cells.{IsSameCell}
use Rattle.same_value.proofs.vectors.alike_leaves.Given as goal

abbrev pub invariant-loop-place : goal.invariant-loop-place
invariant-loop-place g l = (i : ℕ) → i < l.place → IsSameCell g.T.Ord.cmp (form_at l.heap) (get_or l.links i 0) (get_or l.others i 0)
