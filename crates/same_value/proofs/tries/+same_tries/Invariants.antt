use Rattle.std.proofs.Common.{ℕ, ◌-◌, ◌+◌, ◌*◌, ◌<◌, ◌≤◌, List, length, get_or}
use Rattle.elem_core.specs.declared.codes.TheConstants.{LEVELS}
use Rattle.node_heap.specs.Heap.{form_at}
use Rattle.node_heap.specs.Glass.{lent}
use Rattle.same_value.specs.Congruent.{Congruent}
use Rattle.same_value.proofs.TriePairs.{Apart}
use Rattle.same_value.proofs.tries.+same_tries.Given as goal

abbrev pub decreases-same_tries : goal.decreases-same_tries
decreases-same_tries g l = LEVELS - l.depth

abbrev pub invariant-loop-place : goal.invariant-loop-place
invariant-loop-place g l =
    ((i : ℕ) → l.entries ≤ i → i < l.place → Congruent (form_at (lent l.glass)) (g.C.Compares.same l.how (lent l.glass)) (get_or l.links i 0) (get_or l.others i 0))
    × (l.entries ≤ l.place)
    × (g.C.Compares.counted → (rows : List ℕ) × Apart (form_at (lent l.glass)) l.fn.left l.fn.right l.entries l.place l.links rows × (l.steps + 8 ≤ l.fn.steps + 204 * length rows))
