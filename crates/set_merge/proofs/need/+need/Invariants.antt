use Rattle.std.proofs.Common.{◌≡◌, ℕ, suc, ◌+◌, ◌*◌, ◌-◌, ◌≤◌}
use Rattle.elem_core.specs.declared.codes.TheConstants.{LEVELS}
use Rattle.node_heap.specs.Heap.{form_at, row_limit}
use Rattle.champ_trie.specs.Trie.{code_by}
use Rattle.set_merge.specs.Need.{sum_below}
use Rattle.set_merge.specs.Walk.{position_need}
use Rattle.set_merge.proofs.need.+need.Given as goal

abbrev pub decreases-rows_needed : goal.decreases-rows_needed
decreases-rows_needed g l = 2 * (LEVELS - l.depth) + 1

abbrev pub decreases-needed_at : goal.decreases-needed_at
decreases-needed_at g l = 2 * (LEVELS - l.depth)

abbrev pub decreases-rows_needed-loop-position : goal.decreases-rows_needed-loop-position
decreases-rows_needed-loop-position g l = 32 - l.position

abbrev pub invariant-rows_needed-loop-position : goal.invariant-rows_needed-loop-position
invariant-rows_needed-loop-position g l =
    (l.position ≤ 32)
    × ((left : ℕ) → l.depth + suc left ≡ LEVELS → l.rows ≡ 1 + sum_below l.position (position_need g.T.Ord.cmp (code_by g.T.Element.code_of l.bits) row_limit (form_at l.heap) l.keeps left l.depth l.a l.b))
