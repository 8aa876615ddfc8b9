use Rattle.std.proofs.Common.{ℕ, suc, ◌+◌, ◌*◌, ◌-◌, ◌≤◌, List}
use Rattle.elem_core.specs.declared.codes.TheConstants.{DEEPEST}
use Rattle.node_heap.specs.Heap.{form_at, row_limit}
use Rattle.node_heap.specs.Forms.{Forms}
use Rattle.champ_chain.specs.Entry.{Entry}
use Rattle.champ_trie.specs.Trie.{code_by}
use Rattle.set_merge.specs.Merge.{merged}
use Rattle.set_merge.specs.Walk.{AreKept, AreSides, IsSpread}
use Rattle.set_merge.proofs.walk.+walk.Given as goal

abbrev pub decreases-rows_merged : goal.decreases-rows_merged
decreases-rows_merged g l = 3 * (DEEPEST - l.depth) + 2

abbrev pub decreases-merged_at : goal.decreases-merged_at
decreases-merged_at g l = 3 * (DEEPEST - l.depth) + 1

abbrev pub decreases-merged_below : goal.decreases-merged_below
decreases-merged_below g l = 3 * (DEEPEST - l.depth)

abbrev pub decreases-rows_merged-loop-position : goal.decreases-rows_merged-loop-position
decreases-rows_merged-loop-position g l = 32 - l.position

abbrev pub invariant-rows_merged-loop-position : goal.invariant-rows_merged-loop-position
invariant-rows_merged-loop-position g l =
    (l.position ≤ 32)
    × ((F : Forms g.row.T.Denot) (left : ℕ) (E D : List (Entry g.row.T.Denot)) → AreKept F (form_at l.initial.heap) → AreSides g.T.Ord.cmp (code_by g.T.Element.code_of l.bits) F (suc left) l.depth l.a l.b E D
    → IsSpread g.T.Ord.cmp (code_by g.T.Element.code_of l.bits) row_limit l.keeps F l.initial.heap l.heap left l.depth l.a l.b (merged g.T.Ord.cmp l.keeps E D) l.spread l.position)
