use Rattle.std.proofs.Common.{◌↔◌, ◌+◌, ◌*◌, ◌≤◌, length}
use Rattle.node_heap.specs.Heap.{form_at}
use Rattle.node_heap.specs.Glass.{lent}
use Rattle.champ_trie.specs.Walk.{rows_from, depth_of}
use Rattle.same_value.specs.Congruent.{Congruent, IsChainFrom}
use Rattle.same_value.proofs.ChainRows.{Passed}
use Rattle.same_value.proofs.chains.same_chains.Given as goal

abbrev pub decreases-loop-left_row : goal.decreases-loop-left_row
decreases-loop-left_row g l = length (rows_from (depth_of (lent l.glass)) (form_at (lent l.glass)) l.left_row)

abbrev pub invariant-loop-left_row : goal.invariant-loop-left_row
invariant-loop-left_row g l =
    (first : IsChainFrom g.T.Ord.cmp (form_at (lent l.glass)) (g.C.Compares.good l.how (lent l.glass)) l.fn.left)
    → (second : IsChainFrom g.T.Ord.cmp (form_at (lent l.glass)) (g.C.Compares.good l.how (lent l.glass)) l.fn.right)
    → (p : Passed g.T.Ord.cmp g.met.T.Ord.total (form_at (lent l.glass)) l.fn.left l.fn.right first.entries second.entries l.left_row l.right_row)
    × (Congruent (form_at (lent l.glass)) (g.C.Compares.same l.how (lent l.glass)) l.fn.left l.fn.right ↔ Congruent (form_at (lent l.glass)) (g.C.Compares.same l.how (lent l.glass)) l.left_row l.right_row)
    × (g.C.Compares.counted → l.steps ≤ l.fn.steps + 204 * length p.rows)
