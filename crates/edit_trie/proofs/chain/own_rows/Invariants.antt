use Rattle.std.proofs.Common.{List, length, take, ◌≤◌, Some}
use Rattle.node_heap.specs.Heap.{form_at}
use Rattle.node_heap.specs.InPlace.{child_at}
use Rattle.champ_chain.specs.Entry.{Entry}
use Rattle.champ_chain.specs.Chain.{AreChainRows}
use Rattle.edit_trie.specs.Chains.{OwnsRows}
use Rattle.edit_trie.proofs.chain.own_rows.Given as goal

abbrev pub invariant-loop-passed : goal.invariant-loop-passed
invariant-loop-passed g l = (es : List (Entry g.row.T.Denot)) → AreChainRows (form_at l.fn.heap) (Some (child_at l.fn.heap l.fn.first.row l.fn.first.index)) es → l.number ≤ length es
    → OwnsRows l.fn.heap l.heap l.fn.first.row l.fn.first.index (take l._passed es) l.slot.row l.slot.index
