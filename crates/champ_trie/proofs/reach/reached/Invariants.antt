use Rattle.std.proofs.Common.{List, ◌-◌}
use Rattle.elem_core.specs.declared.codes.TheConstants.{LEVELS}
use Rattle.node_heap.specs.Heap.{form_at}
use Rattle.champ_chain.specs.Entry.{Entry}
use Rattle.champ_trie.specs.Trie.{IsTrie, IsCanon, code_by}
use Rattle.champ_trie.specs.Reach.{agreeing}
use Rattle.champ_trie.proofs.reach.reached.Given as goal

abbrev pub invariant-loop-depth : goal.invariant-loop-depth
invariant-loop-depth g l =
    (E : List (Entry g.row.T.Denot)) → IsCanon g.T.Ord.cmp (code_by g.T.Element.code_of l.bits) (form_at l.heap) l.fn.root E
    → IsTrie g.T.Ord.cmp (code_by g.T.Element.code_of l.bits) (form_at l.heap) (LEVELS - l.depth) l.depth l.link (agreeing (code_by g.T.Element.code_of l.bits) l.depth l.code E)
