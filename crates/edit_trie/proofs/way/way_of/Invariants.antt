use Rattle.std.proofs.Common.{◌≡◌, ℕ, ◌-◌, List, true}
use Rattle.elem_core.specs.declared.codes.TheConstants.{LEVELS}
use Rattle.node_heap.specs.Heap.{form_at, owners_at}
use Rattle.champ_chain.specs.Entry.{Entry}
use Rattle.champ_trie.specs.Trie.{IsTrie, IsCanon, code_by}
use Rattle.champ_trie.specs.Reach.{agreeing}
use Rattle.edit_trie.specs.Way.{IsSoleWay}
use Rattle.edit_trie.proofs.way.way_of.Given as goal

abbrev pub invariant-loop-depth : goal.invariant-loop-depth
invariant-loop-depth g l =
    (l.sole ≡ true → (owners_at l.heap l.fn.root ≡ 1) × IsSoleWay l.heap l.fn.root l.code l.depth l.row)
    × ((bits : ℕ) (E : List (Entry g.row.T.Denot)) → IsCanon g.T.Ord.cmp (code_by g.T.Element.code_of bits) (form_at l.heap) l.fn.root E
    → IsTrie g.T.Ord.cmp (code_by g.T.Element.code_of bits) (form_at l.heap) (LEVELS - l.depth) l.depth l.row (agreeing (code_by g.T.Element.code_of bits) l.depth l.code E))
