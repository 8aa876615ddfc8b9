use Rattle.std.proofs.Common.{[], sym, subst}
use Rattle.std.specs.FinMap as map
use Rattle.node_heap.specs.Heap.{form_at}
use Rattle.node_heap.specs.Calls.{Answered}
use Rattle.rrb_core.specs.Vector.{IsGoodVector}
use Rattle.champ_kinds.specs.Root.{Root}
use Rattle.state_rows.specs.InHeap.{AreVersionsIn, IsStateIn}
use Rattle.state_rows.proofs.Empty.{named-empty}
use Rattle.state_rows.proofs.start.empty_versions.Goals as goal

pub returns-clause-answered : goal.returns-clause-answered
returns-clause-answered c =
    subst (λ (r : Root). Answered c.args.heap.now c.empty_trie.new.heap [] r.root 0 1) (sym c.from_root.ensures) c.empty_trie.ensures.answered

pub returns-clause-versions : goal.returns-clause-versions
returns-clause-versions c =
    subst (λ (r : Root). AreVersionsIn c.empty_trie.new.heap c.args.bits r.root map.empty) (sym c.from_root.ensures)
    (named-empty (form_at c.empty_trie.new.heap) (IsGoodVector c.empty_trie.new.heap) c.args.bits (IsStateIn c.empty_trie.new.heap c.args.bits) c.empty_trie.result (c.empty_trie.ensures.trie c.args.bits))
