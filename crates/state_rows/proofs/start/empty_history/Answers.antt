use Rattle.std.proofs.Common.{[], sym, subst}
use Rattle.node_heap.specs.Calls.{Answered}
use Rattle.node_heap.proofs.BuildLemmas.{Builds-node, Answered-Builds}
use Rattle.state_rows.specs.InHeap.{IsHistoryIn, IsStateIn}
use Rattle.state_rows.proofs.Empty.{vector-empty}
use Rattle.state_rows.proofs.start.empty_history.Goals as goal

pub returns-clause-answered : goal.returns-clause-answered
returns-clause-answered c =
    subst (λ l. Answered c.args.heap.now c.node.new.self [] l 0 1) (sym c.from_root.ensures)
    (Answered-Builds (Builds-node c.node.ensures.adds c.node.ensures.makes c.node.ensures.count c.node.ensures.graph c.node.ensures.extends))

pub returns-clause-history : goal.returns-clause-history
returns-clause-history c = λ bits.
    subst (λ l. IsHistoryIn c.node.new.self bits l []) (sym c.from_root.ensures)
    (vector-empty c.node.new.self c.node.result c.node.ensures.adds.here bits (IsStateIn c.node.new.self bits))
