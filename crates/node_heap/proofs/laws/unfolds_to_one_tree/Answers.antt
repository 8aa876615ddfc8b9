use Rattle.std.proofs.Common.{suc, arith}
use Rattle.node_heap.specs.Heap.{row_at, form_at}
use Rattle.node_heap.proofs.Trees.{IsTree-same, IsTree-unfold, IsTree-unique, closed-forms, LeadsDown-forms, form-live}
use Rattle.node_heap.proofs.laws.unfolds_to_one_tree.Goals as goal

pub returns-clause-one : goal.returns-clause-one
returns-clause-one g c =
    let G = row_at c.args.heap.now in
    let forms = form_at c.args.heap.now in
    let graph = c.rows_form_a_graph.ensures in
    let rank = graph.rank in
    let unfolds = IsTree-unfold forms rank (LeadsDown-forms G rank graph.falls) (closed-forms G graph.closed) (suc (rank c.args.link)) c.args.link (omega arith) (form-live (G c.args.link) c.requires) in
    record {
      tree = _;
      unfolds = unfolds;
      only = λ t is. IsTree-unique forms c.args.link t _ is unfolds;
    }

pub returns-clause-reached : goal.returns-clause-reached
returns-clause-reached g c G G' l t same is = IsTree-same G G' l t same is
