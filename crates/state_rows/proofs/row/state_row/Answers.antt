use Rattle.std.proofs.Common.{ap, option_map}
use Rattle.node_heap.specs.Forms.{form_of}
use Rattle.node_heap.proofs.BuildLemmas.{Builds-node, Answered-Builds}
use Rattle.state_rows.proofs.Staying.{buffers-grown, names-grown}
use Rattle.state_rows.proofs.row.state_row.Goals as goal

pub returns-clause-answered : goal.returns-clause-answered
returns-clause-answered c = Answered-Builds (Builds-node c.node.ensures.adds c.node.ensures.makes c.node.ensures.count c.node.ensures.graph c.node.ensures.extends)

pub returns-clause-state : goal.returns-clause-state
returns-clause-state c = λ bits s buffers stars.
    let more = c.node.ensures.extends in
    record {
      buffers = c.args.buffers;
      stars = c.args.stars;
      row = ap (option_map form_of) c.node.ensures.adds.here;
      buffers_are = buffers-grown c.args.heap.now c.node.new.self more bits c.args.buffers s.buffers buffers;
      stars_are = names-grown c.args.heap.now c.node.new.self more bits c.args.stars s.stars stars;
    }
