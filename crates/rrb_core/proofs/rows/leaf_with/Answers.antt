use Rattle.std.proofs.Common.{ap, arith}
use Rattle.node_heap.specs.Heap.{links_at}
use Rattle.node_heap.specs.Forms.{links_of}
use Rattle.rrb_core.specs.Edit.{links_with}
use Rattle.rrb_core.proofs.RowLists.{leaf-made}
use Rattle.rrb_core.proofs.Stays.{well-live}
use Rattle.rrb_core.proofs.EditLemmas.{around-length}
use Rattle.rrb_core.proofs.rows.leaf_with.Goals as goal

pub node_with-requires-clause-live : goal.node_with-requires-clause-live
node_with-requires-clause-live g c = well-live c.args.heap.now 0 c.args.link c.requires.row.well

pub returns-clause-edits : goal.returns-clause-edits
returns-clause-edits g c =
    let ks = links_at c.args.heap.now c.args.link in
    record {
      row = leaf-made c.node_with.new.heap c.node_with.result (links_with ks c.args.keep c.args.element c.args.skip) c.node_with.ensures.row (omega (arith, around-length ks c.args.keep c.args.skip c.args.element c.requires.keep, c.requires.few));
      builds = c.node_with.ensures.builds;
    }

pub returns-clause-links : goal.returns-clause-links
returns-clause-links g c = ap links_of c.node_with.ensures.row
