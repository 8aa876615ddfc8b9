use Rattle.std.proofs.Common.{◌+◌, ap, arith}
use Rattle.node_heap.specs.Heap.{links_at}
use Rattle.node_heap.specs.Forms.{links_of}
use Rattle.rrb_core.specs.Edit.{links_with}
use Rattle.rrb_core.proofs.RowLists.{inner-made}
use Rattle.rrb_core.proofs.Stays.{live-stays}
use Rattle.rrb_core.proofs.EditLemmas.{around-length}
use Rattle.rrb_core.proofs.rows.placed_with.Goals as goal

pub returns : goal.returns
returns g c =
    let can = c.requires.place in
    let made = c.node_with.ensures in
    let ks = links_at c.args.heap.now c.args.link in
    let size = around-length ks c.args.keep c.args.skip c.args.child can.keep_in in
    record {
      row = inner-made c.node_with.new.heap c.args.heap.now c.args.below c.node_with.result (c.args.below + 1) c.args.sums (links_with ks c.args.keep c.args.child c.args.skip)
          (live-stays can.graph made.builds.extends) can.rows c.requires.sums (omega (arith, size)) (omega (arith, size, can.few)) (omega arith) made.row;
      links = ap links_of made.row;
      builds = made.builds;
    }
