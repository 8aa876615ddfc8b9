use Rattle.std.proofs.Common.{arith, ◌+◌}
use Rattle.node_heap.specs.Heap.{form_at}
use Rattle.node_heap.proofs.BuildLemmas.{Builds-more}
use Rattle.rrb_core.specs.Vector.{height_at}
use Rattle.rrb_core.proofs.FillRule.{height-is}
use Rattle.rrb_core.proofs.EditLemmas.{takes-vector, takes-front, takes-none}
use Rattle.rrb_core.proofs.cut.front_root.Goals as goal

pub returns-then-count-eq0-clause-vector : goal.returns-then-count-eq0-clause-vector
returns-then-count-eq0-clause-vector g c = rw c.if-count-eq0.true c.empty_root.ensures.vector

pub returns-then-count-eq0-clause-low : goal.returns-then-count-eq0-clause-low
returns-then-count-eq0-clause-low g c = omega (arith, c.empty_root.ensures.flat)

pub returns-then-count-eq0-clause-rows : goal.returns-then-count-eq0-clause-rows
returns-then-count-eq0-clause-rows g c = rw c.if-count-eq0.true (takes-none c.empty_root.new.heap c.empty_root.result c.requires.root.good (omega (arith, c.requires.inside)) c.empty_root.ensures.flat)

pub returns-then-count-eq0-clause-builds : goal.returns-then-count-eq0-clause-builds
returns-then-count-eq0-clause-builds g c = Builds-more 0 (height_at c.empty_root.new.heap c.empty_root.result + 1) c.empty_root.ensures.builds (omega arith) (omega arith)

pub take_below-requires-clause-row : goal.take_below-requires-clause-row
take_below-requires-clause-row g c =
    record {
      graph = c.requires.root.graph;
      well = c.lowest_with-lowest.ensures.well;
      sums = c.lowest_with-lowest.ensures.sums;
      low = omega (arith, c.lowest_with-lowest.ensures.low, c.requires.root.good.shape.low);
      short = c.lowest_with-lowest.ensures.short;
      spare = omega (arith, c.lowest_with-lowest.ensures.low, c.requires.root.good.shape.low, c.requires.root.spare);
      holds = omega (arith, c.lowest_with-lowest.ensures.low, c.requires.root.good.shape.low, c.requires.root.holds);
    }

pub returns-clause-vector : goal.returns-clause-vector
returns-clause-vector g c =
    rw (← c.lowest_with-lowest.ensures.same) (takes-vector c.take_below.ensures.cut (omega (arith, c.lowest_with-lowest.ensures.low, c.requires.root.good.shape.low)) c.lowest_with-lowest.ensures.past c.lowest_with-lowest.ensures.inside c.lowest_with-lowest.ensures.short)

pub returns-clause-low : goal.returns-clause-low
returns-clause-low g c = rw (height-is (form_at c.take_below.new.heap) c.lowest_with-lowest.result.height c.take_below.result c.take_below.ensures.cut.edits.row.well) c.lowest_with-lowest.ensures.low

pub returns-clause-rows : goal.returns-clause-rows
returns-clause-rows g c = takes-front c.requires.root.good (omega (arith, c.requires.inside)) c.lowest_with-lowest.ensures.low c.lowest_with-lowest.ensures.inside c.lowest_with-lowest.ensures.edge c.take_below.ensures.cut c.take_below.ensures.all

pub returns-clause-builds : goal.returns-clause-builds
returns-clause-builds g c = Builds-more 0 (height_at c.take_below.new.heap c.take_below.result + 1) c.take_below.ensures.cut.edits.builds (omega arith) (omega (arith, height-is (form_at c.take_below.new.heap) c.lowest_with-lowest.result.height c.take_below.result c.take_below.ensures.cut.edits.row.well))
