use Rattle.node_heap.proofs.BuildLemmas.{Builds-hold}
use Rattle.rrb_core.specs.Vector.{height_at}
use Rattle.rrb_core.proofs.Stays.{well-live, extended-same}
use Rattle.rrb_core.proofs.flex.FlexRef.share.Goals as goal

pub hold-requires-clause-live : goal.hold-requires-clause-live
hold-requires-clause-live g c = rw c.self.view_is (well-live c.args.heap.now (height_at c.args.heap.now c.args.self.now) c.args.self.now c.requires.good.shape.well)

pub returns-clause-shares : goal.returns-clause-shares
returns-clause-shares g c = record { rows = c.hold.ensures.rows; builds = Builds-hold c.hold.ensures.holds c.hold.ensures.makes c.hold.ensures.count c.hold.ensures.graph c.hold.ensures.extends }

pub returns-clause-vectors : goal.returns-clause-vectors
returns-clause-vectors g c = extended-same c.hold.ensures.extends
