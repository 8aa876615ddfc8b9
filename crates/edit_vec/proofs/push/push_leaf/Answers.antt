use Rattle.std.proofs.Common.{ap, length}
use Rattle.rrb_core.proofs.Stays.{well-live}
use Rattle.edit_vec.proofs.StepLemmas.{well-node}
use Rattle.edit_vec.proofs.PushLemmas.{pushes-leaf}
use Rattle.edit_vec.proofs.push.push_leaf.Goals as goal

pub links-count-requires : goal.links-count-requires
links-count-requires g c = well-live c.args.heap.now 0 c.args.row c.requires.row.well

pub insert_link-requires-clause-node : goal.insert_link-requires-clause-node
insert_link-requires-clause-node g c = well-node c.args.heap.now 0 c.args.row c.requires.row.well

pub returns : goal.returns
returns g c = pushes-leaf c.requires.row c.requires.room (ap length c.links-count.ensures.links) c.insert_link.ensures.writes c.insert_link.ensures.changes c.insert_link.ensures.makes
