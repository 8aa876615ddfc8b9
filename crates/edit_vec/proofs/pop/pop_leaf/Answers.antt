use Rattle.std.proofs.Common.{arith, length, ap}
use Rattle.edit_vec.proofs.PopLemmas.{pops-leaf, leaf-live, leaf-some}
use Rattle.edit_vec.proofs.pop.pop_leaf.Goals as goal

pub links-requires : goal.links-requires
links-requires g c = leaf-live c.requires.row

pub overflow_sub-last : goal.overflow_sub-last
overflow_sub-last g c = omega (arith, leaf-some c.args.heap.now c.args.row c.requires.some, ap length c.links.ensures.links)

pub remove_link-requires-clause-index : goal.remove_link-requires-clause-index
remove_link-requires-clause-index g c = omega (arith, leaf-some c.args.heap.now c.args.row c.requires.some, ap length c.links.ensures.links)

pub returns : goal.returns
returns g c = pops-leaf c.requires.row c.requires.some (omega (arith, ap length c.links.ensures.links)) c.remove_link.ensures.old c.remove_link.ensures.writes c.remove_link.ensures.changes c.remove_link.ensures.makes
