use Rattle.std.proofs.Common.{arith, ◌≡◌, ◌-◌, suc}
use Rattle.node_heap.specs.Heap.{links_at}
use Rattle.rrb_core.proofs.RowLists.{at-place}
use Rattle.same_value.proofs.PlaceLemmas.{lower-way}
use Rattle.same_value.proofs.places.lower.Goals as goal

pub returns-clause-way : goal.returns-clause-way
returns-clause-way g c = λ xs way.
    let up : suc (c.args.place.height - 1) ≡ c.args.place.height = omega (arith, c.requires.inner) in
    let spot = c.spot_of-spot.ensures in
    let at = at-place c.links.result.now (links_at c.args.heap.now c.args.place.link) c.spot_of-spot.result.place c.index-links-spot.result c.index-links-spot.is c.links.ensures.links spot.place in
    lower-way c.args.heap.now xs c.args.place (c.args.place.height - 1) c.spot_of-spot.result.place c.index-links-spot.result c.spot_of-spot.result.within up way spot.place at spot.inside spot.before
