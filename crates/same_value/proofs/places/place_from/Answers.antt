use Rattle.same_value.proofs.PlaceLemmas.{root-way}
use Rattle.same_value.proofs.places.place_from.Goals as goal

pub loop-place-init : goal.loop-place-init
loop-place-init g c = root-way c.args.heap.now c.args.vector c.args.index c.root.result c.height.result c.requires.good c.root.ensures c.height.ensures.value c.requires.inside
