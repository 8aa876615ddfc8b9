use Rattle.std.proofs.Common.{◌-◌, length}
use Rattle.pool_load.proofs.Places.{below-front}
use Rattle.pool_load.proofs.lengths.inner_sums.Goals as goal

pub sum_of-before-requires-clause-places : goal.sum_of-before-requires-clause-places
sum_of-before-requires-clause-places c = below-front (length c.args.lengths.now) c.args.places.now (length c.args.places.now - 1) c.requires.places
