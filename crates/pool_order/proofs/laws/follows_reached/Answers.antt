use Rattle.pool_order.proofs.Places.{order-same}
use Rattle.pool_order.proofs.laws.follows_reached.Goals as goal

pub returns : goal.returns
returns c n L M roots same = order-same n L M roots same
