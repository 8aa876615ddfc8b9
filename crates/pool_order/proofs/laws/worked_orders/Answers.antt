use Rattle.std.proofs.Common.{refl}
use Rattle.pool_order.specs.Order.{order, places, listed}
use Rattle.pool_order.proofs.laws.worked_orders.Goals as goal

pub returns : goal.returns
unfolding order places listed
returns c = record { shared = refl; turned = refl; unreached = refl; later = refl; none = refl; doubling = refl }
