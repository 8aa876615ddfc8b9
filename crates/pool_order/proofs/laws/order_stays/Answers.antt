use Rattle.pool_order.proofs.Stays.{order-stays}
use Rattle.pool_order.proofs.laws.order_stays.Goals as goal

pub returns : goal.returns
returns g c old new roots graph graph' live keeps = order-stays old new roots graph graph' live keeps
