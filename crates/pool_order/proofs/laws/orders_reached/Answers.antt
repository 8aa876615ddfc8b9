use Rattle.pool_order.proofs.Places.{order-is}
use Rattle.pool_order.proofs.laws.orders_reached.Goals as goal

pub returns : goal.returns
returns c n L roots rank falls low = order-is rank L falls n roots low
