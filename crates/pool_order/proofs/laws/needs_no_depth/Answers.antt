use Rattle.pool_order.proofs.Places.{order-deep}
use Rattle.pool_order.proofs.laws.needs_no_depth.Goals as goal

pub returns : goal.returns
returns c n m L roots rank falls low low' = order-deep rank L falls n m roots low low'
