use Rattle.pool_order.proofs.EnteredOnce.{order-is_listed}
use Rattle.pool_order.proofs.laws.enters_rows_once.Goals as goal

pub returns : goal.returns
returns c n L roots rank falls low = order-is_listed L rank falls n roots low
