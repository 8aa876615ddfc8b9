use Rattle.pool_text.specs.Rules.{present_rules}
use Rattle.pool_check.proofs.DamageLemmas.{open-rows-pass}
use Rattle.pool_check.proofs.tested.Tested.is_in_order.Goals as goal

pub rows_in_order-requires : goal.rows_in_order-requires
rows_in_order-requires c = (open-rows-pass present_rules c.self.inside.pool c.self.invariant.passes).lead_back
