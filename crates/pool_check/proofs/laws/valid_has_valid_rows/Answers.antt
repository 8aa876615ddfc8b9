use Rattle.pool_check.proofs.PoolLaws.{valid-rows}
use Rattle.pool_check.proofs.laws.valid_has_valid_rows.Goals as goal

pub returns : goal.returns
returns c = λ rules P valid. valid-rows P valid
