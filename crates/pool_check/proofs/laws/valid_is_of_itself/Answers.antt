use Rattle.pool_check.proofs.OwnRows.{own-itself}
use Rattle.pool_check.proofs.laws.valid_is_of_itself.Goals as goal

pub returns : goal.returns
returns c = λ rules P valid. own-itself P valid
