use Rattle.pool_check.proofs.DamageLemmas.{undamaged-valid, valid-undamaged}
use Rattle.pool_check.proofs.laws.undamaged_is_valid.Goals as goal

pub returns : goal.returns
returns c = λ rules P. (undamaged-valid P, valid-undamaged P)
