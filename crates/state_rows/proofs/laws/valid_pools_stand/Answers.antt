use Rattle.state_rows.proofs.ValidSpace.{valid-stands}
use Rattle.state_rows.proofs.laws.valid_pools_stand.Goals as goal

pub returns : goal.returns
returns c rules P valid = valid-stands P valid
