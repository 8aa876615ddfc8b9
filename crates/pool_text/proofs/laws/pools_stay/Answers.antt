use Rattle.pool_text.proofs.Held.{pools-stay}
use Rattle.pool_text.proofs.laws.pools_stay.Goals as goal

pub returns : goal.returns
returns g c text old new roots settings graph graph' live keeps = pools-stay text old new roots settings graph graph' live keeps
