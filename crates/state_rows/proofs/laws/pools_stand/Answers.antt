use Rattle.state_rows.proofs.HeapPools.{pool-stands}
use Rattle.state_rows.proofs.laws.pools_stand.Goals as goal

pub returns : goal.returns
returns c h bits roots W graph few fits stands = pool-stands h bits roots W graph stands few fits
