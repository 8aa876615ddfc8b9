use Rattle.pool_load.proofs.LoadedRoots.{rows-of-loaded}
use Rattle.pool_load.proofs.laws.loaded_roots_have_rows.Goals as goal

pub returns : goal.returns
returns g c h roots P loaded = rows-of-loaded g.T.Stored.bytes_of h roots P loaded
