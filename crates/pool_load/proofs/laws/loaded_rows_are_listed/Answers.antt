use Rattle.pool_load.proofs.LoadedRoots.{rows-listed}
use Rattle.pool_load.proofs.laws.loaded_rows_are_listed.Goals as goal

pub returns : goal.returns
returns g c h roots P loaded = rows-listed g.T.Stored.bytes_of h roots P loaded
