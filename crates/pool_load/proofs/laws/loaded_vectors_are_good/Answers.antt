use Rattle.pool_load.proofs.LoadedRoots.{vector-good}
use Rattle.pool_load.proofs.laws.loaded_vectors_are_good.Goals as goal

pub returns : goal.returns
returns g c h roots P r l loaded root down test = vector-good g.T.Stored.bytes_of h roots P loaded r l root down test
