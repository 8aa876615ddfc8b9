use Rattle.pool_load.proofs.Fits.{loaded-fits}
use Rattle.pool_load.proofs.laws.loaded_roots_fit.Goals as goal

pub returns : goal.returns
returns g c h roots P r l loaded root down = loaded-fits g.T.Stored.bytes_of h roots P loaded r l root down
