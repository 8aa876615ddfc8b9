use Rattle.pool_check.proofs.VectorReadings.{vector-reads-the-same}
use Rattle.pool_check.proofs.laws.vectors_read_the_same.Goals as goal

pub returns : goal.returns
returns g c f G H l image = vector-reads-the-same f G H _ l image
