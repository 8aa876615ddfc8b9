use Rattle.pool_check.proofs.PoolLaws.{vector-roots-stand}
use Rattle.pool_check.proofs.laws.vector_roots_are_good.Goals as goal

pub returns : goal.returns
returns c = λ rules P l in_range pass h. vector-roots-stand rules P in_range pass l h
