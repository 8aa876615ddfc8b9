use Rattle.champ_chain.proofs.RowLemmas.{rows-only, below-same}
use Rattle.champ_chain.proofs.laws.chains_are_read_one_way.Goals as goal

pub returns-clause-rows : goal.returns-clause-rows
returns-clause-rows g c = λ F l es ds a b. rows-only F l es ds a b

pub returns-clause-smaller : goal.returns-clause-smaller
returns-clause-smaller g c = below-same g.T.Ord.cmp g.met.T.Ord.total
