use Rattle.plain_space.proofs.Bounded.{answer-bound}
use Rattle.plain_space.proofs.laws.history_alone_sets_the_bound.Goals as goal

pub returns : goal.returns
returns c = answer-bound
