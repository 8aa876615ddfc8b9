use Rattle.plain_space.proofs.Bounded.{answer-bounded}
use Rattle.plain_space.proofs.laws.undo_stays_bounded.Goals as goal

pub returns : goal.returns
returns c = answer-bounded
