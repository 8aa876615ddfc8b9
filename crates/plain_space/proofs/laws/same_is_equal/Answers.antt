use Rattle.plain_space.proofs.Equality.{same_texts-Decides, same_state-Decides}
use Rattle.plain_space.proofs.laws.same_is_equal.Goals as goal

pub returns : goal.returns
returns c = record { lines = same_texts-Decides; states = same_state-Decides }
