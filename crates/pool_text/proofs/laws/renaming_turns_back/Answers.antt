use Rattle.pool_text.proofs.Renamed.{turn-back}
use Rattle.pool_text.proofs.laws.renaming_turns_back.Goals as goal

pub returns : goal.returns
returns g c f b G H l image back = turn-back f b G H l image back
