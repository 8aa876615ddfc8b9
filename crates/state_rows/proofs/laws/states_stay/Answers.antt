use Rattle.state_rows.proofs.Staying.{states-stay}
use Rattle.state_rows.proofs.laws.states_stay.Goals as goal

pub returns : goal.returns
returns c = states-stay
