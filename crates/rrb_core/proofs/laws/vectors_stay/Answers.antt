use Rattle.rrb_core.proofs.Stays.{vector-stays}
use Rattle.rrb_core.proofs.laws.vectors_stay.Goals as goal

pub returns : goal.returns
returns g c = vector-stays g.row.T.Denot
