use Rattle.rrb_core.proofs.ElementLemmas.{same-vectors-follow}
use Rattle.rrb_core.proofs.laws.same_vectors_follow.Goals as goal

pub returns : goal.returns
returns g c = same-vectors-follow g.row.T.Denot
