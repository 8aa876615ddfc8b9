use Rattle.rrb_core.proofs.ElementLemmas.{elements-stay, vectors-of-vectors-stay}
use Rattle.rrb_core.proofs.laws.vectors_of_vectors_stay.Goals as goal

pub returns-clause-elements : goal.returns-clause-elements
returns-clause-elements g c = elements-stay g.row.T.Denot

pub returns-clause-vectors : goal.returns-clause-vectors
returns-clause-vectors g c = vectors-of-vectors-stay g.row.T.Denot
