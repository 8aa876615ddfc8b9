use Rattle.champ_kinds.proofs.StayLemmas.{containers-extended}
use Rattle.champ_kinds.proofs.root.Rooted.empty.Goals as goal

pub returns-clause-containers : goal.returns-clause-containers
returns-clause-containers g c = containers-extended _ _ c.in_ok-root.ensures.answered.extends
