use Rattle.champ_kinds.proofs.StayLemmas.{container-stays, maps-stay, sets-stay, map-reaches, set-reaches}
use Rattle.champ_kinds.proofs.laws.containers_stay.Goals as goal

pub returns-clause-stay : goal.returns-clause-stay
returns-clause-stay g c = λ old new r keeps. container-stays old new r keeps

pub returns-clause-maps : goal.returns-clause-maps
returns-clause-maps g c = λ cmp code old new more. maps-stay cmp code more

pub returns-clause-sets : goal.returns-clause-sets
returns-clause-sets g c = λ cmp code old new more. sets-stay cmp code more

pub returns-clause-maps_reach : goal.returns-clause-maps_reach
returns-clause-maps_reach g c = λ cmp code h r M is. map-reaches cmp code h r M is

pub returns-clause-sets_reach : goal.returns-clause-sets_reach
returns-clause-sets_reach g c = λ cmp code h r E is. set-reaches cmp code h r E is
