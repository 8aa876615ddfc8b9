use Rattle.pool_text.proofs.Held.{rooted-forms}
use Rattle.pool_text.proofs.laws.heaps_are_rooted.Goals as goal

pub returns : goal.returns
returns g c h roots graph live = rooted-forms h roots graph live
