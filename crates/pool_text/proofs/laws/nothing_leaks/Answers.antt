use Rattle.pool_text.proofs.Held.{nothing-leaks}
use Rattle.pool_text.proofs.laws.nothing_leaks.Goals as goal

pub returns : goal.returns
returns g c text h roots settings graph held = nothing-leaks text h roots settings graph held
