use Rattle.ewig_shell.proofs.RoundTripLemmas.{save-then-load}
use Rattle.ewig_shell.proofs.laws.save_then_load.Goals as goal

pub returns : goal.returns
returns c = save-then-load
