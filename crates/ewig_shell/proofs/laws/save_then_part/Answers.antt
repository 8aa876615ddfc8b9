use Rattle.ewig_shell.proofs.ChainTripLemmas.{save-begins, save-then-part}
use Rattle.ewig_shell.proofs.laws.save_then_part.Goals as goal

pub returns : goal.returns
returns c = record { begins = save-begins; part = save-then-part }
