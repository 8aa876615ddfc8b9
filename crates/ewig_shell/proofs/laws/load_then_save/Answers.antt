use Rattle.ewig_shell.proofs.RoundTripLemmas.{load-then-save}
use Rattle.ewig_shell.proofs.laws.load_then_save.Goals as goal

pub returns : goal.returns
returns c = load-then-save
