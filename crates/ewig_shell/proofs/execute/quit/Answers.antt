use Rattle.ewig_shell.proofs.StepLemmas.{Obeys-quit}
use Rattle.ewig_shell.proofs.execute.quit.Goals as goal

pub returns : goal.returns
returns g c = record { reply = _; due = Obeys-quit c.stands.ensures.0 c.stands.ensures.1; sends = c.write_all.ensures }
