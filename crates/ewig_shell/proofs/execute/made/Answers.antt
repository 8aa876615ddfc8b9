use Rattle.ewig_shell.proofs.StepLemmas.{Obeys-made}
use Rattle.ewig_shell.proofs.execute.made.Goals as goal

pub returns : goal.returns
returns g c = record { reply = _; due = Obeys-made c.made.ensures.stands.0 c.made.ensures.stands.1 c.made.ensures.number; sends = c.send_number.ensures }
