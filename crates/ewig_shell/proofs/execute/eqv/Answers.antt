use Rattle.ewig_shell.proofs.StepLemmas.{Obeys-eqv}
use Rattle.ewig_shell.proofs.execute.eqv.Goals as goal

pub returns : goal.returns
returns g c = record { reply = c.equality.result.now; due = Obeys-eqv c.eqv.ensures.0 _ _ c.eqv.result c.eqv.ensures.1 c.eqv.ensures.2 c.equality.ensures; sends = c.write_all.ensures }
