use Rattle.ewig_shell.proofs.StepLemmas.{Obeys-same}
use Rattle.ewig_shell.proofs.execute.same.Goals as goal

pub returns : goal.returns
returns g c = record { reply = c.equality.result.now; due = Obeys-same c.same.ensures.0 _ _ c.same.result c.same.ensures.1 c.same.ensures.2 c.equality.ensures; sends = c.write_all.ensures }
