use Rattle.ewig_shell.proofs.LeavesLemmas.{line-leaves, lines-leave}
use Rattle.ewig_shell.proofs.laws.lines_leave.Goals as goal

pub returns : goal.returns
returns g c = record { line = line-leaves; lines = lines-leave g.D.Store }
