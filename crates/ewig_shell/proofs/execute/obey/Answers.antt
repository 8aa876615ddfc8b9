use Rattle.ewig_shell.proofs.SendingLemmas.{Sends-then}
use Rattle.ewig_shell.proofs.QuitLemmas.{quits-then}
use Rattle.ewig_shell.proofs.execute.obey.Goals as goal

pub returns-clause-replies : goal.returns-clause-replies
returns-clause-replies g c = let done = c.answer.ensures in record { reply = done.reply; due = done.due; sends = Sends-then _ _ c.then.ensures done.sends }

pub returns-clause-quits : goal.returns-clause-quits
returns-clause-quits g c = quits-then _ c.answer.result c.went_after-went.result _ c.went_after-went.ensures c.then.ensures
