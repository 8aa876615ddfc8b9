use Rattle.ewig_shell.proofs.reply.send_summary.Goals as goal

pub returns : goal.returns
returns g c = c.send_each.ensures
