use Rattle.ewig_shell.proofs.SendingLemmas.{Puts-ends, Puts-failed}
use Rattle.ewig_shell.proofs.reply.send_text.Goals as goal

pub returns-in_err-put_text : goal.returns-in_err-put_text
returns-in_err-put_text g c = Puts-failed c.from_residual.ensures.0 c.clear.ensures c.in_err-put_text.ensures

pub returns : goal.returns
returns g c = Puts-ends c.clear.ensures c.in_ok-put_text.ensures c.flush.ensures.sends
