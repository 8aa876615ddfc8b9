use Rattle.std.proofs.Common.{Err, refl}
use Rattle.ewig_shell.proofs.SendingLemmas.{Sends-then}
use Rattle.ewig_shell.proofs.ReplyLemmas.{other-reply, line-other}
use Rattle.ewig_shell.proofs.StepLemmas.{Step-line, CountsStore-none, bits-kept}
use Rattle.ewig_shell.proofs.QuitLemmas.{quits-command, quits-bad}
use Rattle.ewig_shell.proofs.execute.execute_on.Goals as goal

pub returns-in-Ok-clause-replies : goal.returns-in-Ok-clause-replies
returns-in-Ok-clause-replies g c =
    let done = c.obey.ensures.replies in
    record {
      reply = done.reply;
      due = record { step = Step-line _ _ _ _ _ c.requires.short c.in-Ok.ensures done.due.obeys; counts = done.due.counts };
      sends = done.sends;
    }

pub returns-in-Ok-clause-bits : goal.returns-in-Ok-clause-bits
returns-in-Ok-clause-bits g c = bits-kept _ _ _ _ c.obey.ensures.replies.due.obeys

pub returns-in-Ok-clause-quits : goal.returns-in-Ok-clause-quits
returns-in-Ok-clause-quits g c = quits-command _ _ _ c.requires.short c.in-Ok.ensures c.obey.ensures.quits

pub returns-in-Err-clause-replies : goal.returns-in-Err-clause-replies
returns-in-Err-clause-replies g c = record {
  reply = c.line_refusal.result.now;
  due = record {
    step = Step-line _ _ _ _ (Err c.in-Err.bad) c.requires.short c.in-Err.ensures (record { reply_is = c.line_refusal.ensures; same = refl });
    counts = CountsStore-none (other-reply c.line_refusal.ensures (line-other c.in-Err.bad));
  };
  sends = Sends-then _ _ c.then.ensures c.write_all.ensures;
}

pub returns-in-Err-clause-quits : goal.returns-in-Err-clause-quits
returns-in-Err-clause-quits g c = quits-bad _ c.in-Err.bad c.write_all.result _ c.requires.short c.in-Err.ensures c.then.ensures
