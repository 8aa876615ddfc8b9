use Rattle.std.proofs.Common.{refl, inl, inr}
use Rattle.ewig_shell.proofs.WorkLemmas.{SumsUp-due}
use Rattle.ewig_shell.proofs.run.run_own.Goals as goal

pub returns-in_default : goal.returns-in_default
returns-in_default g c = inl (refl, c.unbegun.ensures)

pub returns : goal.returns
returns g c = inr (record {
  sent = c.send_summary.result;
  status_is = c.status_sent-status.ensures;
  last = c.work-summary.new.space;
  last_is = refl;
  replies = record { reply = _; due = SumsUp-due c.in-Ok.ensures.start c.work-summary.ensures; sends = c.send_summary.ensures };
})
