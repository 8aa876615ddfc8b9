use Rattle.ewig_shell.proofs.StepLemmas.{Obeys-len, Obeys-len_refused}
use Rattle.ewig_shell.proofs.execute.len.Goals as goal

pub returns-in-Ok : goal.returns-in-Ok
returns-in-Ok g c = record { reply = _; due = Obeys-len c.in-Ok.ensures.0 _ _ c.in-Ok.ensures.1 c.in-Ok.ensures.2; sends = c.send_number.ensures }

pub returns-in-Err : goal.returns-in-Err
returns-in-Err g c = record {
  reply = c.refusal.result.now;
  due = Obeys-len_refused c.in-Err.ensures.0 _ c.in-Err.reason _ c.in-Err.ensures.1 c.in-Err.ensures.2 c.refusal.ensures;
  sends = c.write_all.ensures;
}
