use Rattle.std.proofs.Common.{Bor}
use Rattle.elem_core.specs.declared.text.Text.{Text}
use Rattle.plain_space.specs.Answer.{text_line}
use Rattle.ewig_shell.proofs.LinesLemmas.{shown_as}
use Rattle.ewig_shell.proofs.StepLemmas.{Obeys-marks, Obeys-marks_lacks}
use Rattle.ewig_shell.proofs.execute.marks.Goals as goal

pub returns-in-Ok : goal.returns-in-Ok
returns-in-Ok g c = record {
  reply = _;
  due = Obeys-marks c.in-Ok.ensures.0 _ c.in-Ok.ensures.1 (shown_as text_line (λ (name : Bor Text). name.now) c.deref.ensures.value c.in-Ok.ensures.2);
  sends = c.send_each.ensures;
}

pub returns-in-Err : goal.returns-in-Err
returns-in-Err g c = record { reply = c.refusal.result.now; due = Obeys-marks_lacks c.marks.ensures.0 c.marks.ensures.1 c.refusal.ensures; sends = c.write_all.ensures }
