use Rattle.std.proofs.Common.{ℕ, Bor}
use Rattle.elem_core.specs.declared.text.Text.{Text}
use Rattle.plain_space.specs.Answer.{size_line}
use Rattle.ewig_shell.proofs.LinesLemmas.{shown_as}
use Rattle.ewig_shell.proofs.StepLemmas.{Obeys-list, Obeys-list_lacks}
use Rattle.ewig_shell.proofs.execute.list.Goals as goal

pub returns-in-Ok : goal.returns-in-Ok
returns-in-Ok g c = record {
  reply = _;
  due = Obeys-list c.in-Ok.ensures.0 _ c.in-Ok.ensures.1 (shown_as size_line (λ (size : Bor Text × ℕ). (size.0.now, size.1)) c.deref.ensures.value c.in-Ok.ensures.2);
  sends = c.send_each.ensures;
}

pub returns-in-Err : goal.returns-in-Err
returns-in-Err g c = record { reply = c.refusal.result.now; due = Obeys-list_lacks c.names.ensures.0 c.names.ensures.1 c.refusal.ensures; sends = c.write_all.ensures }
