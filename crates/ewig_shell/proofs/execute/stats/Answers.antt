use Rattle.std.proofs.Common.{◌∙◌}
use Rattle.ewig_shell.proofs.StepLemmas.{Obeys-stats}
use Rattle.ewig_shell.proofs.execute.stats.Goals as goal

pub returns : goal.returns
returns g c = record { reply = _; due = Obeys-stats c.rows.ensures.stands.0 c.rows.ensures.stands.1 (c.rows.ensures.live ∙ c.rows.ensures.count); sends = c.send_number.ensures }
