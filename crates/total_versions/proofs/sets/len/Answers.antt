use Rattle.total_versions.proofs.AnswerLemmas.{not-yes}
use Rattle.total_versions.proofs.sets.len.Goals as goal

pub returns-then-not-holds : goal.returns-then-not-holds
returns-then-not-holds g c = (λ held. not-yes (c.holds.ensures.1 held) c.if-not-holds.true, tt)

pub returns : goal.returns
returns g c = (c.holds.ensures.0 c.if-not-holds.false, (λ z. z), c.len.ensures)
