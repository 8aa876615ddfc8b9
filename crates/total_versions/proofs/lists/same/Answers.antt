use Rattle.total_versions.proofs.AnswerLemmas.{not-yes}
use Rattle.total_versions.proofs.lists.same.Goals as goal

pub returns-then-not-holds : goal.returns-then-not-holds
returns-then-not-holds g c = (λ held. not-yes (c.holds.ensures.1 held.0) c.if-not-holds.true, tt)

pub returns-then-not-holds-2 : goal.returns-then-not-holds-2
returns-then-not-holds-2 g c = (λ held. not-yes (c.holds-2.ensures.1 held.1) c.if-not-holds-2.true, tt)

pub returns : goal.returns
returns g c = ((c.holds.ensures.0 c.if-not-holds.false, c.holds-2.ensures.0 c.if-not-holds-2.false), (λ z. z), c.same.ensures)
