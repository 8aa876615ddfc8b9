use Rattle.std.proofs.Common.{sym}
use Rattle.total_versions.proofs.AnswerLemmas.{not-yes, found}
use Rattle.total_versions.proofs.maps.get.Goals as goal

pub returns-then-not-holds : goal.returns-then-not-holds
returns-then-not-holds g c = (λ held. not-yes (c.holds.ensures.1 held) c.if-not-holds.true, tt)

pub returns-in-Some : goal.returns-in-Some
returns-in-Some g c = (c.holds.ensures.0 c.if-not-holds.false, found (sym c.in-Some.ensures), sym c.in-Some.ensures)

pub returns-in-None : goal.returns-in-None
returns-in-None g c = (c.holds.ensures.0 c.if-not-holds.false, sym c.in-None.ensures, tt)
