use Rattle.std.proofs.Common.{sym}
use Rattle.versions.specs.Store.{list_of}
use Rattle.total_versions.proofs.AnswerLemmas.{not-yes, got-near, none-far}
use Rattle.total_versions.proofs.lists.get.Goals as goal

pub returns-then-not-holds : goal.returns-then-not-holds
returns-then-not-holds g c = (λ held. not-yes (c.holds.ensures.1 held) c.if-not-holds.true, tt)

pub returns-in-Some : goal.returns-in-Some
returns-in-Some g c = (c.holds.ensures.0 c.if-not-holds.false, got-near (list_of c.args.lists.now c.args.version) c.args.index _ (sym c.in-Some.ensures), sym c.in-Some.ensures)

pub returns-in-None : goal.returns-in-None
returns-in-None g c = (c.holds.ensures.0 c.if-not-holds.false, none-far (list_of c.args.lists.now c.args.version) c.args.index (sym c.in-None.ensures), tt)
