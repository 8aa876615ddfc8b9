use Rattle.std.proofs.Common.{refl, insert}
use Rattle.versions.specs.Store.{list_of}
use Rattle.total_versions.proofs.AnswerLemmas.{makes-back, not-yes}
use Rattle.total_versions.proofs.lists.insert.Goals as goal

pub returns-then-not-holds : goal.returns-then-not-holds
returns-then-not-holds g c = (λ held. not-yes (c.holds.ensures.1 held) c.if-not-holds.true, refl)

pub returns : goal.returns
returns g c = rw c.told_back.ensures (makes-back c.args.lists.now c.insert.new.self (insert (list_of c.args.lists.now c.args.version) c.args.index c.args.element) (c.holds.ensures.0 c.if-not-holds.false) c.insert.result c.insert.ensures.fresh c.insert.ensures.made c.insert.ensures.refused c.insert.ensures.range c.insert.ensures.long)
