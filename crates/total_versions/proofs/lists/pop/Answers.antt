use Rattle.std.proofs.Common.{refl, ◌-◌, length, take}
use Rattle.versions.specs.Store.{list_of}
use Rattle.total_versions.proofs.AnswerLemmas.{makes, never, not-yes}
use Rattle.total_versions.proofs.lists.pop.Goals as goal

pub returns-then-not-holds : goal.returns-then-not-holds
returns-then-not-holds g c = (λ held. not-yes (c.holds.ensures.1 held) c.if-not-holds.true, refl)

pub returns : goal.returns
returns g c = rw c.told.ensures (makes c.args.lists.now c.pop.new.self (take (length (list_of c.args.lists.now c.args.version) - 1) (list_of c.args.lists.now c.args.version)) (c.holds.ensures.0 c.if-not-holds.false) c.pop.result c.pop.ensures.fresh c.pop.ensures.made c.pop.ensures.refused c.pop.ensures.range (never c.pop.ensures.no_long))
