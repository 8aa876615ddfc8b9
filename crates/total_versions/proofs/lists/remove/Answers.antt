use Rattle.std.proofs.Common.{refl, remove}
use Rattle.versions.specs.Store.{list_of}
use Rattle.total_versions.proofs.AnswerLemmas.{makes, never, not-yes}
use Rattle.total_versions.proofs.lists.remove.Goals as goal

pub returns-then-not-holds : goal.returns-then-not-holds
returns-then-not-holds g c = (λ held. not-yes (c.holds.ensures.1 held) c.if-not-holds.true, refl)

pub returns : goal.returns
returns g c = rw c.told.ensures (makes c.args.lists.now c.remove.new.self (remove (list_of c.args.lists.now c.args.version) c.args.index) (c.holds.ensures.0 c.if-not-holds.false) c.remove.result c.remove.ensures.fresh c.remove.ensures.made c.remove.ensures.refused c.remove.ensures.range (never c.remove.ensures.no_long))
