use Rattle.std.proofs.Common.{refl, ◌++◌}
use Rattle.versions.specs.Store.{list_of}
use Rattle.total_versions.proofs.AnswerLemmas.{makes, never, not-yes}
use Rattle.total_versions.proofs.lists.concat.Goals as goal

pub returns-then-not-holds : goal.returns-then-not-holds
returns-then-not-holds g c = (λ held. not-yes (c.holds.ensures.1 held.0) c.if-not-holds.true, refl)

pub returns-then-not-holds-2 : goal.returns-then-not-holds-2
returns-then-not-holds-2 g c = (λ held. not-yes (c.holds-2.ensures.1 held.1) c.if-not-holds-2.true, refl)

pub returns : goal.returns
returns g c = rw c.told.ensures (makes c.args.lists.now c.concat.new.self (list_of c.args.lists.now c.args.left ++ list_of c.args.lists.now c.args.right) (c.holds.ensures.0 c.if-not-holds.false, c.holds-2.ensures.0 c.if-not-holds-2.false) c.concat.result c.concat.ensures.fresh c.concat.ensures.made c.concat.ensures.refused (never c.concat.ensures.no_range) c.concat.ensures.long)
