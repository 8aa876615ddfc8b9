use Rattle.std.proofs.Common.{refl, take, drop}
use Rattle.versions.specs.Store.{list_of}
use Rattle.total_versions.proofs.AnswerLemmas.{makes, never, not-yes}
use Rattle.total_versions.proofs.lists.slice.Goals as goal

pub returns-then-not-holds : goal.returns-then-not-holds
returns-then-not-holds g c = (λ held. not-yes (c.holds.ensures.1 held) c.if-not-holds.true, refl)

pub returns : goal.returns
returns g c = rw c.told.ensures (makes c.args.lists.now c.slice.new.self (drop c.args.from (take c.args.to (list_of c.args.lists.now c.args.version))) (c.holds.ensures.0 c.if-not-holds.false) c.slice.result c.slice.ensures.fresh c.slice.ensures.made c.slice.ensures.refused c.slice.ensures.range (never c.slice.ensures.no_long))
