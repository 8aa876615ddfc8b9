use Rattle.std.proofs.Common.{refl, slice_set, ◌≡◌}
use Rattle.versions.specs.Store.{list_of}
use Rattle.versions.specs.declared.faults.Fault.TheVariants as fault
use Rattle.total_versions.proofs.AnswerLemmas.{makes-back, never, no-err, not-yes}
use Rattle.total_versions.proofs.lists.set.Goals as goal

pub returns-then-not-holds : goal.returns-then-not-holds
returns-then-not-holds g c = (λ held. not-yes (c.holds.ensures.1 held) c.if-not-holds.true, refl)

pub returns : goal.returns
returns g c = rw c.told_back.ensures (makes-back c.args.lists.now c.set.new.self (slice_set (list_of c.args.lists.now c.args.version) c.args.index c.args.element) (c.holds.ensures.0 c.if-not-holds.false) c.set.result c.set.ensures.fresh c.set.ensures.made c.set.ensures.refused c.set.ensures.range (never (no-err c.set.result (λ e. e.fault ≡ fault.Long) c.set.ensures.no_long)))
