use Rattle.std.proofs.Common.{refl, slice_set, ◌≡◌}
use Rattle.versions.specs.Store.{list_of}
use Rattle.versions.specs.declared.faults.Fault.TheVariants as fault
use Rattle.total_versions.proofs.AnswerLemmas.{edits-back, never, no-err, not-yes}
use Rattle.total_versions.proofs.lists.set_here.Goals as goal

pub returns-then-not-holds : goal.returns-then-not-holds
returns-then-not-holds g c = (λ held. not-yes (c.holds.ensures.1 held) c.if-not-holds.true, refl)

pub returns : goal.returns
returns g c = rw c.told_back_here.ensures (edits-back c.args.lists.now c.set_here.new.self c.args.version (slice_set (list_of c.args.lists.now c.args.version) c.args.index c.args.element) (c.holds.ensures.0 c.if-not-holds.false) c.set_here.result c.set_here.ensures.made c.set_here.ensures.refused c.set_here.ensures.range (never (no-err c.set_here.result (λ e. e.fault ≡ fault.Long) c.set_here.ensures.no_long)))
