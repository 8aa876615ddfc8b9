use Rattle.std.proofs.Common.{refl, [], ◌∷◌, ◌++◌, ◌≡◌}
use Rattle.versions.specs.Store.{list_of}
use Rattle.versions.specs.declared.faults.Fault.TheVariants as fault
use Rattle.total_versions.proofs.AnswerLemmas.{makes-back, never, no-err, not-yes}
use Rattle.total_versions.proofs.lists.push.Goals as goal

pub returns-then-not-holds : goal.returns-then-not-holds
returns-then-not-holds g c = (λ held. not-yes (c.holds.ensures.1 held) c.if-not-holds.true, refl)

pub returns : goal.returns
returns g c = rw c.told_back.ensures (makes-back c.args.lists.now c.push.new.self (list_of c.args.lists.now c.args.version ++ c.args.element ∷ []) (c.holds.ensures.0 c.if-not-holds.false) c.push.result c.push.ensures.fresh c.push.ensures.made c.push.ensures.refused (never (no-err c.push.result (λ e. e.fault ≡ fault.Range) c.push.ensures.no_range)) c.push.ensures.long)
