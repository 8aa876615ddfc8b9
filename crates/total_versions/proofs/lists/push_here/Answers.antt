use Rattle.std.proofs.Common.{refl, [], ◌∷◌, ◌++◌, ◌≡◌}
use Rattle.versions.specs.Store.{list_of}
use Rattle.versions.specs.declared.faults.Fault.TheVariants as fault
use Rattle.total_versions.proofs.AnswerLemmas.{edits-back, never, no-err, not-yes}
use Rattle.total_versions.proofs.lists.push_here.Goals as goal

pub returns-then-not-holds : goal.returns-then-not-holds
returns-then-not-holds g c = (λ held. not-yes (c.holds.ensures.1 held) c.if-not-holds.true, refl)

pub returns : goal.returns
returns g c = rw c.told_back_here.ensures (edits-back c.args.lists.now c.push_here.new.self c.args.version (list_of c.args.lists.now c.args.version ++ c.args.element ∷ []) (c.holds.ensures.0 c.if-not-holds.false) c.push_here.result c.push_here.ensures.made c.push_here.ensures.refused (never (no-err c.push_here.result (λ e. e.fault ≡ fault.Range) c.push_here.ensures.no_range)) c.push_here.ensures.long)
