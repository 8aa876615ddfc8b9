use Rattle.std.proofs.Common.{rules}
use Rattle.versions.proofs.CallerLemmas.{get-made, held-made}
use Rattle.settings.proofs.Settings.new.Goals as goal

pub invariant_of-result : goal.invariant_of-result
invariant_of-result g c = grind (held-made, get-made, rules)

pub returns : goal.returns
returns g c = grind (get-made, rules)
