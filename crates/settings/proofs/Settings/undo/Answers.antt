use Rattle.std.proofs.Common.{ap, ◌∙◌, drop}
use Rattle.versions.proofs.CallerLemmas.{kept-left, lists-kept-left}
use Rattle.settings.proofs.Settings.undo.Goals as goal

pub invariant_of-self : goal.invariant_of-self
invariant_of-self g c = kept-left c.self.inside.maps c.forget.new.self c.self.inside.newest c.self.inside.past.items _ c.forget.ensures c.in-Some.ensures.items c.self.invariant

pub returns-in-Some-clause-back : goal.returns-in-Some-clause-back
returns-in-Some-clause-back g c = λ more. lists-kept-left c.self.inside.maps c.forget.new.self c.self.inside.newest c.self.inside.past.items _ c.forget.ensures c.in-Some.ensures.items c.self.invariant ∙ ap (drop 1) c.self.view_is
