use Rattle.std.proofs.Common.{ap, ◌∙◌, drop}
use Rattle.versions.proofs.CallerLemmas.{kept-left, lists-kept-left}
use Rattle.versions.proofs.history.History.undo.Goals as goal

pub invariant_of-self-2 : goal.invariant_of-self-2
invariant_of-self-2 g c = kept-left c.self.inside.lists c.forget.new.self c.self.inside.newest c.self.inside.earlier.items _ c.forget.ensures c.in-Some.ensures.items c.self.invariant

pub returns-clause-back : goal.returns-clause-back
returns-clause-back g c = lists-kept-left c.self.inside.lists c.forget.new.self c.self.inside.newest c.self.inside.earlier.items _ c.forget.ensures c.in-Some.ensures.items c.self.invariant ∙ ap (drop 1) c.self.view_is
