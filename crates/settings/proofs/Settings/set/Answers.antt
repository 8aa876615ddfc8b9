use Rattle.std.proofs.Common.{[], ◌∷◌, ap, ◌∙◌}
use Rattle.std.specs.Prelude.{if◌then◌else◌, is_ok, slice_index_or}
use Rattle.std.specs.FinMap.{put}
use Rattle.versions.proofs.CallerLemmas.{kept-made, lists-kept-made}
use Rattle.settings.proofs.Settings.set.Goals as goal

pub invariant_of-self-2 : goal.invariant_of-self-2
invariant_of-self-2 g c =
    let kept = c.self.inside.newest ∷ c.self.inside.past.items in
    let room = c.reserve.new.self.items in
    let pushed = c.push_front.ensures.items ∙ ap (λ r. if is_ok r then c.self.inside.newest ∷ room else room) c.in_ok-push_front.was ∙ ap (λ vs. c.self.inside.newest ∷ vs) c.reserve.ensures.items in
    kept-made c.self.inside.maps c.insert.new.self c.in-Ok.version _ kept _ c.in-Ok.ensures.fresh c.in-Ok.ensures.made pushed c.self.invariant

pub returns-clause-changed : goal.returns-clause-changed
returns-clause-changed g c =
    let kept = c.self.inside.newest ∷ c.self.inside.past.items in
    let room = c.reserve.new.self.items in
    let pushed = c.push_front.ensures.items ∙ ap (λ r. if is_ok r then c.self.inside.newest ∷ room else room) c.in_ok-push_front.was ∙ ap (λ vs. c.self.inside.newest ∷ vs) c.reserve.ensures.items in
    lists-kept-made c.self.inside.maps c.insert.new.self c.in-Ok.version _ kept _ c.in-Ok.ensures.fresh c.in-Ok.ensures.made pushed c.self.invariant
    ∙ ap (λ w. put g.K.Ord.cmp c.args.name c.args.number (slice_index_or w 0 []) ∷ w) c.self.view_is
