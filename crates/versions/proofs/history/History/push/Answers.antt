use Rattle.std.proofs.Common.{[], ◌∷◌, ◌++◌, ap, sym, ◌∙◌}
use Rattle.std.specs.Prelude.{if◌then◌else◌}
use Rattle.versions.specs.History.{present}
use Rattle.versions.proofs.CallLemmas.{is-fine}
use Rattle.versions.proofs.CallerLemmas.{kept-made, lists-kept-made}
use Rattle.versions.proofs.history.History.push.Goals as goal

pub invariant_of-self-in-Ok : goal.invariant_of-self-in-Ok
invariant_of-self-in-Ok g c =
    let kept = c.self.inside.newest ∷ c.self.inside.earlier.items in
    let pushed = c.push_front.ensures.items ∙ ap (λ b. if b then kept else c.self.inside.earlier.items) (is-fine c.push_front.result (sym c.is_err.ensures.value ∙ c.if-is_err.false)) in
    kept-made c.self.inside.lists c.push.new.self c.in-Ok.version _ kept _ c.in-Ok.ensures.fresh c.in-Ok.ensures.made pushed c.self.invariant

pub returns-in-Ok-clause-made : goal.returns-in-Ok-clause-made
returns-in-Ok-clause-made g c =
    let kept = c.self.inside.newest ∷ c.self.inside.earlier.items in
    let pushed = c.push_front.ensures.items ∙ ap (λ b. if b then kept else c.self.inside.earlier.items) (is-fine c.push_front.result (sym c.is_err.ensures.value ∙ c.if-is_err.false)) in
    lists-kept-made c.self.inside.lists c.push.new.self c.in-Ok.version _ kept _ c.in-Ok.ensures.fresh c.in-Ok.ensures.made pushed c.self.invariant
    ∙ ap (λ w. (present w ++ c.args.element ∷ []) ∷ w) c.self.view_is
