use Rattle.std.proofs.Common.{◌≡◌, ◌∙◌, subst, refl, inr, Some, None, ℕ, ◌-◌}
use Rattle.pool_text.specs.Pool.{at_present_version}
use Rattle.pool_check.specs.Damages.{document_damage}
use Rattle.ewig_shell.specs.Step.{DocumentStandsFor}
use Rattle.ewig_shell.proofs.LoadLemmas.{TakesIn-damaged, TakesIn-ok, taken, untaken, document-damage}
use Rattle.ewig_shell.proofs.load.take_in.Goals as goal

pub returns-in_err-checked-clause-takes : goal.returns-in_err-checked-clause-takes
returns-in_err-checked-clause-takes c =
    TakesIn-damaged c.args.bytes.now c.args.space.now c.args.space.now c.from_residual.result c.in_err-checked.field-0.0 c.from_residual.ensures.1
    (λ other. subst (λ (b : ℕ). document_damage b c.args.bytes.now ≡ Some c.in_err-checked.field-0.0) c.bits.ensures.kept (c.in_err-checked.ensures.damage other))
    refl

pub returns-in_err-checked-clause-damage : goal.returns-in_err-checked-clause-damage
returns-in_err-checked-clause-damage c = document-damage c.from_residual.result _ c.from_residual.ensures.1

pub returns-in-Ok-clause-takes : goal.returns-in-Ok-clause-takes
returns-in-Ok-clause-takes c =
    let done = taken c.take_pool.ensures.work c.take_pool.result _ _ _ c.take_pool.ensures.ends c.in-Ok.is in
    TakesIn-ok c.args.bytes.now c.args.space.now c.take_pool.new.self c.in_ok-checked.checked
    (subst (λ (b : ℕ). DocumentStandsFor b c.args.bytes.now (at_present_version c.in_ok-checked.checked)) c.bits.ensures.kept c.in_ok-checked.ensures.stands)
    (c.in_ok-checked.ensures.bits ∙ c.bits.ensures.kept)
    (subst (λ (b : ℕ). document_damage b c.args.bytes.now ≡ None) c.bits.ensures.kept c.in_ok-checked.ensures.whole)
    c.in_ok-checked.ensures.valid done.pool done.made

pub returns-in-Err-clause-takes : goal.returns-in-Err-clause-takes
returns-in-Err-clause-takes c = inr (refl, untaken c.take_pool.ensures.work c.take_pool.result _ _ _ c.take_pool.ensures.ends c.in-Err.is)
