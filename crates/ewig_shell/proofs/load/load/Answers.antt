use Rattle.std.proofs.Common.{◌∙◌, sym, subst, Ok, List, ℕ}
use Rattle.elem_core.specs.Shown.{name_bytes}
use Rattle.plain_space.specs.declared.refusal.Refusal.TheVariants as why
use Rattle.ewig_shell.specs.Loading.{TakesIn}
use Rattle.ewig_shell.proofs.StepLemmas.{load-outside, answer-inside, ObeysOn-refused}
use Rattle.ewig_shell.proofs.LoadLemmas.{load-takes, Takes-given, Takes-fault, fetched_by, fetch-damage}
use Rattle.ewig_shell.proofs.StepLemmas.{fault-is}
use Rattle.ewig_shell.proofs.load.load.Goals as goal

pub returns-then-in_batch-clause-obeys : goal.returns-then-in_batch-clause-obeys
returns-then-in_batch-clause-obeys g c =
    ObeysOn-refused _ c.in_batch.ensures.0 why.Batch c.in_batch.ensures.1 (answer-inside _ (load-outside (name_bytes c.args.file)) c.in_batch.ensures.0 (sym c.in_batch.ensures.2 ∙ c.if-in_batch.true))

pub returns-in_err-fetch-clause-obeys : goal.returns-in_err-fetch-clause-obeys
returns-in_err-fetch-clause-obeys g c =
    Takes-fault (name_bytes c.args.file) c.as_str.result.now c.fetch.result _ c.from_residual.result c.fetch.new.into.items (load-takes c.in_batch.ensures.0 _ c.in_batch.ensures.1 (sym c.in_batch.ensures.2 ∙ c.if-in_batch.false))
    c.fetch.ensures.same c.fetch.ensures.calls c.as_str.ensures.shown c.fetch.ensures.told c.in_err-fetch.was (fault-is c.from_residual.result _ c.from_residual.ensures.1)

pub returns-in_err-fetch-clause-damage : goal.returns-in_err-fetch-clause-damage
returns-in_err-fetch-clause-damage g c = fetch-damage c.from_residual.result _ c.from_residual.ensures.1

pub returns-clause-obeys : goal.returns-clause-obeys
returns-clause-obeys g c =
    Takes-given (load-takes c.in_batch.ensures.0 (name_bytes c.args.file) c.in_batch.ensures.1 (sym c.in_batch.ensures.2 ∙ c.if-in_batch.false)) c.fetch.ensures.same c.fetch.ensures.calls
    c.fetch.new.into.items c.take_in.result (λ failed. let both = sym c.in_ok-fetch.was ∙ failed in cc) c.in_ok-fetch.ensures.within
    (fetched_by _ c.as_str.result.now (name_bytes c.args.file) c.fetch.result (Ok tt) c.fetch.new.into.items c.as_str.ensures.shown c.in_ok-fetch.was c.fetch.ensures.told)
    (subst (λ (w : List ℕ). TakesIn w c.args.space.now c.take_in.result c.take_in.new.space) c.deref.ensures.value c.take_in.ensures.takes)
