use Rattle.std.proofs.Common.{◌∙◌, sym, refl}
use Rattle.elem_core.specs.Shown.{name_bytes}
use Rattle.plain_space.specs.declared.refusal.Refusal.TheVariants as why
use Rattle.ewig_shell.proofs.StepLemmas.{save-outside, answer-inside, answer-outside, ObeysOn-refused}
use Rattle.ewig_shell.proofs.SaveLemmas.{save-stores, save-storable, Stores-lacks, Pool-ended}
use Rattle.ewig_shell.proofs.save.save.Goals as goal

pub returns-then-in_batch : goal.returns-then-in_batch
returns-then-in_batch g c = ObeysOn-refused _ c.in_batch.ensures.0 why.Batch c.in_batch.ensures.1 (answer-inside _ (save-outside (name_bytes c.args.file)) c.in_batch.ensures.0 (sym c.in_batch.ensures.2 ∙ c.if-in_batch.true))

pub returns-in_err-pool : goal.returns-in_err-pool
returns-in_err-pool g c = Stores-lacks c.in_batch.ensures.0 c.from_residual.result c.from_residual.ensures.1 c.in_batch.ensures.1 (answer-outside _ (save-outside (name_bytes c.args.file)) c.in_batch.ensures.0 (sym c.in_batch.ensures.2 ∙ c.if-in_batch.false)) refl

pub returns : goal.returns
returns g c =
    let free = sym c.in_batch.ensures.2 ∙ c.if-in_batch.false in
    Pool-ended c.args.space.now.pool c.in_ok-pool.pool c.keep_pool.result c.in_ok-pool.ensures.value (save-storable c.args.space.now.pool c.in_batch.ensures.0 c.in_batch.ensures.1 free c.in_ok-pool.ensures.valid c.in_ok-pool.ensures.history)
    (save-stores c.in_batch.ensures.0 (name_bytes c.args.file) c.in_batch.ensures.1 free) c.keep_pool.ensures.keeps c.keep_pool.ensures.reads
