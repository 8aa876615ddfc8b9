use Rattle.std.proofs.Common.{◌∙◌, sym, ap, refl, ℕ}
use Rattle.elem_core.specs.Shown.{name_bytes}
use Rattle.plain_space.specs.declared.refusal.Refusal.TheVariants as why
use Rattle.pool_text.specs.Rules.{present_rules}
use Rattle.pool_text.specs.declared.pool.Pool.{Pool}
use Rattle.pool_map.specs.Mapped.{mapped}
use Rattle.pool_map.specs.Spaces.{dedented}
use Rattle.ewig_shell.proofs.StepLemmas.{ObeysOn-refused}
use Rattle.ewig_shell.proofs.SaveLemmas.{Stores-lacks, Pool-ended}
use Rattle.ewig_shell.proofs.MapLemmas.{dedent-inside, dedent-past, dedent-granted, dedent-stores, mapped-storable}
use Rattle.ewig_shell.proofs.mapped.dedent.Goals as goal

pub returns-then-in_batch : goal.returns-then-in_batch
returns-then-in_batch g c = ObeysOn-refused _ c.in_batch.ensures.0 why.Batch c.in_batch.ensures.1 (dedent-inside c.in_batch.ensures.0 c.args.count (name_bytes c.args.file) (sym c.in_batch.ensures.2 ∙ c.if-in_batch.true))

pub returns-then-count-gt-MOST_SPACES : goal.returns-then-count-gt-MOST_SPACES
returns-then-count-gt-MOST_SPACES g c = ObeysOn-refused _ c.in_batch.ensures.0 why.Range c.in_batch.ensures.1 (dedent-past c.in_batch.ensures.0 c.args.count (name_bytes c.args.file) (sym c.in_batch.ensures.2 ∙ c.if-in_batch.false) c.if-count-gt-MOST_SPACES.true)

pub returns-in_err-pool : goal.returns-in_err-pool
returns-in_err-pool g c = Stores-lacks c.in_batch.ensures.0 c.from_residual.result c.from_residual.ensures.1 c.in_batch.ensures.1 (dedent-granted c.in_batch.ensures.0 c.args.count (name_bytes c.args.file) (sym c.in_batch.ensures.2 ∙ c.if-in_batch.false) c.if-count-gt-MOST_SPACES.false) refl

pub returns-in_err-moved : goal.returns-in_err-moved
returns-in_err-moved g c = Stores-lacks c.in_batch.ensures.0 c.from_residual-in_err-moved.result c.from_residual-in_err-moved.ensures.1 c.in_batch.ensures.1 (dedent-granted c.in_batch.ensures.0 c.args.count (name_bytes c.args.file) (sym c.in_batch.ensures.2 ∙ c.if-in_batch.false) c.if-count-gt-MOST_SPACES.false) refl

pub returns : goal.returns
returns g c =
    let free = sym c.in_batch.ensures.2 ∙ c.if-in_batch.false in
    let lines = c.dedent_keeps_lines.ensures present_rules c.args.space.now.pool c.args.count c.in_ok-pool.ensures.valid in
    Pool-ended (mapped (dedented c.args.count) c.args.space.now.pool) c.in_ok-moved.moved c.keep_pool.result
    (c.in_ok-moved.ensures ∙ ap (λ (P : Pool). mapped (dedented c.from.result) P) c.in_ok-pool.ensures.value ∙ ap (λ (n : ℕ). mapped (dedented n) c.args.space.now.pool) c.from.ensures)
    (mapped-storable (dedented c.args.count) c.args.space.now.pool c.in_batch.ensures.0 c.mapped_is_valid.ensures c.in_batch.ensures.1 free c.in_ok-pool.ensures.bits c.in_ok-pool.ensures.valid c.in_ok-pool.ensures.history lines)
    (dedent-stores c.in_batch.ensures.0 c.args.count (name_bytes c.args.file) free c.if-count-gt-MOST_SPACES.false c.in_batch.ensures.1) c.keep_pool.ensures.keeps c.keep_pool.ensures.reads
