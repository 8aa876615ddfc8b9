use Rattle.std.proofs.Common.{◌∙◌, sym, ap, subst, ℕ}
use Rattle.elem_core.specs.Shown.{name_bytes}
use Rattle.plain_space.specs.declared.refusal.Refusal.TheVariants as why
use Rattle.pool_text.specs.declared.pool.Pool.{Pool}
use Rattle.pool_map.specs.Laws.{KeepsCells}
use Rattle.pool_map.specs.Mapped.{mapped}
use Rattle.pool_map.specs.Spaces.{indented}
use Rattle.ewig_shell.proofs.StepLemmas.{ObeysOn-refused}
use Rattle.ewig_shell.proofs.SaveLemmas.{Pool-ended}
use Rattle.ewig_shell.proofs.MapLemmas.{indent-inside, indent-past, indent-lacks, indent-refused, indent-stores, mapped-storable}
use Rattle.ewig_shell.proofs.mapped.indent.Goals as goal

pub returns-then-in_batch : goal.returns-then-in_batch
returns-then-in_batch g c = ObeysOn-refused _ c.in_batch.ensures.0 why.Batch c.in_batch.ensures.1 (indent-inside c.in_batch.ensures.0 c.args.count (name_bytes c.args.file) (sym c.in_batch.ensures.2 ∙ c.if-in_batch.true))

pub returns-then-count-gt-MOST_SPACES : goal.returns-then-count-gt-MOST_SPACES
returns-then-count-gt-MOST_SPACES g c = ObeysOn-refused _ c.in_batch.ensures.0 why.Range c.in_batch.ensures.1 (indent-past c.in_batch.ensures.0 c.args.count (name_bytes c.args.file) (sym c.in_batch.ensures.2 ∙ c.if-in_batch.false) c.if-count-gt-MOST_SPACES.true)

pub returns-in_err-pool : goal.returns-in_err-pool
returns-in_err-pool g c = indent-lacks c.in_batch.ensures.0 c.args.count (name_bytes c.args.file) (sym c.in_batch.ensures.2 ∙ c.if-in_batch.false) c.if-count-gt-MOST_SPACES.false c.in_batch.ensures.1 c.from_residual.result c.from_residual.ensures.1

pub returns-in_err-moved : goal.returns-in_err-moved
returns-in_err-moved g c =
    indent-refused c.in_batch.ensures.0 c.args.count (name_bytes c.args.file) (sym c.in_batch.ensures.2 ∙ c.if-in_batch.false) c.args.space.now c.if-count-gt-MOST_SPACES.false c.in_batch.ensures.1
    c.indent_needs_room.ensures c.in_ok-pool.ensures.bits c.in_ok-pool.ensures.valid c.in_err-moved.field-0.0 c.from_residual-in_err-moved.result
    (λ is lines. c.in_err-moved.ensures.long is (subst (λ (n : ℕ). KeepsCells (indented n) c.in_ok-pool.pool) (sym c.from.ensures) (subst (λ (P : Pool). KeepsCells (indented c.args.count) P) (sym c.in_ok-pool.ensures.value) lines))) c.from_residual-in_err-moved.ensures.1

pub returns : goal.returns
returns g c =
    let free = sym c.in_batch.ensures.2 ∙ c.if-in_batch.false in
    let same = c.in_ok-pool.ensures.value in
    let lines : KeepsCells (indented c.args.count) c.args.space.now.pool =
    subst (λ (P : Pool). KeepsCells (indented c.args.count) P) same (subst (λ (n : ℕ). KeepsCells (indented n) c.in_ok-pool.pool) c.from.ensures c.in_ok-moved.ensures.lines) in
    Pool-ended (mapped (indented c.args.count) c.args.space.now.pool) c.in_ok-moved.moved c.keep_pool.result
    (c.in_ok-moved.ensures.mapped ∙ ap (λ (P : Pool). mapped (indented c.from.result) P) same ∙ ap (λ (n : ℕ). mapped (indented n) c.args.space.now.pool) c.from.ensures)
    (mapped-storable (indented c.args.count) c.args.space.now.pool c.in_batch.ensures.0 c.mapped_is_valid.ensures c.in_batch.ensures.1 free c.in_ok-pool.ensures.bits c.in_ok-pool.ensures.valid c.in_ok-pool.ensures.history lines)
    (indent-stores c.in_batch.ensures.0 c.args.count (name_bytes c.args.file) free c.args.space.now c.if-count-gt-MOST_SPACES.false c.in_batch.ensures.1
    c.indent_needs_room.ensures c.in_ok-pool.ensures.bits c.in_ok-pool.ensures.valid lines) c.keep_pool.ensures.keeps c.keep_pool.ensures.reads
