use Rattle.std.proofs.Common.{◌∙◌, sym}
use Rattle.elem_core.specs.Shown.{name_bytes}
use Rattle.plain_space.specs.declared.refusal.Refusal.TheVariants as why
use Rattle.ewig_shell.proofs.StepLemmas.{ObeysOn-refused}
use Rattle.ewig_shell.proofs.PartLemmas.{chain-inside, chain-none, chain-many, chain-takes, chain-of, Untaken-ends, Damaged-ends, Chain-ends}
use Rattle.ewig_shell.proofs.chained.chain.Goals as goal
use Rattle.ewig_shell.proofs.chained.chain.Goals.{then-number-eq0-via-then-number-eq0, then-number-eq0-via-else-number-eq0+then-number-gt-MOST_PARTS}

pub returns-then-in_batch : goal.returns-then-in_batch
returns-then-in_batch g c = ObeysOn-refused _ c.in_batch.ensures.0 why.Batch c.in_batch.ensures.1 (chain-inside c.in_batch.ensures.0 (name_bytes c.args.file) c.args.number (sym c.in_batch.ensures.2 ∙ c.if-in_batch.true))

pub returns-then-number-eq0 : goal.returns-then-number-eq0
returns-then-number-eq0 g c =
    let free = sym c.in_batch.ensures.2 ∙ c.if-in_batch.false in
    elim c.then-number-eq0.branch [
      | then-number-eq0-via-then-number-eq0 w ↦ ObeysOn-refused _ c.in_batch.ensures.0 why.Range c.in_batch.ensures.1 (chain-none c.in_batch.ensures.0 (name_bytes c.args.file) c.args.number free w.if-number-eq0.true)
      | then-number-eq0-via-else-number-eq0+then-number-gt-MOST_PARTS w ↦ ObeysOn-refused _ c.in_batch.ensures.0 why.Range c.in_batch.ensures.1 (chain-many c.in_batch.ensures.0 (name_bytes c.args.file) c.args.number free w.if-number-gt-MOST_PARTS.true)
    ]

pub returns-in_err-found : goal.returns-in_err-found
returns-in_err-found g c =
    let takes = chain-takes c.in_batch.ensures.0 (name_bytes c.args.file) c.args.number c.in_batch.ensures.1 (sym c.in_batch.ensures.2 ∙ c.if-in_batch.false) c.if-number-eq0.false c.if-number-gt-MOST_PARTS.false in
    Untaken-ends c.in_err-found.field-0.0 c.chain_of.result c.from_residual.result takes c.chain_of.ensures.same c.chain_of.ensures.calls c.in_err-found.was c.in_err-found.ensures.fault c.from_residual.ensures.1

pub returns-in_err-found-2 : goal.returns-in_err-found-2
returns-in_err-found-2 g c =
    let takes = chain-takes c.in_batch.ensures.0 (name_bytes c.args.file) c.args.number c.in_batch.ensures.1 (sym c.in_batch.ensures.2 ∙ c.if-in_batch.false) c.if-number-eq0.false c.if-number-gt-MOST_PARTS.false in
    Damaged-ends c.bits.result c.in_err-found-2.field-0.0 c.in_ok-found.found c.from_residual-in_err-found-2.result takes c.chain_of.ensures.same c.chain_of.ensures.calls (λ failed. let both = sym c.in_ok-found.was ∙ failed in cc)
    c.bits.ensures.kept c.in_err-found-2.was c.in_ok-found.ensures.taken c.from_residual-in_err-found-2.ensures.1

pub returns : goal.returns
returns g c =
    let takes = chain-takes c.in_batch.ensures.0 (name_bytes c.args.file) c.args.number c.in_batch.ensures.1 (sym c.in_batch.ensures.2 ∙ c.if-in_batch.false) c.if-number-eq0.false c.if-number-gt-MOST_PARTS.false in
    Chain-ends c.in_ok-found-2.field-0 c.take_chain.result takes c.chain_of.ensures.same c.chain_of.ensures.calls (λ failed. let both = sym c.in_ok-found.was ∙ failed in cc)
    (chain-of c.bits.result c.args.space.now.pool.bits c.in_ok-found-2.field-0 c.in_ok-found.found c.bits.ensures.kept c.in_ok-found-2.was c.in_ok-found.ensures.taken) c.take_chain.ensures
