use Rattle.std.proofs.Common.{rules, ◌≡◌, ◌∙◌, length, sym, ap, Ok}
use Rattle.elem_core.specs.Shown.{name_bytes}
use Rattle.plain_space.specs.declared.refusal.Refusal.TheVariants as why
use Rattle.ewig_shell.specs.Saving.{saved_as}
use Rattle.ewig_shell.proofs.StepLemmas.{ObeysOn-refused, fault-is}
use Rattle.ewig_shell.proofs.PartLemmas.{part-inside, part-none, part-many, part-takes, chain-of, Untaken-ends, Damaged-ends, Lacks-ends, Part-large, Part-kept, many-bytes, few-bytes}
use Rattle.ewig_shell.proofs.chained.part.Goals as goal
use Rattle.ewig_shell.proofs.chained.part.Goals.{then-number-eq0-via-then-number-eq0, then-number-eq0-via-else-number-eq0+then-number-gt-MOST_PARTS}

pub returns-then-in_batch : goal.returns-then-in_batch
returns-then-in_batch g c = ObeysOn-refused _ c.in_batch.ensures.0 why.Batch c.in_batch.ensures.1 (part-inside c.in_batch.ensures.0 (name_bytes c.args.file) c.args.number (sym c.in_batch.ensures.2 ∙ c.if-in_batch.true))

pub returns-then-number-eq0 : goal.returns-then-number-eq0
returns-then-number-eq0 g c =
    let free = sym c.in_batch.ensures.2 ∙ c.if-in_batch.false in
    elim c.then-number-eq0.branch [
      | then-number-eq0-via-then-number-eq0 w ↦ ObeysOn-refused _ c.in_batch.ensures.0 why.Range c.in_batch.ensures.1 (part-none c.in_batch.ensures.0 (name_bytes c.args.file) c.args.number free w.if-number-eq0.true)
      | then-number-eq0-via-else-number-eq0+then-number-gt-MOST_PARTS w ↦ ObeysOn-refused _ c.in_batch.ensures.0 why.Range c.in_batch.ensures.1 (part-many c.in_batch.ensures.0 (name_bytes c.args.file) c.args.number free w.if-number-gt-MOST_PARTS.true)
    ]

pub returns-in_err-found : goal.returns-in_err-found
returns-in_err-found g c =
    let takes = part-takes c.in_batch.ensures.0 (name_bytes c.args.file) c.args.number c.in_batch.ensures.1 (sym c.in_batch.ensures.2 ∙ c.if-in_batch.false) c.if-number-eq0.false c.if-number-gt-MOST_PARTS.false in
    Untaken-ends c.in_err-found.field-0.0 c.chain_of.result c.from_residual.result takes c.chain_of.ensures.same c.chain_of.ensures.calls c.in_err-found.was c.in_err-found.ensures.fault c.from_residual.ensures.1

pub returns-in_err-found-2 : goal.returns-in_err-found-2
returns-in_err-found-2 g c =
    let takes = part-takes c.in_batch.ensures.0 (name_bytes c.args.file) c.args.number c.in_batch.ensures.1 (sym c.in_batch.ensures.2 ∙ c.if-in_batch.false) c.if-number-eq0.false c.if-number-gt-MOST_PARTS.false in
    Damaged-ends c.bits.result c.in_err-found-2.field-0.0 c.in_ok-found.found c.from_residual-in_err-found-2.result takes c.chain_of.ensures.same c.chain_of.ensures.calls (λ failed. let both = sym c.in_ok-found.was ∙ failed in cc)
    c.bits.ensures.kept c.in_err-found-2.was c.in_ok-found.ensures.taken c.from_residual-in_err-found-2.ensures.1

pub returns-in_err-bytes : goal.returns-in_err-bytes
returns-in_err-bytes g c =
    let takes = part-takes c.in_batch.ensures.0 (name_bytes c.args.file) c.args.number c.in_batch.ensures.1 (sym c.in_batch.ensures.2 ∙ c.if-in_batch.false) c.if-number-eq0.false c.if-number-gt-MOST_PARTS.false in
    Lacks-ends c.from_residual-in_err-bytes.result takes c.chain_of.ensures.same c.chain_of.ensures.calls (λ failed. let both = sym c.in_ok-found.was ∙ failed in cc) c.from_residual-in_err-bytes.ensures.1

pub returns-then-len : goal.returns-then-len
returns-then-len g c =
    let takes = part-takes c.in_batch.ensures.0 (name_bytes c.args.file) c.args.number c.in_batch.ensures.1 (sym c.in_batch.ensures.2 ∙ c.if-in_batch.false) c.if-number-eq0.false c.if-number-gt-MOST_PARTS.false in
    let taken = chain-of c.bits.result c.args.space.now.pool.bits c.in_ok-found-2.field-0 c.in_ok-found.found c.bits.ensures.kept c.in_ok-found-2.was c.in_ok-found.ensures.taken in
    let many : c.len.result ≡ length c.in_ok-bytes.bytes.items = search rules in
    Part-large c.in_ok-found-2.field-0 takes c.chain_of.ensures.same c.chain_of.ensures.calls (λ failed. let both = sym c.in_ok-found.was ∙ failed in cc) taken
    (many-bytes c.in_ok-found-2.field-0 c.args.space.now.pool c.in_ok-bytes.bytes.items c.len.result c.in_ok-bytes.ensures.bytes many c.if-len.true)

pub returns-in_err-keep : goal.returns-in_err-keep
returns-in_err-keep g c =
    let takes = part-takes c.in_batch.ensures.0 (name_bytes c.args.file) c.args.number c.in_batch.ensures.1 (sym c.in_batch.ensures.2 ∙ c.if-in_batch.false) c.if-number-eq0.false c.if-number-gt-MOST_PARTS.false in
    let taken = chain-of c.bits.result c.args.space.now.pool.bits c.in_ok-found-2.field-0 c.in_ok-found.found c.bits.ensures.kept c.in_ok-found-2.was c.in_ok-found.ensures.taken in
    let many : c.len.result ≡ length c.in_ok-bytes.bytes.items = search rules in
    Part-kept c.in_ok-found-2.field-0 takes c.chain_of.ensures.same c.chain_of.ensures.calls (λ failed. let both = sym c.in_ok-found.was ∙ failed in cc) taken
    c.deref-2.result.now c.deref.result.now c.keep.result c.from_residual-in_err-keep.result c.in_ok-bytes.bytes.items
    (few-bytes c.in_ok-bytes.bytes.items c.len.result many c.if-len.false) c.in_ok-bytes.ensures.bytes c.in_ok-bytes.ensures.document
    c.deref-2.ensures.value (c.deref.ensures.0 ∙ c.numbered.ensures) c.keep.ensures.told c.keep.ensures.calls
    (ap saved_as c.in_err-keep.was ∙ sym (fault-is c.from_residual-in_err-keep.result _ c.from_residual-in_err-keep.ensures.1))

pub returns : goal.returns
returns g c =
    let takes = part-takes c.in_batch.ensures.0 (name_bytes c.args.file) c.args.number c.in_batch.ensures.1 (sym c.in_batch.ensures.2 ∙ c.if-in_batch.false) c.if-number-eq0.false c.if-number-gt-MOST_PARTS.false in
    let taken = chain-of c.bits.result c.args.space.now.pool.bits c.in_ok-found-2.field-0 c.in_ok-found.found c.bits.ensures.kept c.in_ok-found-2.was c.in_ok-found.ensures.taken in
    let many : c.len.result ≡ length c.in_ok-bytes.bytes.items = search rules in
    Part-kept c.in_ok-found-2.field-0 takes c.chain_of.ensures.same c.chain_of.ensures.calls (λ failed. let both = sym c.in_ok-found.was ∙ failed in cc) taken
    c.deref-2.result.now c.deref.result.now c.keep.result (Ok tt) c.in_ok-bytes.bytes.items
    (few-bytes c.in_ok-bytes.bytes.items c.len.result many c.if-len.false) c.in_ok-bytes.ensures.bytes c.in_ok-bytes.ensures.document
    c.deref-2.ensures.value (c.deref.ensures.0 ∙ c.numbered.ensures) c.keep.ensures.told c.keep.ensures.calls
    (ap saved_as c.in_ok-keep.was)
