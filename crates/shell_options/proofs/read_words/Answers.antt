use Rattle.std.proofs.Common.{◌∙◌, sym, ap, subst, map}
use Rattle.std.specs.Prelude.{string_bytes}
use Rattle.shell_options.specs.Shown.{ReadsWords, fault_by}
use Rattle.shell_options.proofs.OptionsLemmas.{bare_is_usage, found_mean, refused_reads}
use Rattle.shell_options.proofs.read_words.Goals as goal

pub returns-then-has_hyphens-clause-reads : goal.returns-then-has_hyphens-clause-reads
returns-then-has_hyphens-clause-reads c = bare_is_usage _ (sym c.has_hyphens.ensures.any ∙ c.if-has_hyphens.true)

pub returns-in-Err-clause-reads : goal.returns-in-Err-clause-reads
returns-in-Err-clause-reads c =
    refused_reads (map string_bytes c.args.words.now) c.in-Err.error c.fault_of.result (c.has_hyphens.ensures.words c.if-has_hyphens.false) c.in-Err.ensures
    (c.fault_of.ensures ∙ ap fault_by c.kind.ensures)

pub returns-clause-reads : goal.returns-clause-reads
returns-clause-reads c =
    let mean = found_mean (map string_bytes c.args.words.now) c.in-Ok.matches _ _ _ _ (c.has_hyphens.ensures.words c.if-has_hyphens.false) c.in-Ok.ensures
    c.get_str.ensures c.get_str-2.ensures c.get_str-3.ensures c.get_str-4.ensures in
    subst (λ o. ReadsWords o c.make_options.result) (sym mean) c.make_options.ensures.reads
