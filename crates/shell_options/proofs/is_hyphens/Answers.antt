use Rattle.std.proofs.Common.{◌∙◌, sym, ap}
use Rattle.std.specs.Str.{is_utf8}
use Rattle.std.proofs.lemmas.Str.{is_utf8-from_IsUtf8}
use Rattle.shell_options.specs.Split.{is_bare}
use Rattle.shell_options.proofs.OptionsLemmas.{bare_from}
use Rattle.shell_options.proofs.is_hyphens.Goals as goal

pub returns-else-eq-clause-word : goal.returns-else-eq-clause-word
returns-else-eq-clause-word c = λ no.
    let bytes_are = c.as_bytes-bytes.ensures.value ∙ c.as_str.ensures.value in (
      ap is_utf8 (sym bytes_are) ∙ is_utf8-from_IsUtf8 _ c.as_bytes-bytes.ensures.utf8,
      ap is_bare (sym bytes_are) ∙ bare_from _ _ _ _ _ c.eq.ensures c.as_slice.ensures c.if-eq.false c.eq-else-eq.ensures c.as_slice-else-eq.ensures no,
    )
