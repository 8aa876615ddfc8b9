use Rattle.std.proofs.Common.{◌∙◌}
use Rattle.std.proofs.lemmas.Result.{err_from_is_err_and}
use Rattle.shell_words.specs.Grammar.{a_number}
use Rattle.shell_words.proofs.pieces.next_range.Goals as goal

pub returns-in_err-to : goal.returns-in_err-to
returns-in_err-to c = λ more.
    let p = err_from_is_err_and c.from_residual-in_err-to.result c.from_residual-in_err-to.ensures.1 in
    rw (p.1, p.2) (c.in_ok-from.ensures.read (λ i. a_number (more i)) ∙ c.in_err-to.ensures.read (more c.in_ok-from.from))

pub returns : goal.returns
returns c = λ more. c.in_ok-from.ensures.read (λ i. a_number (more i)) ∙ c.in_ok-to.ensures.read (more c.in_ok-from.from)
