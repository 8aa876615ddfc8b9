use Rattle.std.proofs.Common.{◌∙◌}
use Rattle.std.proofs.lemmas.Result.{err_from_is_err_and}
use Rattle.shell_words.specs.Grammar.{the_end}
use Rattle.shell_words.proofs.pieces.number.Goals as goal

pub returns-in_err-number : goal.returns-in_err-number
returns-in_err-number c = λ f.
    let p = err_from_is_err_and c.from_residual.result c.from_residual.ensures.1 in
    rw (p.1, p.2) (c.in_err-number.ensures.read (λ n. the_end (f n)))

pub returns-in_err-nothing : goal.returns-in_err-nothing
returns-in_err-nothing c = λ f.
    let p = err_from_is_err_and c.from_residual-in_err-nothing.result c.from_residual-in_err-nothing.ensures.1 in
    rw (p.1, p.2) (c.in_ok-number.ensures.read (λ n. the_end (f n)) ∙ c.in_err-nothing.ensures (f c.in_ok-number.number))

pub returns : goal.returns
returns c = λ f. c.in_ok-number.ensures.read (λ n. the_end (f n)) ∙ c.in_ok-nothing.ensures (f c.in_ok-number.number)
