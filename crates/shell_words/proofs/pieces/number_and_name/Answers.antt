use Rattle.std.proofs.Common.{◌∙◌}
use Rattle.std.proofs.lemmas.Result.{err_from_is_err_and}
use Rattle.shell_words.specs.Grammar.{the_end, a_name}
use Rattle.shell_words.proofs.pieces.number_and_name.Goals as goal

pub returns-in_err-number : goal.returns-in_err-number
returns-in_err-number c = λ f.
    let p = err_from_is_err_and c.from_residual.result c.from_residual.ensures.1 in
    rw (p.1, p.2) (c.in_err-number.ensures.read (λ i. a_name (λ b. the_end (f i b))))

pub returns-in_err-name : goal.returns-in_err-name
returns-in_err-name c = λ f.
    let p = err_from_is_err_and c.from_residual-in_err-name.result c.from_residual-in_err-name.ensures.1 in
    rw (p.1, p.2) (c.in_ok-number.ensures.read (λ i. a_name (λ b. the_end (f i b))) ∙ c.in_err-name.ensures (f c.in_ok-number.number))

pub returns : goal.returns
returns c = λ f. c.in_ok-number.ensures.read (λ i. a_name (λ b. the_end (f i b))) ∙ c.in_ok-name.ensures (f c.in_ok-number.number)
