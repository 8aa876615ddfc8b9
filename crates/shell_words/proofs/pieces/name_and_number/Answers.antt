use Rattle.std.proofs.Common.{◌∙◌, ap}
use Rattle.std.proofs.lemmas.Result.{err_from_is_err_and}
use Rattle.shell_words.specs.Grammar.{if_named, the_end, a_number}
use Rattle.shell_words.proofs.GrammarLemmas.{if_named-bad}
use Rattle.shell_words.proofs.pieces.name_and_number.Goals as goal

pub returns-in_err-number : goal.returns-in_err-number
returns-in_err-number c = λ f.
    let p = err_from_is_err_and c.from_residual-in_err-number.result c.from_residual-in_err-number.ensures.1 in
    rw (p.1, p.2)
    (c.in_ok-piece.ensures.read (λ b. a_number (λ i. the_end (f b i)))
    ∙ if_named-bad _ _ _ (c.in_err-number.ensures.read (λ i. the_end (f c.in_ok-piece.piece.now i))))

pub returns-in_err-nothing : goal.returns-in_err-nothing
returns-in_err-nothing c = λ f.
    let p = err_from_is_err_and c.from_residual-in_err-nothing.result c.from_residual-in_err-nothing.ensures.1 in
    rw (p.1, p.2)
    (c.in_ok-piece.ensures.read (λ b. a_number (λ i. the_end (f b i)))
    ∙ if_named-bad _ _ _
    (c.in_ok-number.ensures.read (λ i. the_end (f c.in_ok-piece.piece.now i))
    ∙ c.in_err-nothing.ensures (f c.in_ok-piece.piece.now c.in_ok-number.number)))

pub returns-in_err-name : goal.returns-in_err-name
returns-in_err-name c = λ f.
    let p = err_from_is_err_and c.from_residual-in_err-name.result c.from_residual-in_err-name.ensures.1 in
    rw (p.1, p.2)
    (c.in_ok-piece.ensures.read (λ b. a_number (λ i. the_end (f b i)))
    ∙ ap (if_named c.in_ok-piece.piece.now)
    (c.in_ok-number.ensures.read (λ i. the_end (f c.in_ok-piece.piece.now i))
    ∙ c.in_ok-nothing.ensures (f c.in_ok-piece.piece.now c.in_ok-number.number))
    ∙ c.in_err-name.ensures (λ b. f b c.in_ok-number.number))

pub returns : goal.returns
returns c = λ f.
    c.in_ok-piece.ensures.read (λ b. a_number (λ i. the_end (f b i)))
    ∙ ap (if_named c.in_ok-piece.piece.now)
    (c.in_ok-number.ensures.read (λ i. the_end (f c.in_ok-piece.piece.now i))
    ∙ c.in_ok-nothing.ensures (f c.in_ok-piece.piece.now c.in_ok-number.number))
    ∙ c.in_ok-name.ensures (λ b. f b c.in_ok-number.number)
