use Rattle.std.proofs.Common.{◌∙◌, ap}
use Rattle.std.proofs.lemmas.Result.{err_from_is_err_and}
use Rattle.elem_core.specs.Shown.{line_bytes}
use Rattle.shell_words.specs.Grammar.{if_named, the_text, a_number}
use Rattle.shell_words.proofs.GrammarLemmas.{if_named-bad}
use Rattle.shell_words.proofs.pieces.name_number_and_text.Goals as goal

pub returns-in_err-number : goal.returns-in_err-number
returns-in_err-number c = λ f.
    let p = err_from_is_err_and c.from_residual-in_err-number.result c.from_residual-in_err-number.ensures.1 in
    rw (p.1, p.2)
    (c.in_ok-piece.ensures.read (λ b. a_number (λ i. the_text (λ t. f b i t)))
    ∙ if_named-bad _ _ _ (c.in_err-number.ensures.read (λ i. the_text (λ t. f c.in_ok-piece.piece.now i t))))

pub returns-in_err-text : goal.returns-in_err-text
returns-in_err-text c = λ f.
    let p = err_from_is_err_and c.from_residual-in_err-text.result c.from_residual-in_err-text.ensures.1 in
    rw (p.1, p.2)
    (c.in_ok-piece.ensures.read (λ b. a_number (λ i. the_text (λ t. f b i t)))
    ∙ if_named-bad _ _ _
    (c.in_ok-number.ensures.read (λ i. the_text (λ t. f c.in_ok-piece.piece.now i t))
    ∙ c.in_err-text.ensures (λ t. f c.in_ok-piece.piece.now c.in_ok-number.number t)))

pub returns-in_err-name : goal.returns-in_err-name
returns-in_err-name c = λ f.
    let p = err_from_is_err_and c.from_residual-in_err-name.result c.from_residual-in_err-name.ensures.1 in
    rw (p.1, p.2)
    (c.in_ok-piece.ensures.read (λ b. a_number (λ i. the_text (λ t. f b i t)))
    ∙ ap (if_named c.in_ok-piece.piece.now)
    (c.in_ok-number.ensures.read (λ i. the_text (λ t. f c.in_ok-piece.piece.now i t))
    ∙ c.in_ok-text.ensures (λ t. f c.in_ok-piece.piece.now c.in_ok-number.number t))
    ∙ c.in_err-name.ensures (λ b. f b c.in_ok-number.number (line_bytes c.in_ok-text.text)))

pub returns : goal.returns
returns c = λ f.
    c.in_ok-piece.ensures.read (λ b. a_number (λ i. the_text (λ t. f b i t)))
    ∙ ap (if_named c.in_ok-piece.piece.now)
    (c.in_ok-number.ensures.read (λ i. the_text (λ t. f c.in_ok-piece.piece.now i t))
    ∙ c.in_ok-text.ensures (λ t. f c.in_ok-piece.piece.now c.in_ok-number.number t))
    ∙ c.in_ok-name.ensures (λ b. f b c.in_ok-number.number (line_bytes c.in_ok-text.text))
