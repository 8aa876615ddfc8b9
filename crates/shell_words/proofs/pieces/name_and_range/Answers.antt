use Rattle.std.proofs.Common.{◌∙◌, ap}
use Rattle.std.proofs.lemmas.Result.{err_from_is_err_and}
use Rattle.shell_words.specs.Grammar.{if_named, the_end, a_number}
use Rattle.shell_words.proofs.GrammarLemmas.{if_named-bad}
use Rattle.shell_words.proofs.pieces.name_and_range.Goals as goal

pub returns-in_err-from : goal.returns-in_err-from
returns-in_err-from c = λ f.
    let p = err_from_is_err_and c.from_residual-in_err-from.result c.from_residual-in_err-from.ensures.1 in
    rw (p.1, p.2)
    (c.in_ok-piece.ensures.read (λ b. a_number (λ i. a_number (λ j. the_end (f b i j))))
    ∙ if_named-bad _ _ _ (c.in_err-from.ensures (λ i j. the_end (f c.in_ok-piece.piece.now i j))))

pub returns-in_err-nothing : goal.returns-in_err-nothing
returns-in_err-nothing c = λ f.
    let p = err_from_is_err_and c.from_residual-in_err-nothing.result c.from_residual-in_err-nothing.ensures.1 in
    rw (p.1, p.2)
    (c.in_ok-piece.ensures.read (λ b. a_number (λ i. a_number (λ j. the_end (f b i j))))
    ∙ if_named-bad _ _ _
    (c.in_ok-from.ensures (λ i j. the_end (f c.in_ok-piece.piece.now i j))
    ∙ c.in_err-nothing.ensures (f c.in_ok-piece.piece.now c.in_ok-from.from c.in_ok-from.to)))

pub returns-in_err-name : goal.returns-in_err-name
returns-in_err-name c = λ f.
    let p = err_from_is_err_and c.from_residual-in_err-name.result c.from_residual-in_err-name.ensures.1 in
    rw (p.1, p.2)
    (c.in_ok-piece.ensures.read (λ b. a_number (λ i. a_number (λ j. the_end (f b i j))))
    ∙ ap (if_named c.in_ok-piece.piece.now)
    (c.in_ok-from.ensures (λ i j. the_end (f c.in_ok-piece.piece.now i j))
    ∙ c.in_ok-nothing.ensures (f c.in_ok-piece.piece.now c.in_ok-from.from c.in_ok-from.to))
    ∙ c.in_err-name.ensures (λ b. f b c.in_ok-from.from c.in_ok-from.to))

pub returns : goal.returns
returns c = λ f.
    c.in_ok-piece.ensures.read (λ b. a_number (λ i. a_number (λ j. the_end (f b i j))))
    ∙ ap (if_named c.in_ok-piece.piece.now)
    (c.in_ok-from.ensures (λ i j. the_end (f c.in_ok-piece.piece.now i j))
    ∙ c.in_ok-nothing.ensures (f c.in_ok-piece.piece.now c.in_ok-from.from c.in_ok-from.to))
    ∙ c.in_ok-name.ensures (λ b. f b c.in_ok-from.from c.in_ok-from.to)
