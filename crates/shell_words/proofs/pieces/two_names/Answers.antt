use Rattle.std.proofs.Common.{◌∙◌, ap}
use Rattle.std.proofs.lemmas.Result.{err_from_is_err_and}
use Rattle.shell_words.specs.Grammar.{if_named, the_end, a_name}
use Rattle.shell_words.proofs.GrammarLemmas.{if_named-bad}
use Rattle.shell_words.proofs.pieces.two_names.Goals as goal

pub returns-in_err-other : goal.returns-in_err-other
returns-in_err-other c = λ f.
    let p = err_from_is_err_and c.from_residual-in_err-other.result c.from_residual-in_err-other.ensures.1 in
    rw (p.1, p.2)
    (c.in_ok-piece.ensures.read (λ b. a_name (λ d. the_end (f b d)))
    ∙ if_named-bad _ _ _ (c.in_err-other.ensures (f c.in_ok-piece.piece.now)))

pub returns : goal.returns
returns c = λ f.
    c.in_ok-piece.ensures.read (λ b. a_name (λ d. the_end (f b d)))
    ∙ ap (if_named c.in_ok-piece.piece.now) (c.in_ok-other.ensures (f c.in_ok-piece.piece.now))
    ∙ c.both_named.ensures f
