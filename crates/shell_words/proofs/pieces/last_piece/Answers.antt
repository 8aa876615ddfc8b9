use Rattle.std.proofs.Common.{◌∙◌}
use Rattle.std.proofs.lemmas.Result.{err_from_is_err_and}
use Rattle.shell_words.specs.Grammar.{the_end}
use Rattle.shell_words.proofs.GrammarLemmas.{if_named-bad}
use Rattle.shell_words.proofs.pieces.last_piece.Goals as goal

pub returns-in_err-nothing : goal.returns-in_err-nothing
returns-in_err-nothing c = λ f.
    let p = err_from_is_err_and c.from_residual-in_err-nothing.result c.from_residual-in_err-nothing.ensures.1 in
    rw (p.1, p.2) (c.in_ok-piece.ensures.read (λ b. the_end (f b)) ∙ if_named-bad _ _ _ (c.in_err-nothing.ensures (f c.in_ok-piece.piece.now)))
