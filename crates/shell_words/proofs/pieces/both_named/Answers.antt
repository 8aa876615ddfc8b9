use Rattle.std.proofs.Common.{◌∙◌, ap}
use Rattle.std.proofs.lemmas.Result.{err_from_is_err_and}
use Rattle.elem_core.specs.Shown.{name_bytes}
use Rattle.shell_words.specs.Grammar.{if_named}
use Rattle.shell_words.proofs.GrammarLemmas.{if_named-bad, if_named-first}
use Rattle.shell_words.proofs.pieces.both_named.Goals as goal

pub returns-in_err-name : goal.returns-in_err-name
returns-in_err-name c = λ f.
    let p = err_from_is_err_and c.from_residual.result c.from_residual.ensures.1 in
    rw (p.1, p.2) (if_named-first _ _ _ _ _ (c.in_err-name.ensures (λ b. f b c.args.other.now)))

pub returns-in_err-other : goal.returns-in_err-other
returns-in_err-other c = λ f.
    let p = err_from_is_err_and c.from_residual-in_err-other.result c.from_residual-in_err-other.ensures.1 in
    rw (p.1, p.2) (if_named-bad _ _ _ (c.in_err-other.ensures (f c.args.piece.now)))

pub returns : goal.returns
returns c = λ f.
    ap (if_named c.args.piece.now) (c.in_ok-other.ensures (f c.args.piece.now))
    ∙ c.in_ok-name.ensures (λ b. f b (name_bytes c.in_ok-other.other))
