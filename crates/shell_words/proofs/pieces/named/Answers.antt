use Rattle.std.proofs.Common.{refl, sym, ◌∙◌, ap, Ok}
use Rattle.std.proofs.lemmas.Bool.{false≢true}
use Rattle.shell_words.proofs.GrammarLemmas.{if_named-yes, if_named-no}
use Rattle.shell_words.proofs.pieces.named.Goals as goal

pub returns-in-Some : goal.returns-in-Some
returns-in-Some c = λ f.
    if_named-yes c.args.piece.now (f c.args.piece.now) (c.in-Some.ensures.tested.0 refl)
    ∙ ap (λ bytes. Ok (f bytes)) (sym c.in-Some.ensures.kept)

pub returns-in-None : goal.returns-in-None
returns-in-None c = λ f. if_named-no c.args.piece.now (f c.args.piece.now) (λ named. false≢true (c.in-None.ensures.tested.1 named))
