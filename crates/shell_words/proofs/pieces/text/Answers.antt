use Rattle.std.proofs.Common.{refl, sym, ap, Ok}
use Rattle.shell_words.specs.Grammar.{the_text}
use Rattle.shell_words.proofs.pieces.text.Goals as goal

pub returns-in-Some : goal.returns-in-Some
unfolding the_text
returns-in-Some c = λ f. rw c.in-Some.is (ap (λ t. Ok (f t)) (sym c.of_cell.ensures))

pub returns-in-None : goal.returns-in-None
unfolding the_text
returns-in-None c = λ f. rw c.in-None.is refl
