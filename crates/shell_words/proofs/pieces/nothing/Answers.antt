use Rattle.std.proofs.Common.{refl}
use Rattle.shell_words.specs.Grammar.{the_end}
use Rattle.shell_words.proofs.pieces.nothing.Goals as goal

pub returns-in-Some : goal.returns-in-Some
unfolding the_end
returns-in-Some c = λ command. rw c.in-Some.is refl

pub returns-in-None : goal.returns-in-None
unfolding the_end
returns-in-None c = λ command. rw c.in-None.is refl
