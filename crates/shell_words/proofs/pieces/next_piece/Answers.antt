use Rattle.std.proofs.Common.{refl}
use Rattle.shell_words.specs.Grammar.{a_name}
use Rattle.shell_words.proofs.pieces.next_piece.Goals as goal

pub returns-in-Some-clause-read : goal.returns-in-Some-clause-read
unfolding a_name
returns-in-Some-clause-read c = λ more. rw (c.in-Some.is, c.split_piece.ensures.piece, c.split_piece.ensures.rest) refl

pub returns-in-None-clause-read : goal.returns-in-None-clause-read
unfolding a_name
returns-in-None-clause-read c = λ more. rw c.in-None.is refl
