use Rattle.std.proofs.Common.{refl, sym, ◌∙◌, ap, ◌≡◌, Some, None}
use Rattle.shell_words.specs.Number.{number_of}
use Rattle.shell_words.specs.Grammar.{a_number, first_piece}
use Rattle.shell_words.proofs.pieces.next_number.Goals as goal

pub returns-in_default-clause-read : goal.returns-in_default-clause-read
unfolding a_number
returns-in_default-clause-read c = λ more. rw c.in_default.is refl

pub returns-in-Some-decimal-clause-read : goal.returns-in-Some-decimal-clause-read
unfolding a_number
returns-in-Some-decimal-clause-read c = λ more.
    let read : number_of (first_piece c.in-Some.text.now) ≡ Some c.in-Some-decimal.number =
    ap number_of (sym c.split_piece.ensures.piece) ∙ sym c.in-Some-decimal.ensures in
    rw (c.in-Some.is, read, c.split_piece.ensures.rest) refl

pub returns-in-None-clause-read : goal.returns-in-None-clause-read
unfolding a_number
returns-in-None-clause-read c = λ more.
    let unread : number_of (first_piece c.in-Some.text.now) ≡ None =
    ap number_of (sym c.split_piece.ensures.piece) ∙ sym c.in-None.ensures in
    rw (c.in-Some.is, unread) refl
