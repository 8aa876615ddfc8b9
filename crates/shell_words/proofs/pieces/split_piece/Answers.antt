use Rattle.std.proofs.Common.{◌≡◌, ◌+◌, drop, ap, sym, ◌∙◌, Some, rules, arith}
use Rattle.std.specs.List.{position}
use Rattle.shell_words.specs.Grammar.{is_space, first_piece}
use Rattle.shell_words.proofs.GrammarLemmas.{spaced, unspaced, after_piece-spaced, after_piece-unspaced, first_piece-unspaced, cell-drop}
use Rattle.shell_words.proofs.pieces.split_piece.Goals as goal

pub range-requires-clause-end_boundary : goal.range-requires-clause-end_boundary
range-requires-clause-end_boundary c = (spaced c.args.text.now c.in-Some.at (ap (λ bytes. position is_space bytes) (sym c.as_bytes.ensures.value) ∙ sym c.in-Some.ensures)).before

pub range_from-requires : goal.range_from-requires
range_from-requires c _ = (spaced c.args.text.now c.in-Some.at (ap (λ bytes. position is_space bytes) (sym c.as_bytes.ensures.value) ∙ sym c.in-Some.ensures)).behind c.utf8.text

pub returns-in-Some-clause-piece : goal.returns-in-Some-clause-piece
unfolding first_piece
returns-in-Some-clause-piece c =
    let s = spaced c.args.text.now c.in-Some.at (ap (λ bytes. position is_space bytes) (sym c.as_bytes.ensures.value) ∙ sym c.in-Some.ensures) in
    rw s.first (search rules)

pub returns-in-Some-clause-rest : goal.returns-in-Some-clause-rest
returns-in-Some-clause-rest c =
    let text = c.args.text.now in
    let s = spaced text c.in-Some.at (ap (λ bytes. position is_space bytes) (sym c.as_bytes.ensures.value) ∙ sym c.in-Some.ensures) in
    let first = s.first in
    let inside = s.inside in
    ap (λ x. Some x) (c.range_from.ensures.value ∙ ap (λ n. drop (n + 1) text) (sym first)) ∙ sym (after_piece-spaced text (omega (arith, first, inside)))

pub returns-in-None-clause-piece : goal.returns-in-None-clause-piece
returns-in-None-clause-piece c = sym (first_piece-unspaced c.args.text.now (unspaced c.args.text.now (ap (λ bytes. position is_space bytes) (sym c.as_bytes.ensures.value) ∙ sym c.in-None.ensures)))

pub returns-in-None-clause-rest : goal.returns-in-None-clause-rest
returns-in-None-clause-rest c = sym (after_piece-unspaced c.args.text.now (unspaced c.args.text.now (ap (λ bytes. position is_space bytes) (sym c.as_bytes.ensures.value) ∙ sym c.in-None.ensures)))

pub returns-in-Some-clause-cell : goal.returns-in-Some-clause-cell
returns-in-Some-clause-cell c = λ cell x is.
    let value = c.range_from.ensures.value in
    let same : x ≡ drop (c.in-Some.at + 1) c.args.text.now = cc in
    rw same (cell-drop (c.in-Some.at + 1) c.args.text.now cell)
