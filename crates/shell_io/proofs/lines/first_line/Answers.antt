use Rattle.std.proofs.Common.{◌≡◌, List, ℕ, take, subst, rules}
use Rattle.shell_io.specs.Pieces.{IsUnbroken}
use Rattle.shell_io.proofs.LinesLemmas.{pieces-at, pieces-one, newline_place, IsNewlineAt}
use Rattle.shell_io.proofs.lines.first_line.Goals as goal

pub range-requires-clause-end_boundary : goal.range-requires-clause-end_boundary
range-requires-clause-end_boundary c =
    let found = subst (λ (s : List ℕ). IsNewlineAt s c.in-Some.at) c.as_bytes.ensures.value c.in-Some.ensures.found in
    (newline_place c.args.text.now c.in-Some.at found).before

pub range_from-requires : goal.range_from-requires
range_from-requires c _ =
    let found = subst (λ (s : List ℕ). IsNewlineAt s c.in-Some.at) c.as_bytes.ensures.value c.in-Some.ensures.found in
    (newline_place c.args.text.now c.in-Some.at found).behind c.utf8.text

pub returns-in-Some-clause-pieces : goal.returns-in-Some-clause-pieces
returns-in-Some-clause-pieces c =
    let found = subst (λ (s : List ℕ). IsNewlineAt s c.in-Some.at) c.as_bytes.ensures.value c.in-Some.ensures.found in
    let front : c.range.result.now ≡ take c.in-Some.at c.args.text.now = search rules in
    rw (front, c.range_from.ensures.value) (pieces-at c.args.text.now c.in-Some.at found.1 found.2)

pub returns-in-Some-clause-unbroken : goal.returns-in-Some-clause-unbroken
returns-in-Some-clause-unbroken c =
    let found = subst (λ (s : List ℕ). IsNewlineAt s c.in-Some.at) c.as_bytes.ensures.value c.in-Some.ensures.found in
    let front : c.range.result.now ≡ take c.in-Some.at c.args.text.now = search rules in
    rw front found.1

pub returns-in-None-clause-pieces : goal.returns-in-None-clause-pieces
returns-in-None-clause-pieces c = pieces-one c.args.text.now c.requires (subst IsUnbroken c.as_bytes.ensures.value c.in-None.ensures.none)

pub returns-in-None-clause-unbroken : goal.returns-in-None-clause-unbroken
returns-in-None-clause-unbroken c = subst IsUnbroken c.as_bytes.ensures.value c.in-None.ensures.none
