use Rattle.std.proofs.Common.{◌+◌}
use Rattle.std.proofs.lemmas.List.{take_rest}
use Rattle.shell_io.proofs.LinesLemmas.{pieces-at, pieces-one}
use Rattle.shell_io.proofs.lines.first_piece.Goals as goal

pub returns-in-Some-clause-pieces : goal.returns-in-Some-clause-pieces
returns-in-Some-clause-pieces c =
    rw (take_rest c.args.bytes.now (c.in-Some.at + 1))
    (pieces-at c.args.bytes.now c.in-Some.at c.in-Some.ensures.found.1 c.in-Some.ensures.found.2)

pub returns-in-None-clause-pieces : goal.returns-in-None-clause-pieces
returns-in-None-clause-pieces c = pieces-one c.args.bytes.now c.requires c.in-None.ensures.none
