use Rattle.std.proofs.Common.{sym}
use Rattle.shell_io.proofs.NewlineLemmas.{unbroken_from, found_from}
use Rattle.shell_io.proofs.reader.newline_from.Goals as goal

pub returns-in_err-at-clause-none : goal.returns-in_err-at-clause-none
returns-in_err-at-clause-none c =
    rw c.from_residual.ensures (unbroken_from c.args.bytes.now c.args.from c.requires.within c.requires.clean (sym c.in_err-at.ensures))

pub returns-clause-found : goal.returns-clause-found
returns-clause-found c = found_from c.args.bytes.now c.args.from c.in_ok-at.at c.requires.within c.requires.clean (sym c.in_ok-at.ensures)
