use Rattle.std.proofs.Common.{rules, refl, ap}
use Rattle.shell_io.proofs.StandsLemmas.{stands-start}
use Rattle.shell_io.proofs.reader.LineReader.new.Goals as goal

pub returns-clause-start : goal.returns-clause-start
returns-clause-start c = λ input.
    stands-start input _ (search rules) refl refl (ap (λ w. w.held) c.in_ok-window.ensures) refl refl
