use Rattle.ewig_shell.proofs.RoundTripLemmas.{indent-then-load, dedent-then-load}
use Rattle.ewig_shell.proofs.laws.lines_moved_then_load.Goals as goal

pub returns : goal.returns
returns c = record { indented = indent-then-load; dedented = dedent-then-load }
