use Rattle.std.proofs.Common.{length}
use Rattle.std.specs.Prelude.{◌↔◌}
use Rattle.shell_io.specs.Lines.{HasOverlong}
use Rattle.shell_io.proofs.lines.has_overlong.Given as goal

-- no piece so far was too long
abbrev pub invariant-loop-rest : goal.invariant-loop-rest
invariant-loop-rest l = HasOverlong l.fn.bytes ↔ HasOverlong l.rest

abbrev pub decreases-loop-rest : goal.decreases-loop-rest
decreases-loop-rest l = length l.rest
