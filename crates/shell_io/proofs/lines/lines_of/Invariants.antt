use Rattle.std.proofs.Common.{◌≡◌, ◌++◌, length}
use Rattle.std.specs.Prelude.{◌↔◌}
use denote.Text.{Utf8}
use denote.Shadow.{shadow}
use Rattle.shell_io.specs.Pieces.{pieces}
use Rattle.shell_io.specs.Lines.{HasOverlong}
use Rattle.shell_io.proofs.lines.lines_of.Given as goal

-- the lines so far and the pieces of the rest are the pieces of all, and none so far was too long
abbrev pub invariant-loop-rest : goal.invariant-loop-rest
invariant-loop-rest l = shadow (Utf8 l.rest) × record {
  pieces_are : pieces l.fn.bytes ≡ l.lines.items ++ pieces l.rest;
  long : HasOverlong l.fn.bytes ↔ HasOverlong l.rest;
}

abbrev pub decreases-loop-rest : goal.decreases-loop-rest
decreases-loop-rest l = length l.rest
