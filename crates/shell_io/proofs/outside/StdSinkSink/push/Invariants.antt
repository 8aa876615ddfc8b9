use Rattle.std.proofs.Common.{◌≡◌}
use Rattle.std.specs.Io.KnownBytes.{Keeps}
use Rattle.shell_io.proofs.outside.StdSinkSink.push.Given as goal

-- no fault was counted yet, and nothing was written
abbrev pub invariant-loop : goal.invariant-loop
invariant-loop g l = record {
  faults : l.self.faults ≡ l.fn.self.faults;
  kept : Keeps (g.W.Write.contents l.fn.self.output) (g.W.Write.contents l.self.output);
}
