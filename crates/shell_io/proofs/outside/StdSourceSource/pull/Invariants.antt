use Rattle.std.proofs.Common.{◌≡◌}
use Rattle.std.specs.Io.KnownBytes.{Keeps}
use Rattle.shell_io.proofs.outside.StdSourceSource.pull.Given as goal

-- no fault was counted yet, and no known byte was taken
abbrev pub invariant-loop : goal.invariant-loop
invariant-loop g l = record {
  faults : l.self.faults ≡ l.fn.self.faults;
  kept : Keeps (g.R.Read.remaining l.fn.self.input) (g.R.Read.remaining l.self.input);
}
