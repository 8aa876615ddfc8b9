use Rattle.std.proofs.Common.{◌≡◌, ℕ, ◌-◌, ◌≤◌, List, ◌++◌, length}
use Rattle.std.specs.Io.KnownBytes.{Appends}
use Rattle.shell_io.specs.Fault.{CountsFaults}
use Rattle.shell_io.proofs.device.write_all.Given as goal

-- what was written so far, and the rest, are the piece
abbrev pub invariant-loop-rest : goal.invariant-loop-rest
invariant-loop-rest g l = record {
  done : List ℕ;
  whole : l.fn.piece ≡ done ++ l.rest;
  written : Appends (g.K.Sink.written l.initial.sink) (g.K.Sink.written l.sink) done;
  counts : CountsFaults g.K.Sink.faults g.K.Sink.steady l.initial.sink l.sink ⊥;
  sure : (room : ℕ) → g.K.Sink.has_room l.initial.sink room → length l.fn.piece ≤ room →
      (g.K.Sink.faults l.sink ≡ g.K.Sink.faults l.initial.sink) × g.K.Sink.has_room l.sink (room - length done);
}

abbrev pub decreases-loop-rest : goal.decreases-loop-rest
decreases-loop-rest g l = length l.rest
