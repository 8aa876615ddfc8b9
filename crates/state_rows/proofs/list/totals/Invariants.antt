use Rattle.state_rows.proofs.Counting.{AreTotals}
use Rattle.state_rows.proofs.list.totals.Given as goal

abbrev pub invariant-loop-entry : goal.invariant-loop-entry
invariant-loop-entry l = AreTotals l.heap l.yielded l.buffers l.lines
