use Rattle.std.proofs.Common.{◌≡◌, ◌++◌, List, ℕ}
use Rattle.ewig_shell.specs.Step.{ended_lines}
use Rattle.ewig_shell.proofs.save.collected.Given as goal

-- the bytes of some first lines were collected, and the others are still to come
abbrev pub invariant-loop-line : goal.invariant-loop-line
invariant-loop-line l = record {
  so_far : List (List ℕ);
  others : so_far ++ l.line-iterator ≡ l.fn.lines;
  collected : l.bytes.items ≡ ended_lines so_far;
}
