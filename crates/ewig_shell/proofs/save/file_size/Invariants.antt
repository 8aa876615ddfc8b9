use Rattle.std.proofs.Common.{◌≡◌, ◌≤◌, ◌++◌, List, ℕ, length}
use Rattle.ewig_shell.specs.Step.{ended_lines, most_stored}
use Rattle.ewig_shell.proofs.save.file_size.Given as goal

-- the bytes of some first lines were counted, and the others are still to come
abbrev pub invariant-loop-line : goal.invariant-loop-line
invariant-loop-line l = record {
  so_far : List (List ℕ);
  others : so_far ++ l.line-iterator ≡ l.fn.lines;
  counted : l.size ≡ length (ended_lines so_far);
  few : l.size ≤ most_stored;
}
