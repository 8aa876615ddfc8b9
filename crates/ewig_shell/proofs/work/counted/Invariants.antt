use Rattle.std.proofs.Common.{◌≡◌, ℕ, ◌+◌, List, ◌++◌, length}
use Rattle.work_lines.specs.Lines.{work_lines}
use Rattle.ewig_shell.specs.Work.{Counts}
use Rattle.ewig_shell.proofs.work.counted.Given as goal

-- some first lines were executed and counted, and the others are still to come
abbrev pub invariant-loop-lines : goal.invariant-loop-lines
invariant-loop-lines l = record {
  done : List (List ℕ);
  others : done ++ l.lines.left ≡ work_lines l.seed l.count;
  counts : Counts done l.fn.space l.tally l.space;
  few : l.tally.ok + l.tally.refused + length l.lines.left ≡ 8 + l.count;
}

abbrev pub decreases-loop-lines : goal.decreases-loop-lines
decreases-loop-lines l = length l.lines.left
