use Rattle.std.proofs.Common.{arith}
use Rattle.shell_io.proofs.KnownLemmas.{Keeps-then, Keeps-consumed, none-given}
use Rattle.shell_io.proofs.outside.StdSourceSource.pull.Goals as goal
use Rattle.shell_io.proofs.outside.StdSourceSource.pull.Goals.{else-loop-test, then-loop-test+in-Err-2}

pub returns-in-Ok-clause-moved : goal.returns-in-Ok-clause-moved
returns-in-Ok-clause-moved g c = Keeps-consumed _ _ _ _ c.loop.invariant.kept c.in-Ok.ensures.bytes.0

pub returns-in-Ok-clause-at_end : goal.returns-in-Ok-clause-at_end
returns-in-Ok-clause-at_end g c = λ none. none-given _ _ _ _ c.in-Ok.count none c.loop.invariant.kept c.in-Ok.ensures.bytes.0 (c.in-Ok.ensures.bytes.1 none (omega (arith, c.requires, c.loop.auto.buf, c.read.auto.buf)))

pub returns-clause-kept : goal.returns-clause-kept
returns-clause-kept g c = elim c.loop-test.branch [
  | else-loop-test w ↦ rw w.self-is c.loop.invariant.kept
  | then-loop-test+in-Err-2 w ↦ rw w.self-is (Keeps-then _ _ _ c.loop.invariant.kept w.in-Err.ensures.bytes)
]
