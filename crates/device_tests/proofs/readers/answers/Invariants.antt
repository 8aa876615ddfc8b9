use Rattle.std.proofs.Common.{◌≡◌, ℕ, Some, true}
use Rattle.shell_io.specs.Reader.{may_take}
use Rattle.device_tests.proofs.readers.answers.Given as goal

-- the reader keeps the one bound that it is given, and each offer was ample and none came behind the end
abbrev pub invariant-loop : goal.invariant-loop
invariant-loop l = record {
  same_most : (k : ℕ) → l.reader.most ≡ Some k → k ≡ l.most;
  ample : l.source.ample ≡ true;
  room : l.source.room ≡ may_take l.most l.reader;
}
