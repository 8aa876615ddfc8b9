use Rattle.std.proofs.Common.{◌≡◌, ℕ, ◌+◌, ◌-◌, ◌≤◌, List, [], length, take, None, Some, cond}
use Rattle.shell_io.specs.Fault.{Calls}
use Rattle.shell_io.specs.Pieces.{IsUnbroken}
use Rattle.shell_io.specs.Reader.{StandsIn, may_take}
use Rattle.shell_io.proofs.reader.LineReader.advance.Given as goal

-- no piece was given yet, and the reader stands where it stood, with more bytes
abbrev pub invariant-loop-answer : goal.invariant-loop-answer
invariant-loop-answer g l = record {
  known : l.self.most ≡ Some l.most;
  open_still : l.self.settled ≡ None;
  no_line : l.self.line ≡ [];
  within : l.searched ≤ length l.self.held;
  clean : IsUnbroken (take l.searched l.self.held);
  grows : l.initial.self.taken ≤ l.self.taken;
  given : l.self.given ≡ l.initial.self.given;
  pulls : Calls g.S.Source.faults g.S.Source.steady g.S.Source.faultless l.initial.source l.source ⊥;
  ample : g.S.Source.ample l.initial.source (may_take l.most l.initial.self) → g.S.Source.ample l.source (may_take l.most l.self);
  stands : (input : List ℕ) → StandsIn input l.initial.self (g.S.Source.left l.initial.source) → StandsIn input l.self (g.S.Source.left l.source);
}

abbrev pub decreases-loop-answer : goal.decreases-loop-answer
decreases-loop-answer g l = (l.most + 1 - l.self.taken) + cond l.self.at_end 0 1
