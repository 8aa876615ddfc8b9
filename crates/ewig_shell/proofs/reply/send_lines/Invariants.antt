use Rattle.std.proofs.Common.{◌≡◌, [], ◌++◌, List, ℕ, map, Ok}
use Rattle.plain_space.specs.Answer.{text_line}
use Rattle.ewig_shell.specs.Step.{reply_of}
use Rattle.ewig_shell.specs.Sending.{Puts}
use Rattle.ewig_shell.proofs.reply.send_lines.Given as goal

-- some first lines were put, and the others are still to come
abbrev pub invariant-loop-line : goal.invariant-loop-line
invariant-loop-line g l = record {
  so_far : List (List ℕ);
  others : so_far ++ l.line-iterator ≡ l.fn.lines;
  puts : Puts g.K.Sink l.fn.sink [] l.sink l.page (Ok tt) (reply_of (map text_line so_far));
}
