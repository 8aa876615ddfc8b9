use Rattle.std.proofs.Common.{[], take, map, Ok}
use Rattle.ewig_shell.specs.Step.{reply_of}
use Rattle.ewig_shell.specs.Sending.{Puts}
use Rattle.ewig_shell.proofs.reply.send_each.Given as goal

-- the lines of those so far were put
abbrev pub invariant-loop-item : goal.invariant-loop-item
invariant-loop-item g l = Puts g.K.Sink l.fn.sink [] l.sink l.page (Ok tt) (reply_of (map g.T.Shown.line (take l.item-index l.shown)))
