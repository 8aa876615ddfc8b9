use Rattle.std.proofs.Common.{◌+◌, refl}
use Rattle.ewig_shell.proofs.SendingLemmas.{Puts-as, Puts-then, Puts-more, Puts-ends, Puts-failed}
use Rattle.ewig_shell.proofs.LinesLemmas.{one_more_at, all_others_at, all_at}
use Rattle.ewig_shell.proofs.reply.send_each.Goals as goal

pub loop-item-preserved : goal.loop-item-preserved
loop-item-preserved g c =
    Puts-as (one_more_at g.T.Shown.line c.args.shown.now c.loop-item.item-index c.item-item.result c.loop-item-test.true c.item-item.is)
    (Puts-then c.loop-item.invariant c.in_ok-put.ensures)

pub returns-in_err-put : goal.returns-in_err-put
returns-in_err-put g c =
    Puts-failed c.from_residual.ensures.0 refl
    (Puts-as (all_others_at g.T.Shown.line c.args.shown.now (c.loop-item.item-index + 1))
    (Puts-more _ (Puts-as (one_more_at g.T.Shown.line c.args.shown.now c.loop-item.item-index c.item-item.result c.loop-item-test.true c.item-item.is)
    (Puts-then c.loop-item.invariant c.in_err-put.ensures))))

pub returns-in_err-put-2 : goal.returns-in_err-put-2
returns-in_err-put-2 g c =
    Puts-failed c.from_residual-in_err-put-2.ensures.0 refl
    (Puts-as (all_at g.T.Shown.line c.args.shown.now c.loop-item.item-index c.loop-item-test.false) (Puts-then c.loop-item.invariant c.in_err-put-2.ensures))

pub returns : goal.returns
returns g c =
    Puts-ends refl
    (Puts-as (all_at g.T.Shown.line c.args.shown.now c.loop-item.item-index c.loop-item-test.false) (Puts-then c.loop-item.invariant c.in_ok-put-2.ensures))
    c.flush.ensures.sends
