use Rattle.std.proofs.Common.{codes, refl}
use Rattle.ewig_shell.proofs.SendingLemmas.{Puts-as, Puts-then, Puts-cut, Puts-more}
use Rattle.ewig_shell.proofs.PageLemmas.{text_put}
use Rattle.ewig_shell.proofs.page.Page.put_in_parts.Goals as goal

pub returns-in_err-put : goal.returns-in_err-put
returns-in_err-put g c =
    let h = c.from_residual.ensures.0 in
    Puts-as (text_put c.args.shown.now c.args.shown.now refl) (Puts-cut (codes "\n") h (Puts-more c.args.shown.now c.in_err-put.ensures))

pub returns-in_err-put-2 : goal.returns-in_err-put-2
returns-in_err-put-2 g c =
    let h = c.from_residual-in_err-put-2.ensures.0 in
    Puts-as (text_put c.args.shown.now c.args.shown.now refl) (Puts-cut (codes "\n") h (Puts-then c.in_ok-put.ensures c.in_err-put-2.ensures))

pub returns : goal.returns
returns g c = Puts-as (text_put c.args.shown.now c.args.shown.now refl) (Puts-then (Puts-then c.in_ok-put.ensures c.in_ok-put-2.ensures) c.put-3.ensures)
