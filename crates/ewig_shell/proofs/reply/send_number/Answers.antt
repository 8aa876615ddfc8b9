use Rattle.std.proofs.Common.{◌≡◌, codes, decimal, rules, refl}
use Rattle.ewig_shell.proofs.SendingLemmas.{Puts-as, Puts-then, Puts-more, Puts-ends, Puts-failed}
use Rattle.ewig_shell.proofs.PageLemmas.{number_put}
use Rattle.ewig_shell.proofs.reply.send_number.Goals as goal

pub returns-in_err-put : goal.returns-in_err-put
returns-in_err-put g c =
    Puts-failed c.from_residual.ensures.0 c.clear.ensures
    (Puts-as (number_put c.args.number (decimal c.args.number) refl) (Puts-more (codes "\n") (Puts-more (decimal c.args.number) c.in_err-put.ensures)))

pub returns-in_err-put-2 : goal.returns-in_err-put-2
returns-in_err-put-2 g c =
    let d : c.format.result.now ≡ decimal c.args.number = search rules in
    Puts-failed c.from_residual-in_err-put-2.ensures.0 c.clear.ensures
    (Puts-as (number_put c.args.number c.format.result.now d) (Puts-more (codes "\n") (Puts-then c.in_ok-put.ensures c.in_err-put-2.ensures)))

pub returns-in_err-put-3 : goal.returns-in_err-put-3
returns-in_err-put-3 g c =
    let d : c.format.result.now ≡ decimal c.args.number = search rules in
    Puts-failed c.from_residual-in_err-put-3.ensures.0 c.clear.ensures
    (Puts-as (number_put c.args.number c.format.result.now d) (Puts-then (Puts-then c.in_ok-put.ensures c.in_ok-put-2.ensures) c.in_err-put-3.ensures))

pub returns : goal.returns
returns g c =
    let d : c.format.result.now ≡ decimal c.args.number = search rules in
    Puts-ends c.clear.ensures
    (Puts-as (number_put c.args.number c.format.result.now d) (Puts-then (Puts-then c.in_ok-put.ensures c.in_ok-put-2.ensures) c.in_ok-put-3.ensures)) c.flush.ensures.sends
