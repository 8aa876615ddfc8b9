use Rattle.std.proofs.Common.{◌≡◌, codes, decimal, rules, refl}
use Rattle.ewig_shell.proofs.SendingLemmas.{Puts-as, Puts-then, Puts-cut, Puts-more}
use Rattle.ewig_shell.proofs.PageLemmas.{size_put}
use Rattle.ewig_shell.proofs.page.Page.put_count.Goals as goal

pub returns-in_err-put : goal.returns-in_err-put
returns-in_err-put g c =
    let h = c.from_residual.ensures.0 in
    Puts-as (size_put c.args.word.now c.args.number c.args.word.now (decimal c.args.number) refl refl)
    (Puts-cut (codes "\n") h (Puts-more (decimal c.args.number) (Puts-more (codes " ") (Puts-more c.args.word.now c.in_err-put.ensures))))

pub returns-in_err-put-2 : goal.returns-in_err-put-2
returns-in_err-put-2 g c =
    let h = c.from_residual-in_err-put-2.ensures.0 in
    Puts-as (size_put c.args.word.now c.args.number c.args.word.now (decimal c.args.number) refl refl)
    (Puts-cut (codes "\n") h (Puts-more (decimal c.args.number) (Puts-more (codes " ") (Puts-then c.in_ok-put.ensures c.in_err-put-2.ensures))))

pub returns-in_err-put-3 : goal.returns-in_err-put-3
returns-in_err-put-3 g c =
    let h = c.from_residual-in_err-put-3.ensures.0 in
    Puts-as (size_put c.args.word.now c.args.number c.args.word.now (decimal c.args.number) refl refl)
    (Puts-cut (codes "\n") h (Puts-more (decimal c.args.number) (Puts-then (Puts-then c.in_ok-put.ensures c.in_ok-put-2.ensures) c.in_err-put-3.ensures)))

pub returns-in_err-put-4 : goal.returns-in_err-put-4
returns-in_err-put-4 g c =
    let d : c.format.result.now ≡ decimal c.args.number = search rules in
    Puts-as (size_put c.args.word.now c.args.number c.args.word.now c.format.result.now refl d)
    (Puts-cut (codes "\n") c.from_residual-in_err-put-4.ensures.0 (Puts-then (Puts-then (Puts-then c.in_ok-put.ensures c.in_ok-put-2.ensures) c.in_ok-put-3.ensures) c.in_err-put-4.ensures))

pub returns : goal.returns
returns g c =
    let d : c.format.result.now ≡ decimal c.args.number = search rules in
    Puts-as (size_put c.args.word.now c.args.number c.args.word.now c.format.result.now refl d)
    (Puts-then (Puts-then (Puts-then (Puts-then c.in_ok-put.ensures c.in_ok-put-2.ensures) c.in_ok-put-3.ensures) c.in_ok-put-4.ensures) c.put-5.ensures)
