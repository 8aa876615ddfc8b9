use Rattle.std.proofs.Common.{List, ℕ, sym, subst, refl, rules}
use Rattle.shell_io.specs.Reader.{GivesNext}
use Rattle.ewig_shell.proofs.QuitLemmas.{quits-long}
use Rattle.ewig_shell.proofs.StepLemmas.{StepsOn-long}
use Rattle.ewig_shell.proofs.RunLemmas.{Going-next, Going-end, Going-budget, Going-failed}
use Rattle.ewig_shell.proofs.AnsweredLemmas.{Answered-next, Answered-long, Answered-end}
use Rattle.ewig_shell.specs.declared.run.Status.TheVariants as status
use Rattle.ewig_shell.proofs.EndLemmas.{KeepsSure-none, KeepsSure-step}
use Rattle.ewig_shell.proofs.run.turn.Goals as goal

pub returns-in-Line-clause-goes : goal.returns-in-Line-clause-goes
returns-in-Line-clause-goes g c = record { begun = search rules; bits = search rules; causes = search rules; stores = KeepsSure-step c.execute.ensures.replies.due.counts }

pub returns-in-Line-clause-told : goal.returns-in-Line-clause-told
returns-in-Line-clause-told g c = λ asked input begin first going.
    let next = subst (λ (piece : List ℕ). GivesNext c.args.most input c.args.reader.now c.next.new.self piece) (sym c.line.ensures) (c.in-Line.ensures.answers input going.stands) in
    let done = c.execute.ensures.replies in
    Going-next going (c.in-Line.ensures.stands input going.stands) next c.in-Line.ensures.bounded
    (record { reply = done.reply; due = done.due; sends = done.sends }) c.execute.ensures.quits c.status_after.ensures

pub returns-in-Long-clause-goes : goal.returns-in-Long-clause-goes
returns-in-Long-clause-goes g c = record { begun = search rules; bits = search rules; causes = search rules; stores = KeepsSure-none }

pub returns-in-Long-clause-answers : goal.returns-in-Long-clause-answers
returns-in-Long-clause-answers g c = λ asked begin first so_far. Answered-long so_far c.refuse_long.ensures.sends c.status_after-in-Long.ensures

pub returns-in-Long-clause-told : goal.returns-in-Long-clause-told
returns-in-Long-clause-told g c = λ asked input begin first going.
    let next = c.in-Long.ensures.answers input going.stands in
    Going-next going (c.in-Long.ensures.stands input going.stands) next.2 c.in-Long.ensures.bounded
    (record { reply = _; due = StepsOn-long next.0 next.1; sends = c.refuse_long.ensures.sends })
    (quits-long _ next.0 next.1 c.refuse_long.ensures.on) c.status_after-in-Long.ensures

pub returns-in-End-clause-goes : goal.returns-in-End-clause-goes
returns-in-End-clause-goes g c = record { begun = search rules; bits = search rules; causes = search rules; stores = KeepsSure-none }

pub returns-in-End-clause-told : goal.returns-in-End-clause-told
returns-in-End-clause-told g c = λ asked input begin first going.
    Going-end _ going (c.in-End.ensures.stands input going.stands) c.in-End.ensures.bounded (c.in-End.ensures.answers input going.stands)

pub returns-in-Budget-clause-goes : goal.returns-in-Budget-clause-goes
returns-in-Budget-clause-goes g c = record { begun = search rules; bits = search rules; causes = search rules; stores = KeepsSure-none }

pub returns-in-Budget-clause-told : goal.returns-in-Budget-clause-told
returns-in-Budget-clause-told g c = λ asked input begin first going.
    Going-budget _ going (c.in-Budget.ensures.stands input going.stands) c.in-Budget.ensures.bounded (c.in-Budget.ensures.answers input going.stands)

pub returns-in-Failed-clause-goes : goal.returns-in-Failed-clause-goes
returns-in-Failed-clause-goes g c = record { begun = search rules; bits = search rules; causes = search rules; stores = KeepsSure-none }

pub returns-in-Failed-clause-told : goal.returns-in-Failed-clause-told
returns-in-Failed-clause-told g c = λ asked input begin first going.
    Going-failed _ going (c.in-Failed.ensures.stands input going.stands) (c.in-Failed.ensures.in_bound refl) (c.in-Failed.ensures.answers input going.stands)

pub returns-in-End-clause-answers : goal.returns-in-End-clause-answers
returns-in-End-clause-answers g c = λ asked begin first so_far. Answered-end status.Done (λ e. cc) so_far

pub returns-in-Budget-clause-answers : goal.returns-in-Budget-clause-answers
returns-in-Budget-clause-answers g c = λ asked begin first so_far. Answered-end status.TooLong (λ e. cc) so_far

pub returns-in-Failed-clause-answers : goal.returns-in-Failed-clause-answers
returns-in-Failed-clause-answers g c = λ asked begin first so_far. Answered-end status.ReadFault (λ e. cc) so_far

pub returns-in-Line-clause-answers : goal.returns-in-Line-clause-answers
returns-in-Line-clause-answers g c = λ asked begin first so_far.
    let done = c.execute.ensures.replies in
    Answered-next so_far (record { reply = done.reply; due = done.due; sends = done.sends }) c.status_after.ensures
