use Rattle.std.proofs.Common.{ap, ◌∙◌, refl, Some, rules, subst, sym}
use Rattle.shell_io.proofs.FaultLemmas.{Calls-then, Calls-as}
use Rattle.shell_io.specs.Reader.{Reading, may_take}
use Rattle.shell_io.proofs.StandsLemmas.{Answers-given, failed-ended, may_take-as}
use Rattle.shell_io.proofs.reader.LineReader.advance.Goals as goal

pub returns-in-Some-clause-answers : goal.returns-in-Some-clause-answers
returns-in-Some-clause-answers g c = λ input s.
    let inv = c.loop-answer.invariant in
    Answers-given c.args.most input c.args.self.now c.loop-answer.self c.decide.new.self c.in-Some.answer inv.given
    (c.in-Some.ensures.answers input _ (inv.stands input s))

pub returns-in-Err-clause-answers : goal.returns-in-Err-clause-answers
returns-in-Err-clause-answers g c = λ input s.
    let inv = c.loop-answer.invariant in
    let kept = c.in-Err.ensures.kept in (
      c.take_more.ensures.same.0 ∙ ap (λ r. r.given) c.in_default.ensures.undecided.0 ∙ inv.given,
      failed-ended input c.take_more.new.self _ (c.take_more.ensures.stands input (c.decide.ensures.stands input _ (inv.stands input s))) kept.1 kept.2,
    )

pub returns-in-Some-clause-ample : goal.returns-in-Some-clause-ample
returns-in-Some-clause-ample g c = λ h.
    let same = c.in-Some.ensures.same in
    subst (λ left. g.S.Source.ample c.loop-answer.source left) (sym (may_take-as c.args.most c.loop-answer.self c.decide.new.self same.0 same.2)) (c.loop-answer.invariant.ample h)

pub returns-in-Err-clause-ample : goal.returns-in-Err-clause-ample
returns-in-Err-clause-ample g c = λ h.
    let P : Reading → Type 0 = λ r. g.S.Source.ample c.loop-answer.source (may_take c.args.most r) in
    c.take_more.ensures.ample (subst P (sym c.in_default.ensures.undecided.0) (c.loop-answer.invariant.ample h))

pub loop-answer-preserved : goal.loop-answer-preserved
loop-answer-preserved g c =
    let inv = c.loop-answer.invariant in
    let first = c.in_default.ensures.undecided.0 in
    let P : Reading → Type 0 = λ r. g.S.Source.ample c.loop-answer.source (may_take c.args.most r) in
    let m = c.in-Ok.ensures in record {
      known = c.take_more.ensures.same.1 ∙ ap (λ r. r.most) first ∙ inv.known;
      open_still = c.take_more.ensures.same.2;
      no_line = c.take_more.ensures.same.3;
      within = m.searched.0;
      clean = m.searched.1;
      grows = search rules;
      given = c.take_more.ensures.same.0 ∙ ap (λ r. r.given) first ∙ inv.given;
      pulls = Calls-then inv.pulls (λ n. n) (Calls-as m.pulls (λ n. cc) (λ n. absurd n));
      ample = λ h. c.take_more.ensures.ample (subst P (sym first) (inv.ample h));
      stands = λ input s. c.take_more.ensures.stands input (c.decide.ensures.stands input _ (inv.stands input s));
    }

pub returns-in-Some-clause-pulls : goal.returns-in-Some-clause-pulls
returns-in-Some-clause-pulls g c = Calls-as c.loop-answer.invariant.pulls (λ n. absurd n) (λ n. c.decide.ensures.no_fault (c.in-Some.is ∙ ap Some n))

pub returns-in-Err-clause-pulls : goal.returns-in-Err-clause-pulls
returns-in-Err-clause-pulls g c =
    Calls-as (Calls-then c.loop-answer.invariant.pulls (λ n. n) c.in-Err.ensures.pulls) (λ n. refl) (λ n. refl)
