use Rattle.std.proofs.Common.{cond, None, Some, ap, ◌∙◌}
use Rattle.shell_io.specs.declared.reader.Next.TheVariants.{End, Budget}
use Rattle.shell_io.proofs.StandsLemmas.{stands-settled, Answers-again, Answers-given, Answers-new}
use Rattle.shell_io.proofs.reader.LineReader.next.Goals as goal

pub returns-then-self-clause-answers : goal.returns-then-self-clause-answers
returns-then-self-clause-answers g c = λ input s.
    Answers-again c.args.most input c.args.self.now _ c.last_answer.result (ap (λ v. v.given) c.begin.ensures.begun)
    ((c.begin.ensures.stands input _ s).settled_is c.args.most c.last_answer.result (ap (λ v. v.most) c.begin.ensures.begun) c.last_answer.ensures)

pub returns-clause-stands : goal.returns-clause-stands
returns-clause-stands g c = λ input s.
    let begun = c.begin.ensures.stands input _ s in
    stands-settled input _ c.advance-answer.new.self _ _ c.args.most c.advance-answer.result c.is_last-self-inside.result
    (c.advance-answer.ensures.stands input begun)
    (record {
      taken = ap (λ v. v.taken) c.self-2.view_is;
      given = ap (λ v. v.given) c.self-2.view_is;
      let_go = ap (λ v. v.let_go) c.self-2.view_is;
      held = ap (λ v. v.held) c.self-2.view_is;
      at_end = ap (λ v. v.at_end) c.self-2.view_is;
      settled = ap (λ v. cond c.is_last-self-inside.result (Some (cond v.at_end End Budget)) None) c.self-2.view_is;
      which = λ e. c.is_last-self-inside.ensures.0 e;
      end_is = c.advance-answer.ensures.end;
      budget_is = λ e. (c.advance-answer.ensures.budget e).1;
    })
    (ap (λ v. v.most) c.self-2.view_is ∙ c.advance-answer.ensures.same.0 ∙ ap (λ v. v.most) c.begin.ensures.begun)
    (c.advance-answer.ensures.answers input begun)

pub returns-clause-answers : goal.returns-clause-answers
returns-clause-answers g c = λ input s.
    let begun = c.begin.ensures.stands input _ s in
    Answers-new c.args.most input c.args.self.now c.advance-answer.new.self _ c.advance-answer.result
    (ap (λ v. v.given) c.self-2.view_is) (ap (λ v. v.taken) c.self-2.view_is) (ap (λ v. v.line) c.self-2.view_is)
    (Answers-given c.args.most input c.args.self.now _ c.advance-answer.new.self c.advance-answer.result
    (ap (λ v. v.given) c.begin.ensures.begun) (c.advance-answer.ensures.answers input begun))
