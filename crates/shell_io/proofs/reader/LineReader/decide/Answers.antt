use Rattle.std.proofs.Common.{◌≡◌, ◌+◌, false, length, take, arith, ap, sym, subst, ◌∙◌, inl, inr, refl}
use Rattle.std.proofs.lemmas.Bool.{cases_Bool}
use Rattle.shell_io.specs.Reader.{limit_of}
use Rattle.shell_io.specs.Pieces.{IsUnbroken}
use Rattle.shell_io.proofs.StandsLemmas.{used_up-line, used_up-unbroken}
use Rattle.shell_io.proofs.reader.LineReader.decide.Goals as goal

pub returns-then-self-at-clause-answers : goal.returns-then-self-at-clause-answers
returns-then-self-at-clause-answers c = λ input left s.
    let r = c.self.inside in
    let limit_is : limit_of r.most ≡ c.args.most + 1 = ap (λ v. limit_of v.most) c.self.view_is ∙ ap limit_of c.requires.known in
    let shown = c.held-held.ensures.shown in
    let found = c.in-Some.ensures.found in
    let place : r.given + (r.let_go + c.in-Some.at) ≡ c.args.most = omega (arith, limit_is, c.self.invariant.bounded, ap length shown, found.0) in
    let taken : r.given + r.let_go + length r.window.held ≡ c.args.most + 1 = omega (arith, limit_is, c.self.invariant.bounded, ap length shown, found.0) in
    let going_on : r.at_end ≡ false =
    elim (cases_Bool r.at_end) [ inl e ↦ absurd (omega (arith, limit_is, taken, c.self.invariant.early_end e)) | inr e ↦ e ] in
    let clean : IsUnbroken (take c.in-Some.at c.args.self.now.held) =
    subst (λ v. IsUnbroken (take c.in-Some.at v.held)) c.self.view_is (subst (λ xs. IsUnbroken (take c.in-Some.at xs)) shown found.1) in (
      refl,
      used_up-line input c.args.self.now left c.args.most c.in-Some.at s
          (sym (ap (λ v. v.taken) c.self.view_is) ∙ taken)
          (sym (ap (λ v. v.at_end) c.self.view_is) ∙ going_on)
          (sym (ap (λ v. v.given + (v.let_go + c.in-Some.at)) c.self.view_is) ∙ place)
          clean,
    )

pub returns-in-Some-clause-answers : goal.returns-in-Some-clause-answers
returns-in-Some-clause-answers c = λ input left s. c.give.ensures.answers input left c.args.most s c.requires.known

pub returns-then-self-clause-answers : goal.returns-then-self-clause-answers
returns-then-self-clause-answers c = λ input left s. c.give-then-self.ensures.answers input left c.args.most s c.requires.known

pub returns-then-taken-most-clause-answers : goal.returns-then-taken-most-clause-answers
returns-then-taken-most-clause-answers c = λ input left s.
    let r = c.self.inside in
    let limit_is : limit_of r.most ≡ c.args.most + 1 = ap (λ v. limit_of v.most) c.self.view_is ∙ ap limit_of c.requires.known in
    let shown = c.held-held.ensures.shown in
    let taken_is : r.given + r.let_go + length r.window.held ≡ c.args.self.now.taken = ap (λ v. v.taken) c.self.view_is in
    let taken : c.args.self.now.taken ≡ c.args.most + 1 =
    omega (arith, limit_is, taken_is, c.self.invariant.bounded, c.if-taken-most.true, c.taken.ensures.taken) in
    let given_is : r.given ≡ c.args.self.now.given = ap (λ v. v.given) c.self.view_is in
    let clean : IsUnbroken c.args.self.now.held =
    subst (λ v. IsUnbroken v.held) c.self.view_is (subst (λ xs. IsUnbroken xs) shown c.in_default.ensures.none) in (
      refl,
      used_up-unbroken input c.args.self.now left c.args.most s taken
          (sym (ap (λ v. v.at_end) c.self.view_is) ∙ c.if-self.false)
          (omega (arith, limit_is, given_is, c.self.invariant.in_time)) clean,
    )
