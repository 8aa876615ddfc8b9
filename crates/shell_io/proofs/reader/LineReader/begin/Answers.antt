use Rattle.std.proofs.Common.{◌≡◌, ◌+◌, cond, length, None, Some, ap, sym, refl, ◌∙◌, inl, inr}
use Rattle.std.proofs.lemmas.Bool.{cases_Bool}
use Rattle.shell_io.specs.declared.reader.Next.TheVariants.{End, Budget}
use Rattle.shell_io.proofs.StandsLemmas.{stands-begin, known_most}
use Rattle.shell_io.proofs.reader.LineReader.begin.Goals as goal

pub returns-clause-stands : goal.returns-clause-stands
returns-clause-stands c = λ input left s.
    let r = c.self.inside in
    stands-begin input c.args.self.now _ left c.args.most s
    (ap (λ w. r.given + r.let_go + length w.held) c.forget_line.ensures ∙ ap (λ v. v.taken) c.self.view_is)
    (ap (λ v. v.given) c.self.view_is) (ap (λ v. v.let_go) c.self.view_is)
    (ap (λ w. w.held) c.forget_line.ensures ∙ ap (λ v. v.held) c.self.view_is)
    (ap (λ v. v.at_end) c.self.view_is) (ap (λ v. v.settled) c.self.view_is) refl
    (λ a settled.
    elim (cases_Bool r.over) [
      | inl over ↦
          let (k, is) = known_most r.most (c.self.invariant.begun over) in
          let had : c.args.self.now.most ≡ Some k = sym (ap (λ v. v.most) c.self.view_is) ∙ is in
          had ∙ ap Some (c.requires.same_most k had)
      | inr going ↦
          let none : c.args.self.now.settled ≡ None =
          sym (ap (λ v. v.settled) c.self.view_is) ∙ ap (λ b. cond b (Some (cond r.at_end End Budget)) None) going in
          absurd (let e : None ≡ Some a = sym none ∙ settled in cc)
    ])
