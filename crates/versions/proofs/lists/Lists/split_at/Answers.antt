use Rattle.std.proofs.Common.{◌≡◌, ◌<◌, ◌≤◌, length, take, drop, Err, refl, ap, sym, subst, ◌∙◌, arith, inl, inr}
use Rattle.std.specs.Prelude.{IsSome}
use Rattle.std.specs.FinMap as map
use Rattle.std.proofs.lemmas.Bool.{cases_lt}
use Rattle.std.proofs.lemmas.List.{take_all}
use Rattle.versions.specs.declared.faults.Fault.TheVariants.{Long, Range}
use Rattle.versions.specs.Store.{Holds, list_of}
use Rattle.versions.proofs.CallLemmas.{on-err, err-is, same-err, err-back}
use Rattle.versions.proofs.CallerLemmas.{get-made, still-held, same-list, made-forgotten}
use Rattle.versions.proofs.lists.Lists.split_at.Goals as goal

pub returns-in_err-front-clause-refused : goal.returns-in_err-front-clause-refused
returns-in_err-front-clause-refused g c = on-err c.from_residual.result _ c.in_err-front.ensures.refused

pub returns-in_err-front-clause-range : goal.returns-in_err-front-clause-range
returns-in_err-front-clause-range g c = (
  λ e. elim (cases_lt (length (list_of c.args.self.now c.args.version)) c.args.index) as (λ _. length (list_of c.args.self.now c.args.version) < c.args.index) [
    | inl far ↦ far
    | inr near ↦ absurd (c.slice.ensures.range.0 (c.in_err-front.was ∙ ap Err (sym (err-is c.from_residual.result c.in_err-front.field-0.0 Range c.from_residual.ensures.1 e))) (omega arith, near))
  ],
  λ far. err-back c.from_residual.result c.in_err-front.field-0.0 c.from_residual.ensures.1 ∙ ap Err (same-err _ _ (sym c.in_err-front.was ∙ c.slice.ensures.range.1 (λ part. absurd (omega (arith, far, part.1))))),
)

pub returns-in_err-front-clause-no_long : goal.returns-in_err-front-clause-no_long
returns-in_err-front-clause-no_long g c = λ e. c.slice.ensures.no_long (c.in_err-front.was ∙ ap Err (sym (err-is c.from_residual.result c.in_err-front.field-0.0 Long c.from_residual.ensures.1 e)))

pub slice-requires-2 : goal.slice-requires-2
slice-requires-2 g c = subst (λ m. Holds m c.args.version) (sym c.in_ok-front.ensures.made) (still-held c.args.self.now c.in_ok-front.front (take c.args.index (list_of c.args.self.now c.args.version)) c.args.version c.in_ok-front.ensures.fresh c.requires)

pub returns-in-Ok-clause-fresh : goal.returns-in-Ok-clause-fresh
returns-in-Ok-clause-fresh g c = c.in_ok-front.ensures.fresh

pub returns-in-Ok-clause-apart : goal.returns-in-Ok-clause-apart
returns-in-Ok-clause-apart g c = ap (λ m. map.get m c.in-Ok.back) (sym c.in_ok-front.ensures.made) ∙ c.in-Ok.ensures.fresh

pub returns-in-Ok-clause-made : goal.returns-in-Ok-clause-made
returns-in-Ok-clause-made g c =
    let lists = ap (λ m. list_of m c.args.version) c.in_ok-front.ensures.made ∙ same-list c.args.self.now c.in_ok-front.front (take c.args.index (list_of c.args.self.now c.args.version)) c.args.version c.in_ok-front.ensures.fresh c.requires in
    let whole : take c.len-len.result (list_of c.slice.new.self c.args.version) ≡ (list_of c.args.self.now c.args.version) = ap (take c.len-len.result) lists ∙ take_all c.len-len.result (list_of c.args.self.now c.args.version) (omega (arith, c.len-len.ensures)) in
    c.in-Ok.ensures.made ∙ (λ i. map.insert (c.in_ok-front.ensures.made i) c.in-Ok.back (drop c.args.index (whole i)))

pub returns-in-Ok-clause-range : goal.returns-in-Ok-clause-range
returns-in-Ok-clause-range g c =
    let near : c.args.index ≤ length (list_of c.args.self.now c.args.version) = elim (cases_lt (length (list_of c.args.self.now c.args.version)) c.args.index) as (λ _. c.args.index ≤ length (list_of c.args.self.now c.args.version)) [
      | inl far ↦ absurd (let one = c.slice.ensures.range.1 (λ part. absurd (omega (arith, far, part.1))) in let two = c.in_ok-front.was in cc)
      | inr near ↦ near
    ] in
    (λ e. absurd (let bad = e in cc), λ far. absurd (omega (arith, far, near)))

pub forget-requires : goal.forget-requires
forget-requires g c = subst (λ m. Holds m c.in_ok-front.front) (sym (c.in-Err.ensures.refused ∙ c.in_ok-front.ensures.made)) (subst IsSome (sym (get-made c.args.self.now c.in_ok-front.front (take c.args.index (list_of c.args.self.now c.args.version)))) refl)

pub returns-in-Err-clause-refused : goal.returns-in-Err-clause-refused
returns-in-Err-clause-refused g c = c.forget.ensures ∙ ap (λ m. map.remove m c.in_ok-front.front) (c.in-Err.ensures.refused ∙ c.in_ok-front.ensures.made) ∙ made-forgotten c.args.self.now c.in_ok-front.front (take c.args.index (list_of c.args.self.now c.args.version)) c.in_ok-front.ensures.fresh

pub returns-in-Err-clause-range : goal.returns-in-Err-clause-range
returns-in-Err-clause-range g c =
    let near : c.args.index ≤ length (list_of c.args.self.now c.args.version) = elim (cases_lt (length (list_of c.args.self.now c.args.version)) c.args.index) as (λ _. c.args.index ≤ length (list_of c.args.self.now c.args.version)) [
      | inl far ↦ absurd (let one = c.slice.ensures.range.1 (λ part. absurd (omega (arith, far, part.1))) in let two = c.in_ok-front.was in cc)
      | inr near ↦ near
    ] in
    let lists = ap (λ m. list_of m c.args.version) c.in_ok-front.ensures.made ∙ same-list c.args.self.now c.in_ok-front.front (take c.args.index (list_of c.args.self.now c.args.version)) c.args.version c.in_ok-front.ensures.fresh c.requires in
    (λ e. absurd (c.slice-2.ensures.range.0 (c.in-Err.is ∙ ap Err (same-err _ _ e)) (omega (arith, near, c.len-len.ensures), omega (arith, c.len-len.ensures, ap length lists))), λ far. absurd (omega (arith, far, near)))

pub returns-in-Err-clause-no_long : goal.returns-in-Err-clause-no_long
returns-in-Err-clause-no_long g c = λ e. c.slice-2.ensures.no_long (c.in-Err.is ∙ ap Err (same-err _ _ e))
