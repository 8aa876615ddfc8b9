use Rattle.std.proofs.Common.{rules, arith, sym}
use Rattle.std.proofs.lemmas.Bool.{eqb-true}
use Rattle.shell_io.proofs.LinesLemmas.{HasOverlong-first, HasOverlong-behind, HasOverlong-rest, HasOverlong-none}
use Rattle.shell_io.proofs.lines.has_overlong.Goals as goal

pub loop-rest-preserved : goal.loop-rest-preserved
loop-rest-preserved c = (
  λ h. HasOverlong-rest _ _ _ c.first_piece.ensures.pieces (λ long. omega (arith, long)) (c.loop-rest.invariant.0 h),
  λ h. c.loop-rest.invariant.1 (HasOverlong-behind _ _ _ c.first_piece.ensures.pieces h),
)

pub returns-then-first-gt-MAX_LINE : goal.returns-then-first-gt-MAX_LINE
returns-then-first-gt-MAX_LINE c = (
  λ _. c.loop-rest.invariant.1 (HasOverlong-first _ _ _ c.first_piece.ensures.pieces c.if-first-gt-MAX_LINE.true),
  λ _. search rules,
)

pub returns : goal.returns
returns c = (
  λ t. absurd (search rules),
  λ h. absurd (HasOverlong-none c.loop-rest.rest.now (eqb-true _ _ (sym c.loop-rest-test.ensures)) (c.loop-rest.invariant.0 h)),
)
