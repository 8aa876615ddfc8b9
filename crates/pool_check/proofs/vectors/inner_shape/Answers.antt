use Rattle.std.proofs.Common.{◌≡◌, ◌+◌, ◌-◌, ◌<◌, ◌≤◌, ◌^◌, Bool, true, false, ◌&&◌, leb, length, take, refl, ap, sym, subst, ◌∙◌, arith}
use Rattle.std.proofs.lemmas.List.{take_all}
use Rattle.pool_check.specs.Shapes.{shape_at}
use Rattle.pool_check.proofs.ShapeLemmas.{AreGrown, no-more-none, no-more-thin, no-more-bare, no-more-long, one-more, none-yet, not-inner, inner-is}
use Rattle.pool_check.proofs.vectors.inner_shape.Goals.{then-thick, else-thick, then-not-thick-via-then-not-thick, then-not-thick-via-else-not-thick+then-child}
use Rattle.pool_check.proofs.vectors.inner_shape.Goals as goal

both : (a b : Bool) → b ≡ true → a ≡ (a && b)
both true b t = sym t
both false b t = refl

neither : (a b : Bool) → b ≡ false → b ≡ (a && b)
neither true b f = refl
neither false b f = f

pub loop-link-init : goal.loop-link-init
loop-link-init c = λ F are. none-yet F (c.args.height - 1)

pub returns-in_err-child : goal.returns-in_err-child
returns-in_err-child c F l are same =
    let links = c.args.links.now in
    let low : c.loop-link.link-index < length links = omega arith in
    c.from_residual.ensures
    ∙ not-inner F (c.args.height - 1) links (shape_at F c.args.height l)
    (no-more-none F (c.args.height - 1) links c.loop-link.link-index c.loop-link.length c.loop-link.thick low (c.loop-link.invariant F are) (sym c.in_err-child.was ∙ c.child_of.ensures F are))

pub returns-then-not-thick : goal.returns-then-not-thick
returns-then-not-thick c F l are same =
    let links = c.args.links.now in
    let low : c.loop-link.link-index < length links = omega arith in
    let now = c.loop-link.invariant F are in
    not-inner F (c.args.height - 1) links (shape_at F c.args.height l)
    (elim c.then-not-thick.branch [
      | then-not-thick-via-then-not-thick w ↦ no-more-thin F (c.args.height - 1) links c.loop-link.link-index c.loop-link.length c.loop-link.thick low now w.if-not-thick.true
      | then-not-thick-via-else-not-thick+then-child w ↦
          no-more-bare F (c.args.height - 1) links c.loop-link.link-index c.loop-link.length c.loop-link.thick low now c.in_ok-child.child (sym c.in_ok-child.was ∙ c.child_of.ensures F are) w.if-child.true
    ])

pub returns-in_err-length : goal.returns-in_err-length
returns-in_err-length c F l are same =
    let links = c.args.links.now in
    let low : c.loop-link.link-index < length links = omega arith in
    let now = c.loop-link.invariant F are in
    let long : 2 ^ 32 ≤ c.loop-link.length + c.in_ok-child.child.length = omega (arith, c.in_err-length.ensures) in
    c.from_residual-in_err-length.ensures
    ∙ not-inner F (c.args.height - 1) links (shape_at F c.args.height l)
    (no-more-long F (c.args.height - 1) links c.loop-link.link-index c.loop-link.length c.loop-link.thick low now c.in_ok-child.child (sym c.in_ok-child.was ∙ c.child_of.ensures F are) long)

pub loop-link-preserved : goal.loop-link-preserved
loop-link-preserved c = λ F are.
    let links = c.args.links.now in
    let n = c.args.height - 1 in
    let low : c.loop-link.link-index < length links = omega arith in
    let more = one-more F n links c.loop-link.link-index c.loop-link.length c.loop-link.thick low (c.loop-link.invariant F are) c.in_ok-child.child (sym c.in_ok-child.was ∙ c.child_of.ensures F are) c.if-not-thick.false c.if-child.false c.in_ok-length.ensures.0 in
    subst (λ sum. AreGrown F n (take (c.loop-link.link-index + 1) links) sum c.in_ok-child.child.thick) (sym c.in_ok-length.ensures.1) more

pub returns : goal.returns
returns c F l are same =
    let links = c.args.links.now in
    let n = c.args.height - 1 in
    let grown : AreGrown F n links c.loop-link.length c.loop-link.thick = subst (λ ks. AreGrown F n ks c.loop-link.length c.loop-link.thick) (take_all c.loop-link.link-index links (omega arith)) (c.loop-link.invariant F are) in
    let thick : c.if-thick.result ≡ (leb 16 (length links) && c.loop-link.thick) = elim c.if-thick.branch [
      | then-thick w ↦ w.result-is ∙ both (leb 16 (length links)) c.loop-link.thick w.if-thick.true
      | else-thick w ↦ w.result-is ∙ neither (leb 16 (length links)) c.loop-link.thick w.if-thick.false
    ] in
    inner-is F n c.args.height l links c.loop-link.length c.loop-link.thick _ (omega (arith, c.requires.low)) same grown
    (ap (λ b. record { height = c.args.height; length = c.loop-link.length; thick = b; bare = c.is_empty.result }) thick
    ∙ ap (λ b. record { height = c.args.height; length = c.loop-link.length; thick = leb 16 (length links) && c.loop-link.thick; bare = b }) c.is_empty.ensures)
