use Rattle.std.proofs.Common.{◌+◌, ◌&&◌, drop, ap, sym, ◌∙◌, refl, arith}
use Rattle.pool_check.specs.Roots.{are_of}
use Rattle.pool_check.specs.declared.root.RootKind.TheVariants.{Lines}
use Rattle.pool_check.specs.Facts.{facts_at}
use Rattle.pool_check.proofs.RootLemmas.{root-first, other-many}
use Rattle.pool_check.proofs.kinds.are_roots.Goals as goal

pub returns-then-kinds-roots : goal.returns-then-kinds-roots
returns-then-kinds-roots c n F are = sym (other-many n F c.args.kinds.now c.args.roots.now c.if-kinds-roots.true)

pub loop-place-init : goal.loop-place-init
loop-place-init c = λ n F are. refl

pub returns-then-not-is_root : goal.returns-then-not-is_root
returns-then-not-is_root c n F are =
    let kinds = c.args.kinds.now in
    let roots = c.args.roots.now in
    let place = c.loop-place.place in
    sym (
    c.loop-place.invariant n F are
    ∙ root-first n F kinds roots place Lines (omega (arith, c.if-kinds-roots.false, c.loop-place-test.true)) c.loop-place-test.true c.is_root.result c.facts_of.result (c.facts_of.ensures (facts_at n F) are) c.is_root.ensures
    ∙ ap (λ b. b && are_of n F (drop (place + 1) kinds) (drop (place + 1) roots)) c.if-not-is_root.true
    )

pub loop-place-preserved : goal.loop-place-preserved
loop-place-preserved c = λ n F are.
    let kinds = c.args.kinds.now in
    let roots = c.args.roots.now in
    let place = c.loop-place.place in
    c.loop-place.invariant n F are
    ∙ root-first n F kinds roots place Lines (omega (arith, c.if-kinds-roots.false, c.loop-place-test.true)) c.loop-place-test.true c.is_root.result c.facts_of.result (c.facts_of.ensures (facts_at n F) are) c.is_root.ensures
    ∙ ap (λ b. b && are_of n F (drop (place + 1) kinds) (drop (place + 1) roots)) c.if-not-is_root.false
