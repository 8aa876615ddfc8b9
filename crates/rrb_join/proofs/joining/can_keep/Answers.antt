use Rattle.std.proofs.Common.{arith, ◌≡◌}
use Rattle.rrb_join.proofs.BesideLemmas.{stand-low, stand-same}
use Rattle.rrb_join.proofs.joining.can_keep.Goals as goal
use Rattle.rrb_join.proofs.joining.can_keep.Goals.{then-left_height-height-via-then-left_height-height, then-left_height-height-via-else-left_height-height+then-right_height-height}

pub returns-then-left_height-height : goal.returns-then-left_height-height
returns-then-left_height-height g c = (
  λ e. absurd cc,
  λ stand.
      let inside = stand-low c.args.left_height c.args.left c.args.right_height c.args.right c.args.height stand in
      elim c.then-left_height-height.branch [ then-left_height-height-via-then-left_height-height w ↦ absurd (omega (arith, inside.0, w.if-left_height-height.true)) | then-left_height-height-via-else-left_height-height+then-right_height-height w ↦ absurd (omega (arith, inside.1, w.if-right_height-height.true)) ],
)

pub stand_beside-requires-clause-left : goal.stand_beside-requires-clause-left
stand_beside-requires-clause-left g c =
    let e : c.args.left_height ≡ c.args.height = omega arith in
    rw e at c.requires.left

pub stand_beside-requires-clause-right : goal.stand_beside-requires-clause-right
stand_beside-requires-clause-right g c =
    let e : c.args.right_height ≡ c.args.height = omega arith in
    rw e at c.requires.right

pub returns : goal.returns
returns g c =
    let e : c.args.left_height ≡ c.args.height = omega arith in
    let e' : c.args.right_height ≡ c.args.height = omega arith in
    let same = stand-same c.args.height c.args.left_height c.args.left c.args.right_height c.args.right e e' in
    (λ true. same.0 (c.stand_beside.ensures.0 true), λ stand. c.stand_beside.ensures.1 (same.1 stand))
