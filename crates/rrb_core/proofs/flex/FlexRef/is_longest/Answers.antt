use Rattle.std.proofs.Common.{arith, ◌+◌, ◌≤◌, ◌^◌}
use Rattle.std.proofs.Math.Nat.{pow-le-pow_right}
use Rattle.rrb_core.proofs.flex.FlexRef.is_longest.Goals as goal

pub returns-then-height-lt6 : goal.returns-then-height-lt6
returns-then-height-lt6 g c =
    let low : 32 ^ (c.height.result + 1) ≤ 32 ^ 6 = pow-le-pow_right {n = 32} (omega arith) {i = c.height.result + 1} {j = 6} (omega (arith, c.if-height-lt6.true)) in
    (λ yes. absurd cc, λ longest. absurd (omega (arith, longest, low, c.height.ensures.most)))
