use Rattle.std.proofs.Common.{arith, ◌≡◌, ◌<◌, ◌*◌, ◌/◌, ◌^◌, ◌-◌}
use Rattle.std.proofs.lemmas.Nat.{and_le_l}
use Rattle.elem_core.specs.declared.codes.TheConstants.{CODE_BITS, DEEPEST}
use Rattle.elem_core.proofs.codes.digit.Goals as goal

pub returns-clause-last : goal.returns-clause-last
returns-clause-last c deepest =
    let shift : 5 * c.from.result ≡ 5 * DEEPEST = omega (arith, deepest) in
    let fits = c.ranges.code.fits in
    let above : c.args.code / 2 ^ (5 * DEEPEST) < 2 ^ (CODE_BITS - 5 * DEEPEST) = omega (arith, fits) in
    rw shift (omega (arith, and_le_l (c.args.code / 2 ^ (5 * DEEPEST)) 31, above))
