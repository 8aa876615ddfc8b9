use Rattle.std.proofs.Common.{rules, arith, ◌+◌, ◌<◌, ◌^◌, get_or}
use Rattle.std.proofs.lemmas.List.Sums.{sum_by_more_le}
use Rattle.pool_load.proofs.lengths.sum_of.Goals as goal

pub overflow_add-total : goal.overflow_add-total
overflow_add-total c =
    let most = sum_by_more_le (λ p. get_or c.args.lengths.now p 0) c.args.places.now c.loop-place.place-index 0 c.loop-place-test.true in
    let fits : c.loop-place.total + get_or c.args.lengths.now (get_or c.args.places.now c.loop-place.place-index 0) 0 < 2 ^ 32 = omega (arith, most, c.requires.short, c.loop-place.invariant) in
    search rules
