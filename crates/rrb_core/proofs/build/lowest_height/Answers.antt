use Rattle.std.proofs.Common.{arith, ◌≡◌, ◌+◌, ◌<◌, ◌^◌, ℕ}
use Rattle.node_heap.specs.declared.row.TheConstants.{MOST_HEIGHT}
use Rattle.rrb_core.proofs.build.lowest_height.Goals as goal

-- the height stays below the greatest, since 32 ^ 7 is past 2 ^ 32
stays-low : (height count : ℕ) → height < MOST_HEIGHT → 32 ^ (height + 1) < count → count < 2 ^ 32 → height + 1 < MOST_HEIGHT
stays-low height count low lt short = let ne = not_six in omega (arith, low, ne)
  where
    not_six : height ≡ 6 → ⊥
    not_six e = let lt' : 32 ^ (6 + 1) < count = rw e at lt in omega (arith, lt', short)

pub loop-height-preserved : goal.loop-height-preserved
loop-height-preserved c =
    let more : 32 ^ (c.loop-height.height + 1) < c.args.count = omega (arith, c.loop-height-test.true, c.full_size.ensures) in
    record { lowest = λ _. more; low = stays-low c.loop-height.height c.args.count c.loop-height.invariant.low more c.requires }
