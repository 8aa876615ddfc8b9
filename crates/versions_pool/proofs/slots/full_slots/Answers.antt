use Rattle.std.proofs.Common.{◌≤◌, arith}
use Rattle.slab.specs.Slab.{slab_len}
use Rattle.versions_pool.proofs.SlotLemmas.{all-full}
use Rattle.versions_pool.proofs.slots.full_slots.Goals as goal

pub returns-clause-full : goal.returns-clause-full
returns-clause-full c =
    let many : c.loop-number.slots.capacity ≤ slab_len c.loop-number.slots = omega (arith, c.loop-number.invariant.capacity, c.loop-number.invariant.many) in
    record {
      some = all-full c.loop-number.slots.slots c.loop-number.slots.capacity many (λ i high. c.loop-number.invariant.none i (omega (arith, high, c.loop-number.invariant.capacity)));
      none = λ v high. c.loop-number.invariant.none v (omega (arith, high, c.loop-number.invariant.capacity));
    }
