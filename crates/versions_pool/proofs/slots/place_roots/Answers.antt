use Rattle.std.proofs.Common.{◌≡◌, sym, ◌∙◌, arith, inl, inr}
use Rattle.std.specs.List.{zip}
use Rattle.std.specs.Ordering.{nat_cmp}
use Rattle.std.specs.FinMap.{find}
use Rattle.std.proofs.lemmas.Bool.{cases_lt}
use Rattle.versions.specs.Roots.{root_of}
use Rattle.versions_pool.proofs.SlotLemmas.{find-past}
use Rattle.versions_pool.proofs.slots.place_roots.Goals as goal

pub returns : goal.returns
returns c = λ v. elim (cases_lt v c.args.slots.now.capacity) as (λ _. root_of c.loop-number.slots.slots v ≡ find nat_cmp v (zip c.args.names.now c.args.roots.now)) [
  | inl low ↦ c.loop-number.invariant.done v (omega (arith, low))
  | inr high ↦ c.loop-number.invariant.none v high ∙ sym (find-past c.args.names.now c.args.roots.now c.args.slots.now.capacity v c.requires.inside high)
]
