use Rattle.std.proofs.Common.{◌≡◌, ◌+◌, ◌-◌, ◌<◌, ◌≤◌, ◌^◌, ℕ, Option, length, get_or, subst, arith}
use Rattle.std.specs.Option.{SomeIff}
use Rattle.std.proofs.lemmas.List.Elements.{All-weaker}
use Rattle.versions_pool.proofs.RiseLemmas.{last-greatest}
use Rattle.versions_pool.proofs.slots.slots_of.Goals as goal

pub place_roots-requires-clause-inside : goal.place_roots-requires-clause-inside
place_roots-requires-clause-inside c =
    let names = c.args.names.now in
    let last = c.in-Some-Some.last.now in
    let item = c.in-Some-Some.ensures.item in
    let last_is : last ≡ get_or names (length names - 1) 0 = item.4 (omega arith) 0 in
    let sum = subst (λ (o : Option ℕ). SomeIff o (last + 1 < 2 ^ 64) (last + 1)) c.in_ok-count.ensures.ok_part c.checked_add.ensures in
    All-weaker (λ k. k ≤ get_or names (length names - 1) 0) (λ k. k < c.in_ok-slots.slots.capacity) (λ k low. omega (arith, low, last_is, sum.1, c.in_ok-slots.ensures.many)) names (last-greatest names c.requires.rise)
