use Rattle.std.proofs.Common.{◌≡◌, ◌+◌, ◌-◌, subst, sym, ◌∙◌, arith}
use Rattle.node_heap.specs.Layout.{slot_at, owners_in, reown, SetsOwners}
use Rattle.node_heap.specs.Pairs.{common_at, more}
use Rattle.node_heap.proofs.Written.{reowned}
use Rattle.node_heap.proofs.MoreOwners.{live-more, owners-more, places-more, rows-more, sets-more}
use Rattle.node_heap.proofs.PairLemmas.{common-rows, sharing-rows, twice}
use Rattle.node_heap.proofs.SharedTable.{room-shared}
use Rattle.node_heap.proofs.pairs.Shared.drop_owner.Goals as goal

pub owners_mut-requires : goal.owners_mut-requires
owners_mut-requires g c =
    let live = rw (← c.self.view_is) at c.requires.live in
    live-more (common_at c.self.inside.table.slots c.self.inside.pairs.items) c.self.inside.table.slots c.args.place live

pub overflow_sub-owners_mut : goal.overflow_sub-owners_mut
overflow_sub-owners_mut g c =
    let live = rw (← c.self.view_is) at c.requires.live in
    let more = rw (← c.self.view_is) at c.requires.more in
    omega (arith, more, owners-more (common_at c.self.inside.table.slots c.self.inside.pairs.items) c.self.inside.table.slots c.args.place (live-more (common_at c.self.inside.table.slots c.self.inside.pairs.items) c.self.inside.table.slots c.args.place live), places-more (common_at c.self.inside.table.slots c.self.inside.pairs.items) c.self.inside.table.slots c.args.place, twice c.self.inside.table.slots c.self.inside.pairs.items c.self.invariant c.args.place, sym c.owners_mut.ensures.value)

pub invariant_of-self : goal.invariant_of-self
invariant_of-self g c =
    let place = c.args.place in
    let live = rw (← c.self.view_is) at c.requires.live in
    let n = c.owners_mut.result.now - 1 in
    let done = reowned c.self.inside.table place n (live-more (common_at c.self.inside.table.slots c.self.inside.pairs.items) c.self.inside.table.slots place live) in
    sharing-rows c.self.inside.table.slots (reown c.self.inside.table.slots place n) c.self.inside.pairs.items done.rows c.self.invariant

pub returns : goal.returns
returns g c =
    let place = c.args.place in
    let live = rw (← c.self.view_is) at c.requires.live in
    let more_than = rw (← c.self.view_is) at c.requires.more in
    let there = live-more (common_at c.self.inside.table.slots c.self.inside.pairs.items) c.self.inside.table.slots place live in
    let n = c.owners_mut.result.now - 1 in
    let new = reown c.self.inside.table.slots place n in
    let done = reowned c.self.inside.table place n there in
    let number : n + common_at c.self.inside.table.slots c.self.inside.pairs.items place ≡ owners_in (slot_at (more (common_at c.self.inside.table.slots c.self.inside.pairs.items) 0 c.self.inside.table.slots) place) - 1 =
    omega (arith, more_than, owners-more (common_at c.self.inside.table.slots c.self.inside.pairs.items) c.self.inside.table.slots place there, places-more (common_at c.self.inside.table.slots c.self.inside.pairs.items) c.self.inside.table.slots place, twice c.self.inside.table.slots c.self.inside.pairs.items c.self.invariant place, sym c.owners_mut.ensures.value) in
    rw (← c.self.view_is)
    (record {
      sets = subst (λ k. SetsOwners (more (common_at c.self.inside.table.slots c.self.inside.pairs.items) 0 c.self.inside.table.slots) (more (common_at new c.self.inside.pairs.items) 0 new) place k) number (sets-more (common_at c.self.inside.table.slots c.self.inside.pairs.items) (common_at new c.self.inside.pairs.items) c.self.inside.table.slots new place n (common-rows c.self.inside.table.slots new c.self.inside.pairs.items done.rows) done.sets);
      rows = rows-more (common_at new c.self.inside.pairs.items) new ∙ done.rows ∙ sym (rows-more (common_at c.self.inside.table.slots c.self.inside.pairs.items) c.self.inside.table.slots);
      room = room-shared c.self.inside.pairs.items c.self.inside.pairs.items done.room;
    })
