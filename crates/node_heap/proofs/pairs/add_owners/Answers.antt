use Rattle.std.proofs.Common.{◌+◌, drop, ap, sym, refl, ◌∙◌, arith}
use Rattle.node_heap.specs.Links.{count}
use Rattle.node_heap.proofs.Counts.{count-cons, test_same}
use Rattle.node_heap.proofs.Slots.{KeepsRoom-trans}
use Rattle.node_heap.proofs.Stored.{live-rows}
use Rattle.node_heap.proofs.Dying.{at_link}
use Rattle.node_heap.proofs.Rewritten.{count-listed}
use Rattle.node_heap.proofs.Written.{reowned, reowned-more}
use Rattle.node_heap.proofs.pairs.add_owners.Goals as goal

pub owners_mut-requires : goal.owners_mut-requires
owners_mut-requires g c =
    let place = c.child.inside.place in
    let links = at_link c.args.links.now c.loop-child.child-index c.child-item.result place c.loop-child-test.true c.child.view_is c.child-item.is in
    live-rows c.args.table.now.slots c.loop-child.table.slots place c.loop-child.invariant.rows (c.requires.live place (count-listed place c.loop-child.child-index c.args.links.now links))

pub loop-child-preserved : goal.loop-child-preserved
loop-child-preserved g c =
    let table = c.loop-child.table in
    let place = c.child.inside.place in
    let links = at_link c.args.links.now c.loop-child.child-index c.child-item.result place c.loop-child-test.true c.child.view_is c.child-item.is in
    let live = live-rows c.args.table.now.slots table.slots place c.loop-child.invariant.rows (c.requires.live place (count-listed place c.loop-child.child-index c.args.links.now links)) in
    let done = reowned table place (c.owners_mut.result.now + 1) live in
    let more = reowned-more table place c.owners_mut.result.now c.owners_mut.ensures.value done in
    record {
      owners = λ k. omega (arith, more k, c.loop-child.invariant.owners k, ap (count k) links, count-cons k place (drop (c.loop-child.child-index + 1) c.args.links.now));
      rows = done.rows ∙ c.loop-child.invariant.rows;
      room = KeepsRoom-trans c.loop-child.invariant.room done.room;
    }

pub overflow_add-owners_mut : goal.overflow_add-owners_mut
overflow_add-owners_mut g c =
    let place = c.child.inside.place in
    let links = at_link c.args.links.now c.loop-child.child-index c.child-item.result place c.loop-child-test.true c.child.view_is c.child-item.is in
    omega (arith, sym c.owners_mut.ensures.value, c.loop-child.invariant.owners place, c.requires.room place, ap (count place) links, count-cons place place (drop (c.loop-child.child-index + 1) c.args.links.now), test_same place place refl)
