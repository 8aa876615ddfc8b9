use Rattle.std.proofs.Common.{ap, arith, refl, length, lit<}
use Rattle.std.specs.Prelude.{insert}
use Rattle.node_heap.specs.Tries.{head_beside}
use Rattle.node_heap.proofs.Free.{value_in}
use Rattle.node_heap.proofs.Telling.{live-told, links-told, becomes-told, kept-becomes, AreTries-kept}
use Rattle.node_heap.proofs.tries.Tries.insert_link.Goals as goal

pub insert_link-requires : goal.insert_link-requires
insert_link-requires c =
    let heads = head_beside c.self.inside.twig_heads.items c.self.inside.fork_heads.items in
    let slots = c.self.inside.rooms.slots in
    let linked = ap length (links-told heads slots c.args.index) in
    let position = rw (← c.self.view_is) at c.requires.position in
    let room = rw (← c.self.view_is) at c.requires.room in (
      lit< tt,
      (lit< tt, (live-told heads slots c.args.index (rw (← c.self.view_is) at c.requires.live), (omega (arith, position, linked), (omega (arith, room, linked), omega arith)))),
    )

pub invariant_of-self : goal.invariant_of-self
invariant_of-self c =
    let done = c.insert_link.ensures in
    AreTries-kept c.self.invariant _ (kept-becomes _ _ c.args.index (λ n. record { owners = n.owners; head = n.head; links = insert n.links c.args.position c.args.link }) (λ n. refl) done.becomes) done.room

pub returns-clause-becomes : goal.returns-clause-becomes
returns-clause-becomes c =
    let heads = head_beside c.self.inside.twig_heads.items c.self.inside.fork_heads.items in
    let slots = c.self.inside.rooms.slots in
    let b = c.insert_link.ensures.becomes in
    let value = value_in _ (live-told heads slots c.args.index (rw (← c.self.view_is) at c.requires.live)) in
    rw (← c.self.view_is) (becomes-told heads heads slots _ c.args.index (λ k other. refl) b.others _ _ value.0 value.1 b refl)
