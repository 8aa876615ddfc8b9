use Rattle.std.proofs.Common.{ap, arith, length, lit<}
use Rattle.std.specs.Prelude.{insert}
use Rattle.node_heap.proofs.Headed.{live-room, links-headed, becomes-links, IsHeaded-linked}
use Rattle.node_heap.proofs.rows.Rows.insert_link.Goals as goal

pub insert_link-requires : goal.insert_link-requires
insert_link-requires c =
    let linked = ap length (links-headed c.self.inside.heads.items c.self.inside.rooms c.self.view_is c.args.index) in (
      lit< tt,
      (lit< tt, (live-room c.self.inside.heads.items c.self.inside.rooms c.self.view_is c.args.index c.requires.live, (omega (arith, c.requires.position, linked), (omega (arith, c.requires.room, linked), omega arith)))),
    )

pub invariant_of-self : goal.invariant_of-self
invariant_of-self c = IsHeaded-linked _ _ _ _ _ c.self.invariant _ c.args.index (λ xs. insert xs c.args.position c.args.link) c.insert_link.ensures.becomes c.insert_link.ensures.room

pub returns-clause-becomes : goal.returns-clause-becomes
returns-clause-becomes c =
    rw (← c.self.view_is) (becomes-links c.self.inside.heads.items c.self.inside.rooms.slots _ c.args.index (λ xs. insert xs c.args.position c.args.link) (live-room c.self.inside.heads.items c.self.inside.rooms c.self.view_is c.args.index c.requires.live) c.insert_link.ensures.becomes)
