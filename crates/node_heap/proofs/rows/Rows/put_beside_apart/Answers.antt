use Rattle.std.proofs.Common.{map, refl, ap, arith}
use Rattle.std.specs.Prelude.{slice_set}
use Rattle.node_heap.specs.Nodes.{node_at, node_links}
use Rattle.node_heap.specs.Tags.{place_in, full_node}
use Rattle.node_heap.proofs.Rooming.{Puts}
use Rattle.node_heap.proofs.Headed.{headed-apart, puts-headed, links-headed, none-named, le-named, len-headed, IsHeaded-named}
use Rattle.node_heap.proofs.rows.Rows.put_beside_apart.Goals as goal

pub put-place-requires-clause-room : goal.put-place-requires-clause-room
put-place-requires-clause-room c =
    let i = c.self.inside in
    let inv = c.self.invariant in
    let below = rw (← c.self.view_is) at c.requires.room in
    omega (arith, below, len-headed i.heads.items i.rooms.slots, le-named i.rooms.slots, inv.parts.used, inv.of_heads.listed.all_slots, inv.of_heads.room, i.heads.ok.0, i.free_heads.ok.0)

pub invariant_of-self : goal.invariant_of-self
invariant_of-self c =
    let i = c.self.inside in
    let inv = c.self.invariant in
    let below = rw (← c.self.view_is) at c.requires.room in
    let place = c.put-place.ensures in
    let put = c.put_beside.ensures in
    IsHeaded-named i.rooms i.heads.items i.free_heads.items _ _ inv c.put_beside.new.self c.put-place.new.slots.items c.put-place.new.free.items _ _ c.put_beside.result c.put-place.result c.args.head place.capacity place.free_capacity put.others
    (ap place_in put.was) (ap place_in put.now) (omega (arith, put.len, below, len-headed i.heads.items i.rooms.slots)) put.room (omega (arith, below, len-headed i.heads.items i.rooms.slots, le-named i.rooms.slots, inv.parts.used)) place.fills

whole : (c : goal.After-put_beside) → Puts (map (full_node c.self.inside.heads.items) c.self.inside.rooms.slots) (map (full_node c.put-place.new.slots.items) c.put_beside.new.self.slots) c.put_beside.result (record { owners = 1; head = c.args.head; links = slice_set (node_links (node_at c.self.inside.rooms.slots c.args.from)) c.args.position c.args.link })
whole c =
    let heads = c.self.inside.heads.items in
    let heads' = c.put-place.new.slots.items in
    let rooms = c.self.inside.rooms in
    let place = c.put-place.ensures in
    let put = c.put_beside.ensures in
    puts-headed heads heads' rooms.slots c.put_beside.new.self.slots c.put_beside.result
    (headed-apart heads heads' c.put-place.result rooms.slots c.put_beside.new.self.slots c.put_beside.result put.others place.fills.others (λ j other. none-named rooms.slots heads c.put-place.result c.self.invariant.parts place.fills.was j)) _ _ put.was put.now
    (rw place.fills.now refl) put.len

pub returns-clause-was : goal.returns-clause-was
returns-clause-was c = rw (← c.self.view_is) (whole c).was

pub returns-clause-now : goal.returns-clause-now
returns-clause-now c = rw (links-headed c.self.inside.heads.items c.self.inside.rooms c.self.view_is c.args.from) (whole c).now

pub returns-clause-others : goal.returns-clause-others
returns-clause-others c = rw (← c.self.view_is) (whole c).others

pub returns-clause-len : goal.returns-clause-len
returns-clause-len c = rw (← c.self.view_is) (whole c).len
