use Rattle.std.proofs.Common.{map, refl, sym, ap, ◌∙◌, arith}
use Rattle.node_heap.specs.Tags.{place_in, full_node}
use Rattle.node_heap.proofs.Rooming.{Puts}
use Rattle.node_heap.proofs.Headed.{plain-by, plain-place, headed-same, headed-apart, puts-headed, none-named, le-named, len-headed, IsHeaded-kept, IsHeaded-named}
use Rattle.node_heap.proofs.rows.Rows.put.Goals as goal

plain : (c : goal.After-put) → Puts (map (full_node c.self.inside.heads.items) c.self.inside.rooms.slots) (map (full_node c.self.inside.heads.items) c.put.new.self.slots) c.put.result (record { owners = 1; head = c.args.head; links = c.args.links.now })
plain c =
    let heads = c.self.inside.heads.items in
    let rooms = c.self.inside.rooms in
    let put = c.put.ensures in
    puts-headed heads heads rooms.slots c.put.new.self.slots c.put.result (headed-same heads rooms.slots c.put.new.self.slots c.put.result put.others) _ _ put.was put.now
    (rw (plain-by heads c.in-Some.tag c.args.head (c.tag_of.ensures c.in-Some.tag c.in-Some.is)) refl) put.len

pub invariant_of-self : goal.invariant_of-self
invariant_of-self c =
    let put = c.put.ensures in
    let below = rw (← c.self.view_is) at c.requires.room in
    let place = plain-place c.in-Some.tag c.args.head (c.tag_of.ensures c.in-Some.tag c.in-Some.is) in
    IsHeaded-kept _ _ _ _ _ c.self.invariant c.put.new.self c.put.result put.others (ap place_in put.now ∙ place ∙ ap place_in (sym put.was)) (omega (arith, put.len, below, len-headed c.self.inside.heads.items c.self.inside.rooms.slots)) put.room

pub returns-in-Some-clause-was : goal.returns-in-Some-clause-was
returns-in-Some-clause-was c = rw (← c.self.view_is) (plain c).was

pub returns-in-Some-clause-now : goal.returns-in-Some-clause-now
returns-in-Some-clause-now c = (plain c).now

pub returns-in-Some-clause-others : goal.returns-in-Some-clause-others
returns-in-Some-clause-others c = rw (← c.self.view_is) (plain c).others

pub put-place-requires-clause-room : goal.put-place-requires-clause-room
put-place-requires-clause-room c =
    let i = c.self.inside in
    let inv = c.self.invariant in
    let below = rw (← c.self.view_is) at c.requires.room in
    omega (arith, below, len-headed i.heads.items i.rooms.slots, le-named i.rooms.slots, inv.parts.used, inv.of_heads.listed.all_slots, inv.of_heads.room, i.heads.ok.0, i.free_heads.ok.0)

pub invariant_of-self-in-None : goal.invariant_of-self-in-None
invariant_of-self-in-None c =
    let i = c.self.inside in
    let inv = c.self.invariant in
    let below = rw (← c.self.view_is) at c.requires.room in
    let place = c.put-place.ensures in
    let put = c.put-in-None.ensures in
    IsHeaded-named i.rooms i.heads.items i.free_heads.items _ _ inv c.put-in-None.new.self c.put-place.new.slots.items c.put-place.new.free.items _ _ c.put-in-None.result c.put-place.result c.args.head place.capacity place.free_capacity put.others
    (ap place_in put.was) (ap place_in put.now) (omega (arith, put.len, below, len-headed i.heads.items i.rooms.slots)) put.room (omega (arith, below, len-headed i.heads.items i.rooms.slots, le-named i.rooms.slots, inv.parts.used)) place.fills

whole : (c : goal.After-put-in-None) → Puts (map (full_node c.self.inside.heads.items) c.self.inside.rooms.slots) (map (full_node c.put-place.new.slots.items) c.put-in-None.new.self.slots) c.put-in-None.result (record { owners = 1; head = c.args.head; links = c.args.links.now })
whole c =
    let heads = c.self.inside.heads.items in
    let heads' = c.put-place.new.slots.items in
    let rooms = c.self.inside.rooms in
    let place = c.put-place.ensures in
    let put = c.put-in-None.ensures in
    puts-headed heads heads' rooms.slots c.put-in-None.new.self.slots c.put-in-None.result
    (headed-apart heads heads' c.put-place.result rooms.slots c.put-in-None.new.self.slots c.put-in-None.result put.others place.fills.others (λ j other. none-named rooms.slots heads c.put-place.result c.self.invariant.parts place.fills.was j)) _ _ put.was put.now
    (rw place.fills.now refl) put.len

pub returns-in-None-clause-was : goal.returns-in-None-clause-was
returns-in-None-clause-was c = rw (← c.self.view_is) (whole c).was

pub returns-in-None-clause-now : goal.returns-in-None-clause-now
returns-in-None-clause-now c = (whole c).now

pub returns-in-None-clause-others : goal.returns-in-None-clause-others
returns-in-None-clause-others c = rw (← c.self.view_is) (whole c).others

pub returns-in-None-clause-len : goal.returns-in-None-clause-len
returns-in-None-clause-len c = rw (← c.self.view_is) (whole c).len
