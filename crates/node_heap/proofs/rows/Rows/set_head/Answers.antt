use Rattle.std.proofs.Common.{◌≡◌, Some, refl, sym, ◌∙◌, arith}
use Rattle.node_heap.specs.Nodes.{node_at}
use Rattle.node_heap.specs.Tags.{place_in}
use Rattle.node_heap.specs.declared.tags.Tag.TheVariants.{Apart}
use Rattle.node_heap.proofs.Headed.{live-room, place-told, plain-by, plain-place, headed-same, headed-apart, none-named, few-named, becomes-tagged, becomes-full, tagged-place, IsHeaded-kept, IsHeaded-named, IsHeaded-written}
use Rattle.node_heap.proofs.rows.Rows.set_head.Goals as goal

named : (c : goal.After-set_slot) → place_in (node_at c.self.inside.rooms.slots c.args.index) ≡ Some c.in-Some.place
named c = place-told _ c.head-tag.result c.head-tag.ensures ∙ sym c.place.ensures ∙ c.in-Some.is

pub invariant_of-self : goal.invariant_of-self
invariant_of-self c =
    let i = c.self.inside in
    rw (c.set_slot.ensures.slots, c.set_slot.ensures.capacity) (IsHeaded-written i.rooms i.heads.items i.free_heads.items _ _ c.self.invariant c.args.index c.in-Some.place c.args.head (named c))

pub returns-in-Some-clause-becomes : goal.returns-in-Some-clause-becomes
returns-in-Some-clause-becomes c =
    let i = c.self.inside in
    let live = live-room i.heads.items i.rooms c.self.view_is c.args.index c.requires in
    rw (← c.self.view_is, c.set_slot.ensures.slots) (becomes-full i.heads.items i.rooms.slots c.args.index c.in-Some.place c.args.head live c.self.invariant.parts (named c))

pub invariant_of-self-in-Some-tag_of : goal.invariant_of-self-in-Some-tag_of
invariant_of-self-in-Some-tag_of c =
    let i = c.self.inside in
    let live = live-room i.heads.items i.rooms c.self.view_is c.args.index c.requires in
    let set = c.set_head.ensures in
    let was = place-told _ c.head-tag.result c.head-tag.ensures ∙ sym c.place.ensures ∙ c.in-None.is in
    let place = plain-place c.in-Some-tag_of.tag c.args.head (c.tag_of.ensures c.in-Some-tag_of.tag c.in-Some-tag_of.is) in
    IsHeaded-kept _ _ _ _ _ c.self.invariant c.set_head.new.self c.args.index set.becomes.others (tagged-place i.rooms.slots c.set_head.new.self.slots c.args.index c.in-Some-tag_of.tag live set.becomes ∙ place ∙ sym was) (omega (arith, set.becomes.len, c.self.invariant.within)) set.room

pub returns-in-Some-tag_of-clause-becomes : goal.returns-in-Some-tag_of-clause-becomes
returns-in-Some-tag_of-clause-becomes c =
    let i = c.self.inside in
    let live = live-room i.heads.items i.rooms c.self.view_is c.args.index c.requires in
    let set = c.set_head.ensures in
    rw (← c.self.view_is)
    (becomes-tagged i.heads.items i.heads.items i.rooms.slots c.set_head.new.self.slots c.args.index c.in-Some-tag_of.tag c.args.head (headed-same i.heads.items i.rooms.slots c.set_head.new.self.slots c.args.index set.becomes.others) live
    (plain-by i.heads.items c.in-Some-tag_of.tag c.args.head (c.tag_of.ensures c.in-Some-tag_of.tag c.in-Some-tag_of.is)) set.becomes)

pub put-place-requires-clause-room : goal.put-place-requires-clause-room
put-place-requires-clause-room c =
    let i = c.self.inside in
    let inv = c.self.invariant in
    let live = live-room i.heads.items i.rooms c.self.view_is c.args.index c.requires in
    let was = place-told _ c.head-tag.result c.head-tag.ensures ∙ sym c.place.ensures ∙ c.in-None.is in
    omega (arith, few-named i.rooms.slots c.args.index live was, inv.within, inv.parts.used, inv.of_heads.listed.all_slots, inv.of_heads.room, i.heads.ok.0, i.free_heads.ok.0)

pub invariant_of-self-in-None-tag_of : goal.invariant_of-self-in-None-tag_of
invariant_of-self-in-None-tag_of c =
    let i = c.self.inside in
    let inv = c.self.invariant in
    let live = live-room i.heads.items i.rooms c.self.view_is c.args.index c.requires in
    let was = place-told _ c.head-tag.result c.head-tag.ensures ∙ sym c.place.ensures ∙ c.in-None.is in
    let place = c.put-place.ensures in
    let new = c.set_head-in-None-tag_of.new.self in
    let set = c.set_head-in-None-tag_of.ensures in
    IsHeaded-named i.rooms i.heads.items i.free_heads.items _ _ inv new c.put-place.new.slots.items c.put-place.new.free.items _ _ c.args.index c.put-place.result c.args.head place.capacity place.free_capacity set.becomes.others
    was (tagged-place i.rooms.slots new.slots c.args.index (Apart c.put-place.result) live set.becomes) (omega (arith, set.becomes.len, inv.within)) set.room (omega (arith, few-named i.rooms.slots c.args.index live was, inv.parts.used, inv.within)) place.fills

pub returns-in-None-tag_of-clause-becomes : goal.returns-in-None-tag_of-clause-becomes
returns-in-None-tag_of-clause-becomes c =
    let i = c.self.inside in
    let live = live-room i.heads.items i.rooms c.self.view_is c.args.index c.requires in
    let heads' = c.put-place.new.slots.items in
    let place = c.put-place.ensures in
    let new = c.set_head-in-None-tag_of.new.self in
    let set = c.set_head-in-None-tag_of.ensures in
    rw (← c.self.view_is)
    (becomes-tagged i.heads.items heads' i.rooms.slots new.slots c.args.index (Apart c.put-place.result) c.args.head
    (headed-apart i.heads.items heads' c.put-place.result i.rooms.slots new.slots c.args.index set.becomes.others place.fills.others (λ j other. none-named i.rooms.slots i.heads.items c.put-place.result c.self.invariant.parts place.fills.was j)) live
    (rw place.fills.now refl) set.becomes)
