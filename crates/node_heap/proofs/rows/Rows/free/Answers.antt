use Rattle.std.proofs.Common.{◌≡◌, Some, None, map, sym, ap, ◌∙◌, arith}
use Rattle.node_heap.specs.Nodes.{node_at}
use Rattle.node_heap.specs.Tags.{place_in, full_node}
use Rattle.node_heap.proofs.Parting.{set-apart}
use Rattle.node_heap.proofs.Rooming.{Frees}
use Rattle.node_heap.proofs.Headed.{place-told, headed-same, headed-apart, frees-headed, alone-named, IsHeaded-kept, IsHeaded-left}
use Rattle.node_heap.proofs.rows.Rows.free.Goals as goal

named : (c : goal.After-vacate) → place_in (node_at c.self.inside.rooms.slots c.args.index) ≡ Some c.in-Some.place
named c = place-told _ c.head-tag.result c.head-tag.ensures ∙ sym c.place.ensures ∙ c.in-Some.is

pub invariant_of-self : goal.invariant_of-self
invariant_of-self c =
    let i = c.self.inside in
    let freed = c.free.ensures in
    let out = c.vacate.ensures in
    IsHeaded-left i.rooms i.heads.items i.free_heads.items _ _ c.self.invariant c.free.new.self c.vacate.new.slots.items c.vacate.new.free.items _ _ c.args.index c.in-Some.place out.capacity out.free_capacity freed.others (named c) freed.gone
    (omega (arith, freed.len, c.self.invariant.within)) freed.room out.slots out.free

pub invariant_of-self-in-None : goal.invariant_of-self-in-None
invariant_of-self-in-None c =
    let freed = c.free.ensures in
    let none = place-told _ c.head-tag.result c.head-tag.ensures ∙ sym c.place.ensures ∙ c.in-None.is in
    IsHeaded-kept _ _ _ _ _ c.self.invariant c.free.new.self c.args.index freed.others (ap place_in freed.gone ∙ sym none) (omega (arith, freed.len, c.self.invariant.within)) freed.room

left : (c : goal.After-vacate) → Frees (map (full_node c.self.inside.heads.items) c.self.inside.rooms.slots) (map (full_node c.vacate.new.slots.items) c.free.new.self.slots) c.args.index
left c =
    let heads = c.self.inside.heads.items in
    let heads' = c.vacate.new.slots.items in
    let rooms = c.self.inside.rooms in
    let freed = c.free.ensures in
    frees-headed heads heads' rooms.slots c.free.new.self.slots c.args.index
    (headed-apart heads heads' c.in-Some.place rooms.slots c.free.new.self.slots c.args.index freed.others (rw c.vacate.ensures.slots (set-apart heads c.in-Some.place None)) (alone-named rooms.slots heads c.args.index c.in-Some.place c.self.invariant.parts (named c))) freed.gone freed.len

pub returns-in-Some-clause-gone : goal.returns-in-Some-clause-gone
returns-in-Some-clause-gone c = (left c).gone

pub returns-in-Some-clause-others : goal.returns-in-Some-clause-others
returns-in-Some-clause-others c = rw (← c.self.view_is) (left c).others

pub returns-in-Some-clause-len : goal.returns-in-Some-clause-len
returns-in-Some-clause-len c = rw (← c.self.view_is) (left c).len

plain : (c : goal.In-None) → Frees (map (full_node c.self.inside.heads.items) c.self.inside.rooms.slots) (map (full_node c.self.inside.heads.items) c.free.new.self.slots) c.args.index
plain c =
    let heads = c.self.inside.heads.items in
    let rooms = c.self.inside.rooms in
    let freed = c.free.ensures in
    frees-headed heads heads rooms.slots c.free.new.self.slots c.args.index (headed-same heads rooms.slots c.free.new.self.slots c.args.index freed.others) freed.gone freed.len

pub returns-in-None-clause-gone : goal.returns-in-None-clause-gone
returns-in-None-clause-gone c = (plain c).gone

pub returns-in-None-clause-others : goal.returns-in-None-clause-others
returns-in-None-clause-others c = rw (← c.self.view_is) (plain c).others

pub returns-in-None-clause-len : goal.returns-in-None-clause-len
returns-in-None-clause-len c = rw (← c.self.view_is) (plain c).len
