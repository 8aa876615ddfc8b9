use Rattle.std.proofs.Common.{set, refl, sym, ap, ◌∙◌, arith, lit<}
use Rattle.node_heap.specs.Nodes.{node_at, owned_by}
use Rattle.node_heap.specs.Tags.{place_in}
use Rattle.node_heap.proofs.Free.{value_in}
use Rattle.node_heap.proofs.Parting.{set-apart, set-there}
use Rattle.node_heap.proofs.Headed.{live-room, owners-headed, owned-headed, place-owned, len-owned, IsHeaded-kept}
use Rattle.node_heap.proofs.rows.Rows.owners_mut.Goals as goal

pub owners_mut-requires : goal.owners_mut-requires
owners_mut-requires c = (lit< tt, (lit< tt, live-room c.self.inside.heads.items c.self.inside.rooms c.self.view_is c.args.index c.requires))

pub invariant_of-self-lent : goal.invariant_of-self-lent
invariant_of-self-lent c w =
    let rooms = c.self.inside.rooms in
    let index = c.args.index in
    let value = value_in _ (live-room c.self.inside.heads.items rooms c.self.view_is index c.requires) in
    let owned = owned_by w (node_at rooms.slots index) in
    let there = set-there rooms.slots index value.0 owned value.1 in
    IsHeaded-kept rooms _ _ _ _ c.self.invariant (record { slots = set rooms.slots index owned; room = rooms.room }) index (set-apart rooms.slots index owned) (ap place_in there ∙ place-owned c.self.inside.heads.items w (node_at rooms.slots index))
    (omega (arith, len-owned rooms.slots index w (rw value.1 refl), c.self.invariant.within)) refl

pub returns : goal.returns
returns c = (
  (refl, λ w. owned-headed c.self.inside.heads.items c.self.inside.rooms c.self.view_is c.args.index w),
  record { writes_back = tt; value = c.owners_mut.ensures.value ∙ sym (owners-headed c.self.inside.heads.items c.self.inside.rooms c.self.view_is c.args.index) },
)
