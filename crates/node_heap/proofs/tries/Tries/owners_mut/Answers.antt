use Rattle.std.proofs.Common.{set, refl, sym, ap, ◌∙◌, lit<}
use Rattle.node_heap.specs.Nodes.{node_at, owned_by}
use Rattle.node_heap.specs.Tries.{head_beside}
use Rattle.node_heap.proofs.Free.{value_in}
use Rattle.node_heap.proofs.Rooming.{becomes-set}
use Rattle.node_heap.proofs.Telling.{live-told, owners-told, owned-told, kept-becomes, AreTries-kept}
use Rattle.node_heap.proofs.tries.Tries.owners_mut.Goals as goal

pub owners_mut-requires : goal.owners_mut-requires
owners_mut-requires c = (lit< tt, (lit< tt, live-told (head_beside c.self.inside.twig_heads.items c.self.inside.fork_heads.items) c.self.inside.rooms.slots c.args.index (rw (← c.self.view_is) at c.requires)))

pub invariant_of-self-lent : goal.invariant_of-self-lent
invariant_of-self-lent c w =
    let slots = c.self.inside.rooms.slots in
    let value = value_in _ (live-told (head_beside c.self.inside.twig_heads.items c.self.inside.fork_heads.items) slots c.args.index (rw (← c.self.view_is) at c.requires)) in
    let lent = set slots c.args.index (owned_by w (node_at slots c.args.index)) in
    AreTries-kept c.self.invariant (record { slots = lent; room = c.self.inside.rooms.room }) (rw value.1 (kept-becomes slots _ c.args.index (λ n. record { owners = w; head = n.head; links = n.links }) (λ n. refl) (becomes-set slots c.args.index value.0 _ _ value.1 refl))) refl

pub returns : goal.returns
returns c =
    let i = c.self.inside in (
      (refl, λ w. rw (← c.self.view_is) (ap (λ xs. record { slots = xs; room = i.rooms.room }) (owned-told (head_beside c.self.inside.twig_heads.items c.self.inside.fork_heads.items) i.rooms.slots c.args.index w))),
      record { writes_back = tt; value = rw (← c.self.view_is) (c.owners_mut.ensures.value ∙ sym (owners-told (head_beside c.self.inside.twig_heads.items c.self.inside.fork_heads.items) i.rooms.slots c.args.index)) },
    )
