use Rattle.std.proofs.Common.{◌∙◌, sym, ap, arith, refl, length, slice_index, lit<}
use Rattle.std.specs.Prelude.{slice_set}
use Rattle.node_heap.specs.Tries.{head_beside}
use Rattle.node_heap.proofs.Free.{value_in}
use Rattle.node_heap.proofs.Telling.{linked-told, links-told, becomes-told, kept-becomes, AreTries-kept}
use Rattle.node_heap.proofs.tries.Tries.replace_link.Goals as goal

pub replace_link-requires : goal.replace_link-requires
replace_link-requires c =
    let inside = rw (← c.self.view_is) at c.requires in
    (lit< tt, (lit< tt, omega (arith, inside, ap length (links-told (head_beside c.self.inside.twig_heads.items c.self.inside.fork_heads.items) c.self.inside.rooms.slots c.args.index))))

pub invariant_of-self : goal.invariant_of-self
invariant_of-self c =
    let done = c.replace_link.ensures in
    AreTries-kept c.self.invariant _ (kept-becomes _ _ c.args.index (λ n. record { owners = n.owners; head = n.head; links = slice_set n.links c.args.position c.args.link }) (λ n. refl) done.becomes) done.room

pub returns-clause-old : goal.returns-clause-old
returns-clause-old c =
    rw (← c.self.view_is) (c.replace_link.ensures.old ∙ sym (ap (λ xs. slice_index xs c.args.position) (links-told (head_beside c.self.inside.twig_heads.items c.self.inside.fork_heads.items) c.self.inside.rooms.slots c.args.index)))

pub returns-clause-becomes : goal.returns-clause-becomes
returns-clause-becomes c =
    let heads = head_beside c.self.inside.twig_heads.items c.self.inside.fork_heads.items in
    let slots = c.self.inside.rooms.slots in
    let b = c.replace_link.ensures.becomes in
    let inside = rw (← c.self.view_is) at c.requires in
    let value = value_in _ (linked-told heads slots c.args.index _ inside) in
    rw (← c.self.view_is) (becomes-told heads heads slots _ c.args.index (λ k other. refl) b.others _ _ value.0 value.1 b refl)
