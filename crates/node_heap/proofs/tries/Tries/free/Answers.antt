use Rattle.node_heap.specs.Tries.{head_beside, with_heads}
use Rattle.std.proofs.Common.{refl, lit<}
use Rattle.node_heap.proofs.Rooming.{Frees}
use Rattle.node_heap.proofs.Telling.{live-told, frees-told, kept-freed, AreTries-kept}
use Rattle.node_heap.proofs.tries.Tries.free.Goals as goal

pub free-requires : goal.free-requires
free-requires c = (lit< tt, (lit< tt, live-told (head_beside c.self.inside.twig_heads.items c.self.inside.fork_heads.items) c.self.inside.rooms.slots c.args.index (rw (← c.self.view_is) at c.requires)))

pub invariant_of-self : goal.invariant_of-self
invariant_of-self c =
    let freed = c.free.ensures in
    AreTries-kept c.self.invariant _ (kept-freed _ _ c.args.index freed.others freed.gone) freed.room

gone : (c : goal.After-free) → Frees (with_heads (head_beside c.self.inside.twig_heads.items c.self.inside.fork_heads.items) 0 c.self.inside.rooms.slots) (with_heads (head_beside c.self.inside.twig_heads.items c.self.inside.fork_heads.items) 0 c.free.new.self.slots) c.args.index
gone c =
    let heads = head_beside c.self.inside.twig_heads.items c.self.inside.fork_heads.items in
    let freed = c.free.ensures in
    frees-told heads heads c.self.inside.rooms.slots c.free.new.self.slots c.args.index (λ k other. refl) freed.others freed.gone freed.len

pub returns-clause-gone : goal.returns-clause-gone
returns-clause-gone c = (gone c).gone

pub returns-clause-others : goal.returns-clause-others
returns-clause-others c = rw (← c.self.view_is) (gone c).others

pub returns-clause-len : goal.returns-clause-len
returns-clause-len c = rw (← c.self.view_is) (gone c).len
