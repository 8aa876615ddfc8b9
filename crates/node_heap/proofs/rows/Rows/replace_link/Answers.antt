use Rattle.std.proofs.Common.{◌∙◌, sym, ap, arith, length, slice_index, lit<}
use Rattle.std.specs.Prelude.{slice_set}
use Rattle.node_heap.proofs.Headed.{linked-room, links-headed, becomes-links, IsHeaded-linked}
use Rattle.node_heap.proofs.rows.Rows.replace_link.Goals as goal

pub replace_link-requires : goal.replace_link-requires
replace_link-requires c = (lit< tt, (lit< tt, omega (arith, c.requires, ap length (links-headed c.self.inside.heads.items c.self.inside.rooms c.self.view_is c.args.index))))

pub invariant_of-self : goal.invariant_of-self
invariant_of-self c = IsHeaded-linked _ _ _ _ _ c.self.invariant _ c.args.index (λ xs. slice_set xs c.args.position c.args.link) c.replace_link.ensures.becomes c.replace_link.ensures.room

pub returns-clause-old : goal.returns-clause-old
returns-clause-old c = c.replace_link.ensures.old ∙ sym (ap (λ xs. slice_index xs c.args.position) (links-headed c.self.inside.heads.items c.self.inside.rooms c.self.view_is c.args.index))

pub returns-clause-becomes : goal.returns-clause-becomes
returns-clause-becomes c =
    rw (← c.self.view_is) (becomes-links c.self.inside.heads.items c.self.inside.rooms.slots _ c.args.index (λ xs. slice_set xs c.args.position c.args.link) (linked-room c.self.inside.heads.items c.self.inside.rooms c.self.view_is c.args.index _ c.requires) c.replace_link.ensures.becomes)
