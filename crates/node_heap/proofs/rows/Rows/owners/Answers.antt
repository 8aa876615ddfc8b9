use Rattle.std.proofs.Common.{sym, ◌∙◌, lit<}
use Rattle.node_heap.proofs.Headed.{live-room, owners-headed}
use Rattle.node_heap.proofs.rows.Rows.owners.Goals as goal

pub owners-requires : goal.owners-requires
owners-requires c = (lit< tt, (lit< tt, live-room c.self.inside.heads.items c.self.inside.rooms c.self.view_is c.args.index c.requires))

pub returns : goal.returns
returns c = c.owners.ensures ∙ sym (owners-headed c.self.inside.heads.items c.self.inside.rooms c.self.view_is c.args.index)
