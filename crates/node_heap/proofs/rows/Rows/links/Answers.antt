use Rattle.std.proofs.Common.{sym, ◌∙◌, arith, lit<}
use Rattle.node_heap.proofs.Headed.{live-room, links-headed}
use Rattle.node_heap.proofs.rows.Rows.links.Goals as goal

pub links-requires : goal.links-requires
links-requires c = (lit< tt, (lit< tt, (omega arith, live-room c.self.inside.heads.items c.self.inside.rooms c.self.view_is c.args.index c.requires)))

pub returns-clause-value : goal.returns-clause-value
returns-clause-value c = c.links.ensures.value ∙ sym (links-headed c.self.inside.heads.items c.self.inside.rooms c.self.view_is c.args.index)
