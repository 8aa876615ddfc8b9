use Rattle.std.proofs.Common.{sym, ◌∙◌, arith, lit<}
use Rattle.node_heap.proofs.Headed.{live-room, links-headed}
use Rattle.node_heap.proofs.rows.Rows.row_links.Goals as goal

pub row_links-requires : goal.row_links-requires
row_links-requires c = (lit< tt, (lit< tt, (omega arith, live-room c.self.inside.heads.items c.self.inside.rooms c.self.view_is c.args.index c.requires)))

pub returns : goal.returns
returns c = c.row_links.ensures ∙ sym (links-headed c.self.inside.heads.items c.self.inside.rooms c.self.view_is c.args.index)
