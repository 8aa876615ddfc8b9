use Rattle.std.proofs.Common.{sym, ◌∙◌, lit<}
use Rattle.node_heap.proofs.Headed.{live-room, head-headed, full-by, plain-by}
use Rattle.node_heap.proofs.rows.Rows.head.Goals as goal

pub head-tag-requires : goal.head-tag-requires
head-tag-requires c = (lit< tt, (lit< tt, live-room c.self.inside.heads.items c.self.inside.rooms c.self.view_is c.args.index c.requires))

pub returns-in-Some : goal.returns-in-Some
returns-in-Some c =
    head-headed c.self.inside.heads.items c.self.inside.rooms c.self.view_is c.args.index c.head-tag.result _ c.head-tag.ensures
    (full-by c.self.inside.heads.items c.head-tag.result c.in-Some.place _ (sym c.place.ensures ∙ c.in-Some.is) c.slot.ensures)

pub returns-in-None : goal.returns-in-None
returns-in-None c =
    head-headed c.self.inside.heads.items c.self.inside.rooms c.self.view_is c.args.index c.head-tag.result _ c.head-tag.ensures
    (plain-by c.self.inside.heads.items c.head-tag.result _ c.lend.ensures)
