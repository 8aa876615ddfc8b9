use Rattle.std.proofs.Common.{arith}
use Rattle.edit_vec.proofs.OverTop.{can-out, held-out, height-out, packed-out, sole-made, node-made, size-made, room-made, held-made, apart-made, pushes-place}
use Rattle.edit_vec.proofs.push.push_over_child.Goals as goal

pub root_beside-over-requires-clause-root : goal.root_beside-over-requires-clause-root
root_beside-over-requires-clause-root g c = can-out c.requires.root c.requires.few c.requires.child c.requires.sole c.requires.apart c.requires.height c.requires.packed c.remove_link-root.ensures.old c.remove_link-root.ensures.writes c.remove_link-root.ensures.owners c.remove_link-root.ensures.changes c.remove_link-root.ensures.makes

pub root_beside-over-requires-clause-held : goal.root_beside-over-requires-clause-held
root_beside-over-requires-clause-held g c = held-out c.requires.root c.requires.few c.requires.child c.requires.sole c.requires.apart c.requires.height c.requires.packed c.remove_link-root.ensures.old c.remove_link-root.ensures.writes c.remove_link-root.ensures.owners c.remove_link-root.ensures.changes c.remove_link-root.ensures.makes

pub root_beside-over-requires-clause-height : goal.root_beside-over-requires-clause-height
root_beside-over-requires-clause-height g c = height-out c.requires.root c.requires.few c.requires.child c.requires.sole c.requires.apart c.requires.height c.requires.packed c.remove_link-root.ensures.old c.remove_link-root.ensures.writes c.remove_link-root.ensures.owners c.remove_link-root.ensures.changes c.remove_link-root.ensures.makes

pub root_beside-over-requires-clause-packed : goal.root_beside-over-requires-clause-packed
root_beside-over-requires-clause-packed g c = packed-out c.requires.root c.requires.few c.requires.child c.requires.sole c.requires.apart c.requires.height c.requires.packed c.remove_link-root.ensures.old c.remove_link-root.ensures.writes c.remove_link-root.ensures.owners c.remove_link-root.ensures.changes c.remove_link-root.ensures.makes

pub insert_link-requires-clause-sole : goal.insert_link-requires-clause-sole
insert_link-requires-clause-sole g c = sole-made c.requires.root c.requires.few c.requires.child c.requires.sole c.requires.apart c.requires.height c.requires.packed c.remove_link-root.ensures.old c.remove_link-root.ensures.writes c.remove_link-root.ensures.owners c.remove_link-root.ensures.changes c.remove_link-root.ensures.makes c.root_beside-over.ensures.vector c.root_beside-over.ensures.tall c.root_beside-over.ensures.fresh c.root_beside-over.ensures.owners c.root_beside-over.ensures.builds

pub insert_link-requires-clause-node : goal.insert_link-requires-clause-node
insert_link-requires-clause-node g c = node-made c.requires.root c.requires.few c.requires.child c.requires.sole c.requires.apart c.requires.height c.requires.packed c.remove_link-root.ensures.old c.remove_link-root.ensures.writes c.remove_link-root.ensures.owners c.remove_link-root.ensures.changes c.remove_link-root.ensures.makes c.root_beside-over.ensures.vector c.root_beside-over.ensures.tall c.root_beside-over.ensures.fresh c.root_beside-over.ensures.owners c.root_beside-over.ensures.builds

pub insert_link-requires-clause-index : goal.insert_link-requires-clause-index
insert_link-requires-clause-index g c = omega (arith, c.requires.child, size-made c.requires.root c.requires.few c.requires.child c.requires.sole c.requires.apart c.requires.height c.requires.packed c.remove_link-root.ensures.old c.remove_link-root.ensures.writes c.remove_link-root.ensures.owners c.remove_link-root.ensures.changes c.remove_link-root.ensures.makes c.root_beside-over.ensures.vector c.root_beside-over.ensures.tall c.root_beside-over.ensures.fresh c.root_beside-over.ensures.owners c.root_beside-over.ensures.builds)

pub insert_link-requires-clause-room : goal.insert_link-requires-clause-room
insert_link-requires-clause-room g c = room-made c.requires.root c.requires.few c.requires.child c.requires.sole c.requires.apart c.requires.height c.requires.packed c.remove_link-root.ensures.old c.remove_link-root.ensures.writes c.remove_link-root.ensures.owners c.remove_link-root.ensures.changes c.remove_link-root.ensures.makes c.root_beside-over.ensures.vector c.root_beside-over.ensures.tall c.root_beside-over.ensures.fresh c.root_beside-over.ensures.owners c.root_beside-over.ensures.builds

pub insert_link-requires-clause-held : goal.insert_link-requires-clause-held
insert_link-requires-clause-held g c = held-made c.requires.root c.requires.few c.requires.child c.requires.sole c.requires.apart c.requires.height c.requires.packed c.remove_link-root.ensures.old c.remove_link-root.ensures.writes c.remove_link-root.ensures.owners c.remove_link-root.ensures.changes c.remove_link-root.ensures.makes c.root_beside-over.ensures.vector c.root_beside-over.ensures.tall c.root_beside-over.ensures.fresh c.root_beside-over.ensures.owners c.root_beside-over.ensures.builds

pub insert_link-requires-clause-apart : goal.insert_link-requires-clause-apart
insert_link-requires-clause-apart g c = apart-made c.requires.root c.requires.few c.requires.child c.requires.sole c.requires.apart c.requires.height c.requires.packed c.remove_link-root.ensures.old c.remove_link-root.ensures.writes c.remove_link-root.ensures.owners c.remove_link-root.ensures.changes c.remove_link-root.ensures.makes c.root_beside-over.ensures.vector c.root_beside-over.ensures.tall c.root_beside-over.ensures.fresh c.root_beside-over.ensures.owners c.root_beside-over.ensures.builds

pub returns : goal.returns
returns g c = pushes-place c.requires.root c.requires.few c.requires.child c.requires.sole c.requires.apart c.requires.height c.requires.packed c.remove_link-root.ensures.old c.remove_link-root.ensures.writes c.remove_link-root.ensures.owners c.remove_link-root.ensures.changes c.remove_link-root.ensures.makes c.root_beside-over.ensures.vector c.root_beside-over.ensures.tall c.root_beside-over.ensures.fresh c.root_beside-over.ensures.owners c.root_beside-over.ensures.builds c.insert_link.ensures.writes c.insert_link.ensures.changes c.insert_link.ensures.makes c.root_beside-over.ensures.over
