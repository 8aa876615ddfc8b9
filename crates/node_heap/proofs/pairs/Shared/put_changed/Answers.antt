use Rattle.std.proofs.Common.{◌≡◌, ◌<◌, ℕ, refl, ap, sym, ◌∙◌, arith, lit<, IsSome}
use Rattle.node_heap.specs.Links.{count, without}
use Rattle.node_heap.specs.Forms.{links_of}
use Rattle.node_heap.specs.Layout.{slot_at, graph_of}
use Rattle.node_heap.specs.Pairs.{common_at, more}
use Rattle.node_heap.proofs.Slots.{KeepsRoom-trans}
use Rattle.node_heap.proofs.MoreOwners.{live-more, graph-more, owners-all}
use Rattle.node_heap.proofs.PairLemmas.{some-if, count-without, graph-rows, live-rows}
use Rattle.node_heap.proofs.SharedTable.{live-node, slot-alike}
use Rattle.node_heap.proofs.Pairing.{sharing-paired, makes-paired}
use Rattle.node_heap.proofs.pairs.Shared.put_changed.Given.{Over}
use Rattle.node_heap.proofs.pairs.Shared.put_changed.Goals as goal
use Rattle.node_heap.proofs.pairs.Shared.put_changed.Goals.{After-make_room}

pub part_row-requires-clause-sharing : goal.part_row-requires-clause-sharing
part_row-requires-clause-sharing g c = c.self.invariant

pub part_row-requires-clause-room : goal.part_row-requires-clause-room
part_row-requires-clause-room g c l =
    let room = rw (← c.self.view_is) at c.requires.room in
    omega (arith, room l, owners-all (common_at c.self.inside.table.slots c.self.inside.pairs.items) c.self.inside.table.slots c.self.invariant.linked l)

pub make_room-requires-clause-sharing : goal.make_room-requires-clause-sharing
make_room-requires-clause-sharing g c = c.part_row.ensures.sharing

pub make_room-requires-clause-room : goal.make_room-requires-clause-room
make_room-requires-clause-room g c l =
    let room = rw (← c.self.view_is) at c.requires.room in
    omega (arith, room l, owners-all (common_at c.self.inside.table.slots c.self.inside.pairs.items) c.self.inside.table.slots c.self.invariant.linked l, c.part_row.ensures.alike.owners l)

-- the row that the new one is made of is there, and is as it was
there : (g : Over) (c : After-make_room g) → IsSome (slot_at c.self.inside.table.slots c.args.place)
there g c =
    let C = common_at c.self.inside.table.slots c.self.inside.pairs.items in
    let is = rw (← c.self.view_is) at c.requires.node in
    live-more C c.self.inside.table.slots c.args.place (live-node (slot_at (more C 0 c.self.inside.table.slots) c.args.place) is)

row-same : (g : Over) (c : After-make_room g) → graph_of c.make_room.new.table.slots c.args.place ≡ graph_of c.self.inside.table.slots c.args.place
row-same g c =
    graph-rows c.part_row.new.table.slots c.make_room.new.table.slots c.make_room.ensures.alike.rows c.args.place
    ∙ graph-rows c.self.inside.table.slots c.part_row.new.table.slots c.part_row.ensures.alike.rows c.args.place

row-seen : (g : Over) (c : After-make_room g) → graph_of c.make_room.new.table.slots c.args.place ≡ graph_of (more (common_at c.self.inside.table.slots c.self.inside.pairs.items) 0 c.self.inside.table.slots) c.args.place
row-seen g c = row-same g c ∙ sym (graph-more (common_at c.self.inside.table.slots c.self.inside.pairs.items) c.self.inside.table.slots c.args.place)

still : (g : Over) (c : After-make_room g) (l : ℕ) → IsSome (slot_at c.self.inside.table.slots l) → IsSome (slot_at c.make_room.new.table.slots l)
still g c l live = live-rows c.part_row.new.table.slots c.make_room.new.table.slots c.make_room.ensures.alike.rows l (live-rows c.self.inside.table.slots c.part_row.new.table.slots c.part_row.ensures.alike.rows l live)

pub put_row-made-requires-clause-live : goal.put_row-made-requires-clause-live
put_row-made-requires-clause-live g c = let m = (goal.at.put_row-made-requires-clause-live g c).After-make_room in still g m c.args.place (there g m)

pub put_row-made-requires-clause-out : goal.put_row-made-requires-clause-out
put_row-made-requires-clause-out g c =
    let out = rw (← c.self.view_is) at c.requires.out in
    rw (row-seen g (goal.at.put_row-made-requires-clause-out g c).After-make_room) out

pub put_row-made-requires-clause-into : goal.put_row-made-requires-clause-into
put_row-made-requires-clause-into g c =
    let into = rw (← c.self.view_is) at c.requires.into in
    rw (row-seen g (goal.at.put_row-made-requires-clause-into g c).After-make_room) into

pub put_row-made-requires-clause-short : goal.put_row-made-requires-clause-short
put_row-made-requires-clause-short g c =
    let short = rw (← c.self.view_is) at c.requires.short in
    rw (row-seen g (goal.at.put_row-made-requires-clause-short g c).After-make_room) short

pub put_row-made-requires-clause-spare : goal.put_row-made-requires-clause-spare
put_row-made-requires-clause-spare g c =
    let spare = rw (← c.self.view_is) at c.requires.spare in
    omega (arith, spare, c.part_row.ensures.alike.room.spare_nodes, c.make_room.ensures.alike.room.spare_nodes)

pub push-requires : goal.push-requires
push-requires g c = (lit< tt, c.make_room.ensures.fits)

linked : (g : Over) (c : After-make_room g) (l : ℕ) → 0 < count l (without c.args.out (links_of (graph_of c.make_room.new.table.slots c.args.place))) → IsSome (slot_at c.make_room.new.table.slots l)
linked g c l some =
    let C = common_at c.self.inside.table.slots c.self.inside.pairs.items in
    let given = rw (← c.self.view_is) at c.requires.linked in
    let has = count-without c.args.out (links_of (graph_of c.make_room.new.table.slots c.args.place)) l in
    still g c l (live-more C c.self.inside.table.slots l (given l (omega (arith, some, has, ap (λ r. count l (links_of r)) (row-seen g c)))))

-- the slots, as contracts see them, are as they were
seen-alike : (g : Over) (c : After-make_room g) (l : ℕ)
    → slot_at (more (common_at c.make_room.new.table.slots c.make_room.new.pairs.items) 0 c.make_room.new.table.slots) l ≡ slot_at (more (common_at c.self.inside.table.slots c.self.inside.pairs.items) 0 c.self.inside.table.slots) l
seen-alike g c l = slot-alike c.make_room.ensures.alike c.part_row.ensures.sharing c.make_room.ensures.sharing l ∙ slot-alike c.part_row.ensures.alike c.self.invariant c.part_row.ensures.sharing l

pub invariant_of-self : goal.invariant_of-self
invariant_of-self g c =
    let out = rw (← c.self.view_is) at c.requires.out in
    let into = rw (← c.self.view_is) at c.requires.into in
    let m = (goal.at.invariant_of-self g c).After-make_room in
    let put = c.put_row-made.ensures in
    rw (c.push.ensures.items, c.place_of.ensures)
    (sharing-paired c.put_row-made.new.table c.self.inside.pairs.items c.args.place c.args.out c.args.into.now (seen-alike g m) (KeepsRoom-trans c.part_row.ensures.alike.room c.make_room.ensures.alike.room)
    c.make_room.ensures.sharing put.puts put.spare_cells put.spare_nodes refl (some-if _ c.args.out (rw (row-seen g m) out)) (some-if _ c.args.into.now (rw (row-seen g m) into)) (still g m c.args.place (there g m))
    (linked g m) (c.make_room.ensures.off c.args.place c.part_row.ensures.apart))

pub returns : goal.returns
returns g c =
    let out = rw (← c.self.view_is) at c.requires.out in
    let into = rw (← c.self.view_is) at c.requires.into in
    let m = (goal.at.returns g c).After-make_room in
    let put = c.put_row-made.ensures in
    rw (← c.self.view_is)
    (rw (c.push.ensures.items, c.place_of.ensures, sym (row-seen g m))
    (record {
      makes =
          makes-paired c.put_row-made.new.table c.self.inside.pairs.items c.args.place c.args.out c.args.into.now (seen-alike g m) (KeepsRoom-trans c.part_row.ensures.alike.room c.make_room.ensures.alike.room)
          c.make_room.ensures.sharing put.puts put.spare_cells put.spare_nodes refl (some-if _ c.args.out (rw (row-seen g m) out)) (some-if _ c.args.into.now (rw (row-seen g m) into)) (still g m c.args.place (there g m))
          (linked g m) (c.make_room.ensures.off c.args.place c.part_row.ensures.apart);
    }))
