use Rattle.std.proofs.Common.{ℕ, arith, ap, None}
use Rattle.std.specs.Prelude.{sum_by, slice_index_or}
use Rattle.node_heap.specs.Forms.{is_cell, is_node}
use Rattle.node_heap.specs.Heap.{places_in}
use Rattle.node_heap.specs.Layout.{holds_in, slot_at, seen}
use Rattle.node_heap.proofs.Counts.{le-sum}
use Rattle.node_heap.proofs.Slots.{owners_at-slots, places_at-le, row_at-slots}
use Rattle.node_heap.proofs.Stored.{IsGraph-stored, Makes-stored, live_slot}
use Rattle.node_heap.proofs.Copied.{AddsOwners, counted-added, holds-added, total-added}
use Rattle.node_heap.proofs.Frames.{Extends-rows, KeepsHeld-Extends, KeepsTrees-Extends}
use Rattle.node_heap.proofs.heap.Heap.hold_all.Given.{Over}
use Rattle.node_heap.proofs.heap.Heap.hold_all.Goals as goal

pub add_owners-requires-clause-live : goal.add_owners-requires-clause-live
add_owners-requires-clause-live g c l has =
    let slots = c.self.inside.table.slots in
    let live = rw (← c.self.view_is) at c.requires.live in
    live_slot (slot_at slots l) (rw (← row_at-slots slots l) (live l has))

pub add_owners-requires-clause-room : goal.add_owners-requires-clause-room
add_owners-requires-clause-room g c l =
    let slots = c.self.inside.table.slots in
    let stored = c.self.invariant in
    omega (arith, owners_at-slots slots stored.counted l, stored.few_holds, places_at-le slots stored.counted.short l, le-sum (holds_in slots) l, stored.few, c.requires.few)

-- each of the links has an owner more for each of its places
adds : (g : Over) (c : goal.After-add_owners g) → AddsOwners c.self.inside.table.slots c.add_owners.new.self.slots c.args.links.now
adds g c = record { owners = c.add_owners.ensures.owners; rows = c.add_owners.ensures.rows }

pub invariant_of-self : goal.invariant_of-self
invariant_of-self g c =
    let slots = c.self.inside.table.slots in
    let stored = c.self.invariant in
    let room = c.add_owners.ensures.room in
    let few = rw (← c.self.view_is) at c.requires.few in
    record {
      counted = counted-added slots _ _ (adds g c) stored.counted;
      few = omega (arith, room.len, room.spare_cells, room.spare_nodes, stored.few);
      few_holds = omega (arith, few, total-added slots _ _ (adds g c) stored.counted);
      fits = stored.fits;
    }

pub returns : goal.returns
returns g c =
    let i = c.self.inside in
    let new = c.add_owners.new.self in
    let stored = c.self.invariant in
    let room = c.add_owners.ensures.room in
    let same = c.add_owners.ensures.rows in
    let holds = holds-added i.table.slots new.slots _ (adds g c) stored.counted in
    let rows = λ (k : ℕ). ap (λ xs. slice_index_or xs k None) same in
    let extends = Extends-rows (seen i.table.slots i.table.spare_cells i.table.spare_nodes i.made) (seen new.slots new.spare_cells new.spare_nodes i.made) rows in
    rw (← c.self.view_is)
    (record {
      rows = rows;
      holds = holds;
      owners = λ k. omega (arith, holds k, ap (λ xs. places_in xs k) same);
      makes = Makes-stored i.table.slots new.slots _ _ _ _ _ _ 0 0 (omega (arith, ap (λ xs. sum_by is_cell xs) same)) (omega (arith, ap (λ xs. sum_by is_node xs) same)) (omega (arith, room.spare_cells)) (omega (arith, room.spare_nodes)) stored.fits (omega (arith, stored.fits));
      count = total-added i.table.slots new.slots _ (adds g c) stored.counted;
      graph = IsGraph-stored _ _ _ _ (invariant_of-self g c);
      extends = extends;
      keeps = KeepsHeld-Extends _ _ _ (IsGraph-stored _ _ _ _ stored) extends (λ l. omega (arith, holds l));
      trees = KeepsTrees-Extends _ _ extends;
    })
