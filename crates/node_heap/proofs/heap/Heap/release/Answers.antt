use Rattle.std.proofs.Common.{◌≡◌, refl, sym, ap, arith}
use Rattle.std.specs.Prelude.{sum_by}
use Rattle.node_heap.specs.Forms.{is_cell, is_node}
use Rattle.node_heap.specs.Layout.{cells_in, nodes_in, holds_in}
use Rattle.node_heap.proofs.Counts.{sum-more}
use Rattle.node_heap.proofs.Dying.{held_at, IsDying-start, holds_after, holds-freed, rows-thinned, IsCounted-thinned}
use Rattle.node_heap.proofs.Stored.{IsGraph-stored}
use Rattle.node_heap.proofs.Frames.{KeepsBelow-Releases, KeepsHeld-Releases, KeepsTrees-Releases}
use Rattle.node_heap.proofs.Owners.{live-owners}
use Rattle.node_heap.proofs.Freed.{Releases-slots}
use Rattle.node_heap.proofs.heap.Heap.release.Goals as goal

pub drop_places-first-requires-clause-dying : goal.drop_places-first-requires-clause-dying
drop_places-first-requires-clause-dying g c =
    let slots = c.self.inside.table.slots in
    let held = rw (← c.self.view_is) at c.requires in
    (holds_after slots c.args.link, IsDying-start slots c.args.link c.self.invariant.counted (omega (arith, held_at slots _ refl c.args.link, held)))

pub free_waiting-requires-clause-dying : goal.free_waiting-requires-clause-dying
free_waiting-requires-clause-dying g c =
    let slots = c.self.inside.table.slots in
    let held = rw (← c.self.view_is) at c.requires in
    let start = IsDying-start slots c.args.link c.self.invariant.counted (omega (arith, held_at slots _ refl c.args.link, held)) in
    (holds_after slots c.args.link, c.drop_places-first.ensures.dropped (holds_after slots c.args.link) start)

pub invariant_of-self : goal.invariant_of-self
invariant_of-self g c =
    let slots = c.self.inside.table.slots in
    let place = c.args.link in
    let stored = c.self.invariant in
    let held = rw (← c.self.view_is) at c.requires in
    let dropped = c.drop_places-first.ensures in
    let freed = c.free_waiting.ensures in
    let start = IsDying-start slots place stored.counted (omega (arith, held_at slots _ refl place, held)) in
    let end = freed.freed (holds_after slots place) (dropped.dropped (holds_after slots place) start) in
    let less = holds-freed slots _ place _ _ refl refl held end in
    record {
      counted = IsCounted-thinned (holds_after slots place) slots _ stored.counted (rows-thinned slots _ _ dropped.rows freed.rows) freed.low end;
      few = omega (arith, dropped.room.len, dropped.room.spare_cells, dropped.room.spare_nodes, freed.len, stored.few);
      few_holds = omega (arith, stored.few_holds, sum-more (holds_in c.free_waiting.new.table.slots) (holds_in slots) place (λ k. sym (less k)));
      fits = stored.fits;
    }

pub returns-clause-graph : goal.returns-clause-graph
returns-clause-graph g c = IsGraph-stored _ _ _ _ (invariant_of-self g c)

pub returns-clause-releases : goal.returns-clause-releases
returns-clause-releases g c =
    let slots = c.self.inside.table.slots in
    let place = c.args.link in
    let held = rw (← c.self.view_is) at c.requires in
    let dropped = c.drop_places-first.ensures in
    let freed = c.free_waiting.ensures in
    let start = IsDying-start slots place c.self.invariant.counted (omega (arith, held_at slots _ refl place, held)) in
    let end = freed.freed (holds_after slots place) (dropped.dropped (holds_after slots place) start) in
    let cells : cells_in c.drop_places-first.new.self.slots ≡ cells_in slots = ap (λ xs. sum_by is_cell xs) dropped.rows in
    let nodes : nodes_in c.drop_places-first.new.self.slots ≡ nodes_in slots = ap (λ xs. sum_by is_node xs) dropped.rows in
    rw (← c.self.view_is)
    (Releases-slots slots _ place _ _ _ _ _ (returns-clause-graph g c) (holds-freed slots _ place _ _ refl refl held end)
    (rows-thinned slots _ _ dropped.rows freed.rows) (omega (arith, cells, freed.cells, dropped.room.spare_cells)) (omega (arith, nodes, freed.nodes, dropped.room.spare_nodes)) (omega (arith, cells, freed.cells, freed.more_cells, dropped.room.spare_cells)) (omega (arith, nodes, freed.nodes, freed.more_nodes, dropped.room.spare_nodes)))

pub returns-clause-owners : goal.returns-clause-owners
returns-clause-owners g c l was = live-owners _ 0 0 0 (invariant_of-self g c).counted l

pub returns-clause-below : goal.returns-clause-below
returns-clause-below g c = KeepsBelow-Releases _ _ c.args.link (returns-clause-releases g c) (returns-clause-graph g c)

pub returns-clause-keeps : goal.returns-clause-keeps
returns-clause-keeps g c = KeepsHeld-Releases _ _ c.args.link (returns-clause-releases g c) (returns-clause-graph g c)

pub returns-clause-trees : goal.returns-clause-trees
returns-clause-trees g c = KeepsTrees-Releases _ _ c.args.link (returns-clause-releases g c) (returns-clause-graph g c)
