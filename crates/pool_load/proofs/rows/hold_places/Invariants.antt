use Rattle.std.proofs.Common.{[], map, take, slice_index}
use Rattle.node_heap.specs.Calls.{SameRows, Builds}
use Rattle.pool_load.proofs.rows.hold_places.Given as goal

abbrev pub invariant-loop-place : goal.invariant-loop-place
invariant-loop-place g l =
    record {
      rows : SameRows l.initial.heap l.heap;
      builds : Builds l.initial.heap l.heap [] (map (slice_index l.links) (take l.place-index l.places)) 0 0;
    }
