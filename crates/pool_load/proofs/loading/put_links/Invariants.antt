use Rattle.std.proofs.Common.{◌≡◌, ◌≤◌, map, take, length, slice_index, vec_capacity}
use Rattle.pool_load.proofs.loading.put_links.Given as goal

abbrev pub invariant-loop-place : goal.invariant-loop-place
invariant-loop-place l =
    record {
      items : l.chosen.items ≡ map (slice_index l.links) (take l.place-index l.places);
      room : length l.places ≤ vec_capacity l.chosen;
    }
