use Rattle.std.proofs.Common.{◌≡◌, map, take, slice_index}
use Rattle.pool_load.proofs.rows.links_at_places.Given as goal

abbrev pub invariant-loop-place : goal.invariant-loop-place
invariant-loop-place l = l.chosen.items ≡ map (slice_index l.links) (take l.place-index l.places)
