use Rattle.std.proofs.Common.{◌≡◌, map, take}
use Rattle.pool_text.specs.Pool.{place_in}
use Rattle.pool_text.proofs.from_heap.places_of.Given as goal

abbrev pub invariant-loop-link : goal.invariant-loop-link
invariant-loop-link l = l.places.items ≡ map (place_in l.order) (take l.link-index l.links)
