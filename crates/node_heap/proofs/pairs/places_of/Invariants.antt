use Rattle.std.proofs.Common.{◌≡◌, ◌≤◌, ◌+◌, drop}
use Rattle.node_heap.specs.Links.{count}
use Rattle.node_heap.proofs.pairs.places_of.Given as goal

abbrev pub invariant-loop-link : goal.invariant-loop-link
invariant-loop-link l = record {
  rest : l.places + count l.place (drop l.link-index l.links) ≡ count l.place l.links;
  few : l.places ≤ l.link-index;
}
