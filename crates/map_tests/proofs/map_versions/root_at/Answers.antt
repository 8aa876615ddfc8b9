use Rattle.champ_kinds.proofs.StayLemmas.{map-live}
use Rattle.map_tests.proofs.map_versions.root_at.Goals as goal

pub returns : goal.returns
returns g c = map-live c.args.heap.now c.map_at.result c.root.result c.root.ensures c.map_at.ensures.map.1
