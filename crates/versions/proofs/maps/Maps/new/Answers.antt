use Rattle.versions.specs.Bound.{map_at, IsKeyMap}
use Rattle.versions.proofs.KeyedLemmas.{no-roots}
use Rattle.versions.proofs.maps.Maps.new.Goals as goal

pub invariant_of-result : goal.invariant_of-result
invariant_of-result g c = no-roots (IsKeyMap g.K.Ord.cmp g.V.Ord.cmp g.K.Element.code_of) (map_at g.K.Ord.cmp) c.new.result c.new-2.result.slots c.new-2.ensures.empty c.new.ensures.holds
