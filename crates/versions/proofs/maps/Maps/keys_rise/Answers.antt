use Rattle.std.specs.Prelude.{T}
use Rattle.std.specs.FinMap.{is_sorted}
use Rattle.versions.specs.Bound.{map_at}
use Rattle.versions.proofs.BoundLemmas.{map-at-rise}
use Rattle.versions.proofs.StoreLemmas.{each-version}
use Rattle.versions.proofs.maps.Maps.keys_rise.Goals as goal

pub returns : goal.returns
returns g c =
    let heap = c.self.inside.heap in
    let rise = map-at-rise g.K.Ord.cmp g.V.Ord.cmp g.met.K.Ord.total g.met.V.Ord.total g.K.Element.code_of heap in
    each-version (map_at g.K.Ord.cmp) heap c.self.inside.roots.slots c.args.self.now c.self.view_is (λ es. T (is_sorted g.K.Ord.cmp es)) tt rise
