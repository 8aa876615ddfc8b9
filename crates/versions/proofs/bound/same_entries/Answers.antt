use Rattle.std.proofs.Common.{arith}
use Rattle.versions.specs.Bound.{map_at, IsKeyMap}
use Rattle.versions.proofs.MadeLemmas.{stays-extended}
use Rattle.versions.proofs.BoundLemmas.{map-kind}
use Rattle.versions.proofs.bound.same_entries.Goals as goal

pub hold-requires-clause-live : goal.hold-requires-clause-live
hold-requires-clause-live g c = (map-kind g.K.Ord.cmp g.V.Ord.cmp g.met.K.Ord.total g.met.V.Ord.total g.K.Element.code_of).live c.args.heap.now c.args.root c.requires.map.0 c.requires.map.1

pub returns-clause-makes : goal.returns-clause-makes
returns-clause-makes g c = λ es is.
    let kind = map-kind g.K.Ord.cmp g.V.Ord.cmp g.met.K.Ord.total g.met.V.Ord.total g.K.Element.code_of in
    let keeps = stays-extended (IsKeyMap g.K.Ord.cmp g.V.Ord.cmp g.K.Element.code_of) (map_at g.K.Ord.cmp) kind c.args.heap.now c.hold.new.self c.hold.ensures.extends in
    record { is = keeps c.args.root es is; keeps = keeps; holds = c.hold.ensures.holds; count = c.hold.ensures.count }

pub returns-clause-rows : goal.returns-clause-rows
returns-clause-rows g c = omega (arith, c.hold.ensures.makes.made)
