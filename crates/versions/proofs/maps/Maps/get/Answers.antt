use Rattle.versions.specs.Sorted.{entries_of}
use Rattle.versions.specs.Bound.{map_at, IsKeyMap}
use Rattle.versions.proofs.KeyedLemmas.{seen-value}
use Rattle.versions.proofs.MadeLemmas.{held-at}
use Rattle.versions.proofs.maps.Maps.get.Goals as goal

pub root_of-requires : goal.root_of-requires
root_of-requires g c = held-at (map_at g.K.Ord.cmp) c.self.inside.heap c.self.inside.roots.slots c.args.version c.args.self.now c.self.view_is c.requires

pub value_with-requires : goal.value_with-requires
value_with-requires g c = (entries_of c.args.self.now c.args.version, seen-value (IsKeyMap g.K.Ord.cmp g.V.Ord.cmp g.K.Element.code_of) (map_at g.K.Ord.cmp) c.self.inside.heap c.self.inside.roots.slots c.args.version c.root_of.result c.self.invariant c.self.view_is c.root_of.ensures)

pub returns : goal.returns
returns g c = c.value_with.ensures (entries_of c.args.self.now c.args.version) (seen-value (IsKeyMap g.K.Ord.cmp g.V.Ord.cmp g.K.Element.code_of) (map_at g.K.Ord.cmp) c.self.inside.heap c.self.inside.roots.slots c.args.version c.root_of.result c.self.invariant c.self.view_is c.root_of.ensures)
