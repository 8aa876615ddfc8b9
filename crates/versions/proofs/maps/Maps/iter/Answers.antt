use Rattle.versions.specs.Sorted.{entries_of}
use Rattle.versions.specs.Bound.{map_at}
use Rattle.versions.proofs.BoundLemmas.{map-kind}
use Rattle.versions.proofs.MadeLemmas.{held-at}
use Rattle.versions.proofs.StoreLemmas.{root-value}
use Rattle.versions.proofs.maps.Maps.iter.Goals as goal

pub root_of-requires : goal.root_of-requires
root_of-requires g c = held-at (map_at g.K.Ord.cmp) c.self.inside.heap c.self.inside.roots.slots c.args.version c.args.self.now c.self.view_is c.requires

pub new-requires : goal.new-requires
new-requires g c = (entries_of c.args.self.now c.args.version, root-value (map-kind g.K.Ord.cmp g.V.Ord.cmp g.met.K.Ord.total g.met.V.Ord.total g.K.Element.code_of) c.self.invariant c.self.view_is c.args.version c.root_of.result c.root_of.ensures)

pub returns : goal.returns
returns g c = c.new.ensures _ (root-value (map-kind g.K.Ord.cmp g.V.Ord.cmp g.met.K.Ord.total g.met.V.Ord.total g.K.Element.code_of) c.self.invariant c.self.view_is c.args.version c.root_of.result c.root_of.ensures)
