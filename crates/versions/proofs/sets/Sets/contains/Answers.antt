use Rattle.versions.specs.Sorted.{keys_of}
use Rattle.versions.specs.Keyed.{keys_at, IsKeySet}
use Rattle.versions.proofs.KeyedLemmas.{seen-value}
use Rattle.versions.proofs.MadeLemmas.{held-at}
use Rattle.versions.proofs.sets.Sets.contains.Goals as goal

pub root_of-requires : goal.root_of-requires
root_of-requires g c = held-at (keys_at g.K.Ord.cmp) c.self.inside.heap c.self.inside.roots.slots c.args.version c.args.self.now c.self.view_is c.requires

pub has_key-requires : goal.has_key-requires
has_key-requires g c = (keys_of c.args.self.now c.args.version, seen-value (IsKeySet g.K.Ord.cmp g.K.Element.code_of) (keys_at g.K.Ord.cmp) c.self.inside.heap c.self.inside.roots.slots c.args.version c.root_of.result c.self.invariant c.self.view_is c.root_of.ensures)

pub returns : goal.returns
returns g c = c.has_key.ensures (keys_of c.args.self.now c.args.version) (seen-value (IsKeySet g.K.Ord.cmp g.K.Element.code_of) (keys_at g.K.Ord.cmp) c.self.inside.heap c.self.inside.roots.slots c.args.version c.root_of.result c.self.invariant c.self.view_is c.root_of.ensures)
