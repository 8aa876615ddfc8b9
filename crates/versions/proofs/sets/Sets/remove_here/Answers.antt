use Rattle.std.proofs.Common.{arith}
use Rattle.versions.specs.Sorted.{keys_of}
use Rattle.versions.specs.Keyed.{keys_at}
use Rattle.versions.proofs.KeyedLemmas.{set-kind}
use Rattle.versions.proofs.MadeLemmas.{held-at}
use Rattle.versions.proofs.StoreLemmas.{puts-here, root-held, root-value}
use Rattle.versions.proofs.sets.Sets.remove_here.Goals as goal

pub root_of-root-requires : goal.root_of-root-requires
root_of-root-requires g c = held-at (keys_at g.K.Ord.cmp) c.self.inside.heap c.self.inside.roots.slots c.args.version c.args.self.now c.self.view_is c.requires

pub without_key_here-requires-clause-set : goal.without_key_here-requires-clause-set
without_key_here-requires-clause-set g c = (keys_of c.args.self.now c.args.version, root-value (set-kind g.K.Ord.cmp g.met.K.Ord.total g.K.Element.code_of) c.self.invariant c.self.view_is c.args.version c.root_of-root.result c.root_of-root.ensures)

pub without_key_here-requires-clause-few : goal.without_key_here-requires-clause-few
without_key_here-requires-clause-few g c = omega (arith, c.self.invariant.holds.count, c.self.invariant.holds.few)

pub without_key_here-requires-clause-held : goal.without_key_here-requires-clause-held
without_key_here-requires-clause-held g c = root-held (set-kind g.K.Ord.cmp g.met.K.Ord.total g.K.Element.code_of) c.self.invariant c.self.view_is c.args.version c.root_of-root.result c.root_of-root.ensures

pub invariant_of-self-2 : goal.invariant_of-self-2
invariant_of-self-2 g c =
    let made = c.in_ok-root.ensures.edits (keys_of c.args.self.now c.args.version) (root-value (set-kind g.K.Ord.cmp g.met.K.Ord.total g.K.Element.code_of) c.self.invariant c.self.view_is c.args.version c.root_of-root.result c.root_of-root.ensures) in
    let done = puts-here (set-kind g.K.Ord.cmp g.met.K.Ord.total g.K.Element.code_of) c.self.invariant c.self.view_is c.root_of-root.ensures made c.put.ensures in
    done.stands

pub returns-clause-made : goal.returns-clause-made
returns-clause-made g c =
    let made = c.in_ok-root.ensures.edits (keys_of c.args.self.now c.args.version) (root-value (set-kind g.K.Ord.cmp g.met.K.Ord.total g.K.Element.code_of) c.self.invariant c.self.view_is c.args.version c.root_of-root.result c.root_of-root.ensures) in
    let done = puts-here (set-kind g.K.Ord.cmp g.met.K.Ord.total g.K.Element.code_of) c.self.invariant c.self.view_is c.root_of-root.ensures made c.put.ensures in
    done.made
