use Rattle.std.proofs.Common.{arith}
use Rattle.versions.specs.Sorted.{keys_of}
use Rattle.versions.specs.Keyed.{keys_at}
use Rattle.versions.proofs.KeyedLemmas.{set-kind}
use Rattle.versions.proofs.MadeLemmas.{held-at}
use Rattle.versions.proofs.StoreLemmas.{puts-here, root-held, root-value, same-seen, same-stands}
use Rattle.versions.proofs.sets.Sets.insert_here.Goals as goal

pub root_of-root-requires : goal.root_of-root-requires
root_of-root-requires g c = held-at (keys_at g.K.Ord.cmp) c.self.inside.heap c.self.inside.roots.slots c.args.version c.args.self.now c.self.view_is c.requires

pub with_key_here-requires-clause-set : goal.with_key_here-requires-clause-set
with_key_here-requires-clause-set g c = (keys_of c.args.self.now c.args.version, root-value (set-kind g.K.Ord.cmp g.met.K.Ord.total g.K.Element.code_of) c.self.invariant c.self.view_is c.args.version c.root_of-root.result c.root_of-root.ensures)

pub with_key_here-requires-clause-few : goal.with_key_here-requires-clause-few
with_key_here-requires-clause-few g c = omega (arith, c.self.invariant.holds.count, c.self.invariant.holds.few)

pub with_key_here-requires-clause-held : goal.with_key_here-requires-clause-held
with_key_here-requires-clause-held g c = root-held (set-kind g.K.Ord.cmp g.met.K.Ord.total g.K.Element.code_of) c.self.invariant c.self.view_is c.args.version c.root_of-root.result c.root_of-root.ensures

pub put-requires-clause-held : goal.put-requires-clause-held
put-requires-clause-held g c = held-at (keys_at g.K.Ord.cmp) c.self.inside.heap c.self.inside.roots.slots c.args.version c.args.self.now c.self.view_is c.requires

pub put-requires-clause-few : goal.put-requires-clause-few
put-requires-clause-few g c = c.self.invariant.holds.few

pub invariant_of-self : goal.invariant_of-self
invariant_of-self g c =
    let made = c.in-Ok.ensures.edits (keys_of c.args.self.now c.args.version) (root-value (set-kind g.K.Ord.cmp g.met.K.Ord.total g.K.Element.code_of) c.self.invariant c.self.view_is c.args.version c.root_of-root.result c.root_of-root.ensures) in
    let done = puts-here (set-kind g.K.Ord.cmp g.met.K.Ord.total g.K.Element.code_of) c.self.invariant c.self.view_is c.root_of-root.ensures made c.put.ensures in
    done.stands

pub returns-in-Ok-clause-made : goal.returns-in-Ok-clause-made
returns-in-Ok-clause-made g c =
    let made = c.in-Ok.ensures.edits (keys_of c.args.self.now c.args.version) (root-value (set-kind g.K.Ord.cmp g.met.K.Ord.total g.K.Element.code_of) c.self.invariant c.self.view_is c.args.version c.root_of-root.result c.root_of-root.ensures) in
    let done = puts-here (set-kind g.K.Ord.cmp g.met.K.Ord.total g.K.Element.code_of) c.self.invariant c.self.view_is c.root_of-root.ensures made c.put.ensures in
    done.made

pub invariant_of-self-in-Err : goal.invariant_of-self-in-Err
invariant_of-self-in-Err g c = same-stands (set-kind g.K.Ord.cmp g.met.K.Ord.total g.K.Element.code_of) c.self.invariant c.self.view_is c.in-Err.ensures.refused

pub returns-in-Err-clause-refused : goal.returns-in-Err-clause-refused
returns-in-Err-clause-refused g c = same-seen (set-kind g.K.Ord.cmp g.met.K.Ord.total g.K.Element.code_of) c.self.invariant c.self.view_is c.in-Err.ensures.refused
