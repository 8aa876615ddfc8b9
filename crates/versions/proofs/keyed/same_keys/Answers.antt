use Rattle.std.proofs.Common.{arith}
use Rattle.versions.specs.Keyed.{keys_at, IsKeySet}
use Rattle.versions.proofs.MadeLemmas.{stays-extended}
use Rattle.versions.proofs.KeyedLemmas.{set-kind}
use Rattle.versions.proofs.keyed.same_keys.Goals as goal

pub hold-requires-clause-live : goal.hold-requires-clause-live
hold-requires-clause-live g c = (set-kind g.K.Ord.cmp g.met.K.Ord.total g.K.Element.code_of).live c.args.heap.now c.args.root c.requires.set.0 c.requires.set.1

pub returns-clause-makes : goal.returns-clause-makes
returns-clause-makes g c = λ ks is.
    let kind = set-kind g.K.Ord.cmp g.met.K.Ord.total g.K.Element.code_of in
    let keeps = stays-extended (IsKeySet g.K.Ord.cmp g.K.Element.code_of) (keys_at g.K.Ord.cmp) kind c.args.heap.now c.hold.new.self c.hold.ensures.extends in
    record { is = keeps c.args.root ks is; keeps = keeps; holds = c.hold.ensures.holds; count = c.hold.ensures.count }

pub returns-clause-rows : goal.returns-clause-rows
returns-clause-rows g c = omega (arith, c.hold.ensures.makes.made)
