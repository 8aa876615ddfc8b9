use Rattle.std.proofs.Common.{[]}
use Rattle.versions.specs.Keyed.{keys_at, IsKeySet}
use Rattle.versions.proofs.KeyedLemmas.{set-kind, set-none, answered-makes}
use Rattle.versions.proofs.keyed.no_keys.Goals as goal

pub returns : goal.returns
returns g c =
    let o = g.met.K.Ord.total in
    let made = c.in-Ok.ensures in
    rw c.into_root.ensures
    (answered-makes (IsKeySet g.K.Ord.cmp g.K.Element.code_of) (keys_at g.K.Ord.cmp) (set-kind g.K.Ord.cmp o g.K.Element.code_of) c.args.heap.now c.empty.new.heap c.in-Ok.set.root _ _ [] made.answered
    (set-none g.K.Ord.cmp o g.K.Element.code_of c.empty.new.heap c.in-Ok.set made.bits made.set))
