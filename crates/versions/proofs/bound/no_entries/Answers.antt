use Rattle.std.proofs.Common.{[], refl}
use Rattle.versions.specs.Bound.{map_at, IsKeyMap}
use Rattle.versions.proofs.KeyedLemmas.{answered-makes}
use Rattle.versions.proofs.BoundLemmas.{map-kind, map-none, of-order}
use Rattle.versions.proofs.bound.no_entries.Goals as goal

pub returns : goal.returns
returns g c =
    let o = g.met.K.Ord.total in
    let p = g.met.V.Ord.total in
    let made = c.in-Ok.ensures in
    rw c.into_root.ensures
    (answered-makes (IsKeyMap g.K.Ord.cmp g.V.Ord.cmp g.K.Element.code_of) (map_at g.K.Ord.cmp) (map-kind g.K.Ord.cmp g.V.Ord.cmp o p g.K.Element.code_of) c.args.heap.now c.empty.new.heap c.in-Ok.map.root _ _ [] made.answered
    (map-none g.K.Ord.cmp g.V.Ord.cmp o p g.K.Element.code_of c.empty.new.heap c.in-Ok.map made.bits
    (of-order g.K.Ord.cmp g.V.Ord.cmp o p g.K.Element.code_of (λ _. []) made.map (record { keys = λ a b. refl; before = λ a w. refl; after = λ v b. refl; values = λ v w. refl }))))
