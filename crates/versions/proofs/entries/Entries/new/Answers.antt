use Rattle.std.proofs.Common.{refl}
use Rattle.champ_kinds.proofs.StayLemmas.{map-seen}
use Rattle.versions.specs.Keyed.{by_root}
use Rattle.versions.proofs.BoundLemmas.{as-order, map-read, map-some}
use Rattle.versions.proofs.entries.Entries.new.Goals as goal

pub entries-requires : goal.entries-requires
entries-requires g c =
    let is = c.requires.1 in
    (is.bindings, map-seen {r = by_root c.args.root} c.at.ensures (as-order g.K.Ord.cmp g.V.Ord.cmp g.met.K.Ord.total g.met.V.Ord.total g.K.Element.code_of is.stands (record { keys = λ a b. refl; before = λ a w. refl; after = λ v b. refl; values = λ v w. refl })))

pub invariant_of-result : goal.invariant_of-result
invariant_of-result g c =
    let is = c.requires.1 in
    map-some g.K.Ord.cmp g.V.Ord.cmp c.args.heap.now c.entries.result is.bindings is.entries is.bound (c.entries.ensures.pairs is.bindings (map-seen {r = by_root c.args.root} c.at.ensures (as-order g.K.Ord.cmp g.V.Ord.cmp g.met.K.Ord.total g.met.V.Ord.total g.K.Element.code_of is.stands (record { keys = λ a b. refl; before = λ a w. refl; after = λ v b. refl; values = λ v w. refl }))))

pub returns : goal.returns
returns g c = λ es is.
    map-read g.K.Ord.cmp g.V.Ord.cmp g.met.K.Ord.total g.met.V.Ord.total g.K.Element.code_of c.args.heap.now c.args.root es is c.entries.result (c.entries.ensures.pairs is.bindings (map-seen {r = by_root c.args.root} c.at.ensures (as-order g.K.Ord.cmp g.V.Ord.cmp g.met.K.Ord.total g.met.V.Ord.total g.K.Element.code_of is.stands (record { keys = λ a b. refl; before = λ a w. refl; after = λ v b. refl; values = λ v w. refl }))))
