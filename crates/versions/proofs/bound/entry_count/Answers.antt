use Rattle.std.proofs.Common.{refl, ◌∙◌}
use Rattle.versions.specs.Keyed.{by_root}
use Rattle.champ_kinds.proofs.StayLemmas.{map-seen}
use Rattle.versions.proofs.BoundLemmas.{map-count, as-order, at-order}
use Rattle.versions.proofs.bound.entry_count.Goals as goal

pub len-requires : goal.len-requires
len-requires g c =
    let is = c.requires.1 in
    (is.bindings, map-seen {r = by_root c.args.root} c.at.ensures (as-order g.K.Ord.cmp g.V.Ord.cmp g.met.K.Ord.total g.met.V.Ord.total g.K.Element.code_of is.stands (record { keys = λ a b. refl; before = λ a w. refl; after = λ v b. refl; values = λ v w. refl })))

pub returns : goal.returns
returns g c = λ es is. at-order g.K.Ord.cmp g.V.Ord.cmp g.met.K.Ord.total g.met.V.Ord.total g.K.Element.code_of c.len.ensures (record { keys = λ a b. refl; before = λ a w. refl; after = λ v b. refl; values = λ v w. refl }) is.bindings (map-seen {r = by_root c.args.root} c.at.ensures is.stands) ∙ map-count g.K.Ord.cmp g.V.Ord.cmp g.met.K.Ord.total g.met.V.Ord.total g.K.Element.code_of c.args.heap.now c.args.root es is
