use Rattle.std.proofs.Common.{ap, refl, ◌∙◌}
use Rattle.champ_kinds.proofs.StayLemmas.{map-seen}
use Rattle.set_merge.specs.Merge as merge
use Rattle.versions.specs.Keyed.{by_root}
use Rattle.versions.specs.Bound.{map_at, IsKeyMap}
use Rattle.versions.proofs.KeyedLemmas.{answered-makes}
use Rattle.versions.proofs.BoundLemmas.{map-kind, as-order, of-order}
use Rattle.versions.proofs.MergeLemmas.{map-united}
use Rattle.versions.proofs.EqualLemmas.{apart-seen}
use Rattle.versions.proofs.merging.entries_of_either.Goals as goal

pub map_union-requires-clause-first : goal.map_union-requires-clause-first
map_union-requires-clause-first g c =
    let is = c.requires.first.1 in
    (is.bindings, map-seen {r = by_root c.args.first} c.at-first.ensures (as-order g.K.Ord.cmp g.V.Ord.cmp g.met.K.Ord.total g.met.V.Ord.total g.K.Element.code_of is.stands (record { keys = λ a b. refl; before = λ a w. refl; after = λ v b. refl; values = λ v w. refl })))

pub map_union-requires-clause-second : goal.map_union-requires-clause-second
map_union-requires-clause-second g c =
    let is = c.requires.second.1 in
    (is.bindings, map-seen {r = by_root c.args.second} c.at-second.ensures (as-order g.K.Ord.cmp g.V.Ord.cmp g.met.K.Ord.total g.met.V.Ord.total g.K.Element.code_of is.stands (record { keys = λ a b. refl; before = λ a w. refl; after = λ v b. refl; values = λ v w. refl })))

pub returns-clause-made : goal.returns-clause-made
returns-clause-made g c = λ es ds is are.
    let o = g.met.K.Ord.total in
    let p = g.met.V.Ord.total in
    let made = c.in_ok-map.ensures in
    let seen = map-seen {r = by_root c.args.first} c.at-first.ensures (as-order g.K.Ord.cmp g.V.Ord.cmp o p g.K.Element.code_of is.stands (record { keys = λ a b. refl; before = λ a w. refl; after = λ v b. refl; values = λ v w. refl })) in
    let also = map-seen {r = by_root c.args.second} c.at-second.ensures (as-order g.K.Ord.cmp g.V.Ord.cmp o p g.K.Element.code_of are.stands (record { keys = λ a b. refl; before = λ a w. refl; after = λ v b. refl; values = λ v w. refl })) in
    rw c.into_root.ensures
    (answered-makes (IsKeyMap g.K.Ord.cmp g.V.Ord.cmp g.K.Element.code_of) (map_at g.K.Ord.cmp) (map-kind g.K.Ord.cmp g.V.Ord.cmp o p g.K.Element.code_of) c.args.heap.now c.map_union.new.heap c.in_ok-map.map.root _ _ _ made.answered
    (map-united g.K.Ord.cmp g.V.Ord.cmp o p g.K.Element.code_of c.args.heap.now c.map_union.new.heap c.args.first c.args.second c.in_ok-map.map es ds is are (made.bits ∙ ap (λ r. r.bits) c.at-first.ensures) made.answered.extends
    (of-order g.K.Ord.cmp g.V.Ord.cmp o p g.K.Element.code_of (λ q. merge.map_union q is.bindings are.bindings) (made.contents is.bindings are.bindings seen also) (record { keys = λ a b. refl; before = λ a w. refl; after = λ v b. refl; values = λ v w. refl }))))

pub returns-clause-apart : goal.returns-clause-apart
returns-clause-apart g c = λ rows others left right. c.in_ok-map.ensures.apart rows others (apart-seen c.args.heap.now rows c.at-first.ensures c.at-second.ensures left) (apart-seen c.args.heap.now others c.at-second.ensures c.at-first.ensures right)
