use Rattle.std.proofs.Common.{refl, length, ap, sym, ◌∙◌}
use Rattle.champ_kinds.proofs.StayLemmas.{map-seen}
use Rattle.versions.specs.Keyed.{by_root}
use Rattle.versions.proofs.CallLemmas.{no-elements}
use Rattle.versions.proofs.KeyedLemmas.{none-first}
use Rattle.versions.proofs.BoundLemmas.{map-count, as-order, at-order}
use Rattle.versions.proofs.bound.has_no_entry.Goals as goal

pub entries-entries-requires : goal.entries-entries-requires
entries-entries-requires g c =
    let is = c.requires.1 in
    (is.bindings, map-seen {r = by_root c.args.root} c.at.ensures (as-order g.K.Ord.cmp g.V.Ord.cmp g.met.K.Ord.total g.met.V.Ord.total g.K.Element.code_of is.stands (record { keys = λ a b. refl; before = λ a w. refl; after = λ v b. refl; values = λ v w. refl })))

pub returns : goal.returns
returns g c = λ es is.
    let number = at-order g.K.Ord.cmp g.V.Ord.cmp g.met.K.Ord.total g.met.V.Ord.total g.K.Element.code_of c.entries-entries.ensures.number (record { keys = λ a b. refl; before = λ a w. refl; after = λ v b. refl; values = λ v w. refl }) is.bindings (map-seen {r = by_root c.args.root} c.at.ensures is.stands) ∙ map-count g.K.Ord.cmp g.V.Ord.cmp g.met.K.Ord.total g.met.V.Ord.total g.K.Element.code_of c.args.heap.now c.args.root es is in
    let first = none-first c.entries-entries.result c.next.new.self c.next.result c.is_none.result c.next.ensures.steps c.is_none.ensures in
    (λ none. no-elements es (sym number ∙ ap length (first.0 none)), λ none. first.1 (no-elements c.entries-entries.result (number ∙ ap length none)))
