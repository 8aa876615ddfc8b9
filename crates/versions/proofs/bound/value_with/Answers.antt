use Rattle.std.proofs.Common.{refl, sym, ap, ◌∙◌}
use Rattle.std.specs.Prelude.{option_copied}
use Rattle.versions.specs.Rooted.{value_at}
use Rattle.versions.specs.Keyed.{by_root}
use Rattle.champ_kinds.proofs.StayLemmas.{map-seen}
use Rattle.versions.proofs.BoundLemmas.{map-found, as-order, get-order, found-piece, found-none, found-lost}
use Rattle.versions.proofs.bound.value_with.Goals as goal

pub get-requires : goal.get-requires
get-requires g c =
    let is = c.requires.1 in
    (is.bindings, map-seen {r = by_root c.args.root} c.at.ensures (as-order g.K.Ord.cmp g.V.Ord.cmp g.met.K.Ord.total g.met.V.Ord.total g.K.Element.code_of is.stands (record { keys = λ a b. refl; before = λ a w. refl; after = λ v b. refl; values = λ v w. refl })))

pub returns-in_err-cell : goal.returns-in_err-cell
returns-in_err-cell g c = λ es is.
    let key = g.P.Probe.stands_for c.args.key.now in
    let seen = map-seen {r = by_root c.args.root} c.at.ensures is.stands in
    let found = get-order g.K.Ord.cmp g.V.Ord.cmp g.met.K.Ord.total g.met.V.Ord.total g.K.Element.code_of key c.get.result c.get.ensures.value (record { keys = λ a b. refl; before = λ a w. refl; after = λ v b. refl; values = λ v w. refl }) is.bindings seen in
    rw c.from_residual.ensures (found-none (value_at c.args.heap.now) _ _ (map-found g.K.Ord.cmp g.V.Ord.cmp g.met.K.Ord.total g.met.V.Ord.total g.K.Element.code_of c.args.heap.now c.args.root key es is) (sym found ∙ c.in_err-cell.was))

pub returns-in_err-piece : goal.returns-in_err-piece
returns-in_err-piece g c = λ es is.
    let key = g.P.Probe.stands_for c.args.key.now in
    let seen = map-seen {r = by_root c.args.root} c.at.ensures is.stands in
    let found = get-order g.K.Ord.cmp g.V.Ord.cmp g.met.K.Ord.total g.met.V.Ord.total g.K.Element.code_of key c.get.result c.get.ensures.value (record { keys = λ a b. refl; before = λ a w. refl; after = λ v b. refl; values = λ v w. refl }) is.bindings seen in
    absurd (found-lost (value_at c.args.heap.now) _ _ c.in_ok-cell.cell (map-found g.K.Ord.cmp g.V.Ord.cmp g.met.K.Ord.total g.met.V.Ord.total g.K.Element.code_of c.args.heap.now c.args.root key es is) (sym found ∙ c.in_ok-cell.was) (sym c.value.ensures ∙ ap option_copied c.in_err-piece.was))

pub returns : goal.returns
returns g c = λ es is.
    let key = g.P.Probe.stands_for c.args.key.now in
    let seen = map-seen {r = by_root c.args.root} c.at.ensures is.stands in
    let found = get-order g.K.Ord.cmp g.V.Ord.cmp g.met.K.Ord.total g.met.V.Ord.total g.K.Element.code_of key c.get.result c.get.ensures.value (record { keys = λ a b. refl; before = λ a w. refl; after = λ v b. refl; values = λ v w. refl }) is.bindings seen in
    c.as_value.ensures ∙ found-piece (value_at c.args.heap.now) _ _ c.in_ok-cell.cell c.in_ok-piece.piece.now (map-found g.K.Ord.cmp g.V.Ord.cmp g.met.K.Ord.total g.met.V.Ord.total g.K.Element.code_of c.args.heap.now c.args.root key es is) (sym found ∙ c.in_ok-cell.was) (sym c.value.ensures ∙ ap option_copied c.in_ok-piece.was)
