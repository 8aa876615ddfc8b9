use Rattle.std.proofs.Common.{refl, sym, ap, ◌∙◌, arith}
use Rattle.versions.specs.Keyed.{by_root}
use Rattle.versions.specs.Bound.{map_at, IsKeyMap}
use Rattle.node_heap.proofs.Frames.{Extends-trans}
use Rattle.elem_core.specs.declared.codes.TheConstants.{CODE_BITS}
use Rattle.node_heap.specs.Heap.{form_at}
use Rattle.node_heap.proofs.Counts.{test_same}
use Rattle.champ_kinds.specs.Root.{Root}
use Rattle.champ_kinds.proofs.PairLemmas.{alike-pairs}
use Rattle.champ_kinds.proofs.StayLemmas.{map-seen, entries-seen, entries-extended, containers-extended}
use Rattle.champ_kinds.specs.Binding.{bind, alike_keys}
use Rattle.versions.specs.Pieces.{piece_code}
use Rattle.versions.specs.declared.piece.Piece.TheVariants.{Key, Value}
use Rattle.versions.proofs.CallLemmas.{on-ok}
use Rattle.versions.proofs.MadeLemmas.{stays-extended}
use Rattle.versions.proofs.MakingLemmas.{cell-value}
use Rattle.versions.proofs.BoundLemmas.{map-kind, map-with, as-order, of-order, at-order, trie-as, trie-order, spent-makes}
use Rattle.versions.proofs.bound.with_entry.Goals as goal

pub look_up-found-requires-clause-trie : goal.look_up-found-requires-clause-trie
look_up-found-requires-clause-trie g c =
    let is = c.requires.map.1 in
    (is.stands.entries, trie-as g.K.Ord.cmp g.V.Ord.cmp g.met.K.Ord.total g.met.V.Ord.total g.K.Element.code_of CODE_BITS c.args.root c.args.heap.now is.stands.rooted.trie (record { keys = λ a b. refl; before = λ a w. refl; after = λ v b. refl; values = λ v w. refl }))

pub cell-cell-requires-clause-spare : goal.cell-cell-requires-clause-spare
cell-cell-requires-clause-spare g c =
    let spares = on-ok c.reserve.result _ (sym c.is_err.ensures.value ∙ c.if-is_err.false) c.reserve.ensures.spares in
    omega (arith, spares.0)

pub cell-cell-requires-clause-few : goal.cell-cell-requires-clause-few
cell-cell-requires-clause-few g c = omega (arith, c.requires.few, c.reserve.ensures.rest.count)

pub map_insert_there-made-requires-clause-few : goal.map_insert_there-made-requires-clause-few
map_insert_there-made-requires-clause-few g c = omega (arith, c.requires.few, c.reserve.ensures.rest.count, c.cell-cell.ensures.count)

pub map_insert_there-made-requires-clause-held : goal.map_insert_there-made-requires-clause-held
map_insert_there-made-requires-clause-held g c = omega (arith, c.cell-cell.ensures.adds.holds c.cell-cell.result, test_same c.cell-cell.result c.cell-cell.result refl)

pub map_insert_there-made-requires-clause-contents : goal.map_insert_there-made-requires-clause-contents
map_insert_there-made-requires-clause-contents g c =
    let old = c.args.heap.now in
    let filled = c.cell-cell.new.self in
    let code = piece_code g.K.Element.code_of in
    let M = c.requires.map.1.bindings in
    let stands = c.requires.map.1.stands in
    let kept = (containers-extended old filled (Extends-trans c.reserve.ensures.extends c.cell-cell.ensures.extends) (by_root c.args.root)).map _ _ M stands in
    let alike = alike-pairs (form_at old) code CODE_BITS (Key c.args.key) stands.entries M stands.pairs in
    let counted = trie-order g.K.Ord.cmp g.V.Ord.cmp g.met.K.Ord.total g.met.V.Ord.total g.K.Element.code_of CODE_BITS c.args.root old c.look_up-found.ensures.alike (record { keys = λ a b. refl; before = λ a w. refl; after = λ v b. refl; values = λ v w. refl }) stands.entries stands.rooted.trie in
    let bits = ap (λ (r : Root). alike_keys code r.bits (Key c.args.key) M) c.at-map.ensures in
    let spares = on-ok c.reserve.result _ (sym c.is_err.ensures.value ∙ c.if-is_err.false) c.reserve.ensures.spares in
    let made = c.cell-cell.ensures.makes in
    (M, map-seen {r = by_root c.args.root} c.at-map.ensures (as-order g.K.Ord.cmp g.V.Ord.cmp g.met.K.Ord.total g.met.V.Ord.total g.K.Element.code_of kept (record { keys = λ a b. refl; before = λ a w. refl; after = λ v b. refl; values = λ v w. refl })), (omega (arith, spares.0, made.spare_cells), omega (arith, spares.1, made.spare_nodes, counted, alike, bits)))

pub map_insert_there-made-requires-clause-found : goal.map_insert_there-made-requires-clause-found
map_insert_there-made-requires-clause-found g c =
    let stands = c.requires.map.1.stands in
    let trie = trie-as g.K.Ord.cmp g.V.Ord.cmp g.met.K.Ord.total g.met.V.Ord.total g.K.Element.code_of CODE_BITS c.args.root c.args.heap.now stands.rooted.trie (record { keys = λ a b. refl; before = λ a w. refl; after = λ v b. refl; values = λ v w. refl }) in (
      stands.entries,
      entries-seen {r = by_root c.args.root} c.at-map.ensures (entries-extended c.args.heap.now c.cell-cell.new.self (Extends-trans c.reserve.ensures.extends c.cell-cell.ensures.extends) (record { bits = stands.rooted.bits; trie = trie })),
      c.look_up-found.ensures.entry stands.entries trie,
    )

pub returns-clause-made : goal.returns-clause-made
returns-clause-made g c = λ es is.
    let old = c.args.heap.now in
    let filled = c.cell-cell.new.self in
    let new = c.map_insert_there-made.new.heap in
    let now = stays-extended (IsKeyMap g.K.Ord.cmp g.V.Ord.cmp g.K.Element.code_of) (map_at g.K.Ord.cmp) (map-kind g.K.Ord.cmp g.V.Ord.cmp g.met.K.Ord.total g.met.V.Ord.total g.K.Element.code_of) old filled (Extends-trans c.reserve.ensures.extends c.cell-cell.ensures.extends) c.args.root es is in
    let made = c.map_insert_there-made.ensures in
    let seen = map-seen {r = by_root c.args.root} c.at-map.ensures now.stands in
    let answered = at-order g.K.Ord.cmp g.V.Ord.cmp g.met.K.Ord.total g.met.V.Ord.total g.K.Element.code_of made.answered (record { keys = λ a b. refl; before = λ a w. refl; after = λ v b. refl; values = λ v w. refl }) now.bindings seen in
    rw c.into_root.ensures
    (spent-makes (IsKeyMap g.K.Ord.cmp g.V.Ord.cmp g.K.Element.code_of) (map_at g.K.Ord.cmp) (map-kind g.K.Ord.cmp g.V.Ord.cmp g.met.K.Ord.total g.met.V.Ord.total g.K.Element.code_of) old c.reserve.new.self filled new c.cell-cell.result c.map_insert_there-made.result.root _ _ (Value c.args.value) _ c.reserve.ensures.rest c.reserve.ensures.extends c.cell-cell.ensures.adds c.cell-cell.ensures.extends c.cell-cell.ensures.count answered
    (map-with g.K.Ord.cmp g.V.Ord.cmp g.met.K.Ord.total g.met.V.Ord.total g.K.Element.code_of filled new c.args.root c.cell-cell.result c.map_insert_there-made.result c.args.key c.args.value es now (made.bits ∙ ap (λ r. r.bits) c.at-map.ensures) answered.extends (cell-value c.reserve.new.self filled c.cell-cell.result (Value c.args.value) c.cell-cell.ensures.adds)
    (of-order g.K.Ord.cmp g.V.Ord.cmp g.met.K.Ord.total g.met.V.Ord.total g.K.Element.code_of (λ q. bind q now.bindings (Key c.args.key) c.cell-cell.result) (at-order g.K.Ord.cmp g.V.Ord.cmp g.met.K.Ord.total g.met.V.Ord.total g.K.Element.code_of made.contents (record { keys = λ a b. refl; before = λ a w. refl; after = λ v b. refl; values = λ v w. refl }) now.bindings seen) (record { keys = λ a b. refl; before = λ a w. refl; after = λ v b. refl; values = λ v w. refl }))))
