use Rattle.std.proofs.Common.{refl, sym, ap, subst, ◌∙◌, Ok, map, ◌+◌, arith}
use Rattle.elem_core.specs.declared.codes.TheConstants.{LEVELS}
use Rattle.champ_kinds.specs.Root.{Root}
use Rattle.versions.specs.Pieces.{piece_code}
use Rattle.versions.specs.Roots.{Makes}
use Rattle.versions.specs.Keyed.{alike, by_root}
use Rattle.versions.proofs.AlikeLemmas.{map-alike, none-made, rows-made}
use Rattle.versions.specs.Bound.{map_at, IsKeyMap}
use Rattle.champ_kinds.specs.Binding.{alike_keys, unbind}
use Rattle.champ_kinds.proofs.StayLemmas.{map-seen}
use Rattle.versions.specs.declared.piece.Piece.TheVariants.{Key}
use Rattle.versions.proofs.KeyedLemmas.{answered-makes, if-some, if-none}
use Rattle.versions.proofs.BoundLemmas.{map-kind, map-without, map-lacks, as-order, of-order, at-order, none-order}
use Rattle.versions.proofs.bound.without_entry.Goals as goal

pub map_remove-requires-clause-contents : goal.map_remove-requires-clause-contents
map_remove-requires-clause-contents g c =
    let is = c.requires.map.1 in
    (is.bindings, map-seen {r = by_root c.args.root} c.at.ensures (as-order g.K.Ord.cmp g.V.Ord.cmp g.met.K.Ord.total g.met.V.Ord.total g.K.Element.code_of is.stands (record { keys = λ a b. refl; before = λ a w. refl; after = λ v b. refl; values = λ v w. refl })))

pub returns-in-Some-clause-made : goal.returns-in-Some-clause-made
returns-in-Some-clause-made g c = λ es is.
    let made = c.in_ok-map.ensures in
    let seen = map-seen {r = by_root c.args.root} c.at.ensures is.stands in
    let answered = if-some _ c.in-Some.is (at-order g.K.Ord.cmp g.V.Ord.cmp g.met.K.Ord.total g.met.V.Ord.total g.K.Element.code_of made.answered (record { keys = λ a b. refl; before = λ a w. refl; after = λ v b. refl; values = λ v w. refl }) is.bindings seen) in
    let key = g.P.Probe.stands_for c.args.key.now in
    rw c.into_root.ensures
    (answered-makes (IsKeyMap g.K.Ord.cmp g.V.Ord.cmp g.K.Element.code_of) (map_at g.K.Ord.cmp) (map-kind g.K.Ord.cmp g.V.Ord.cmp g.met.K.Ord.total g.met.V.Ord.total g.K.Element.code_of) c.args.heap.now c.map_remove.new.heap c.in-Some.map.root _ _ _ answered
    (map-without g.K.Ord.cmp g.V.Ord.cmp g.met.K.Ord.total g.met.V.Ord.total g.K.Element.code_of c.args.heap.now c.map_remove.new.heap c.args.root c.in-Some.map key es is (if-some _ c.in-Some.is made.bits ∙ ap (λ r. r.bits) c.at.ensures) answered.extends
    (of-order g.K.Ord.cmp g.V.Ord.cmp g.met.K.Ord.total g.met.V.Ord.total g.K.Element.code_of (λ q. unbind q (Key key) is.bindings) (if-some _ c.in-Some.is (at-order g.K.Ord.cmp g.V.Ord.cmp g.met.K.Ord.total g.met.V.Ord.total g.K.Element.code_of made.contents (record { keys = λ a b. refl; before = λ a w. refl; after = λ v b. refl; values = λ v w. refl }) is.bindings seen)) (record { keys = λ a b. refl; before = λ a w. refl; after = λ v b. refl; values = λ v w. refl }))))

pub returns-clause-made : goal.returns-clause-made
returns-clause-made g c = λ es is.
    let seen = map-seen {r = by_root c.args.root} c.at.ensures is.stands in
    let key = g.P.Probe.stands_for c.args.key.now in
    let same = if-none c.in-None.is c.in_ok-map.ensures.nothing in
    let none = none-order g.K.Ord.cmp g.V.Ord.cmp g.met.K.Ord.total g.met.V.Ord.total g.K.Element.code_of key c.map_remove.ensures.absent (record { keys = λ a b. refl; before = λ a w. refl; after = λ v b. refl; values = λ v w. refl }) is.bindings seen (c.in_ok-map.was ∙ ap Ok c.in-None.is) in
    let lacks = map-lacks g.K.Ord.cmp g.V.Ord.cmp g.met.K.Ord.total g.met.V.Ord.total g.K.Element.code_of c.args.heap.now c.args.root key es is none in
    subst (λ ds. Makes (IsKeyMap g.K.Ord.cmp g.V.Ord.cmp g.K.Element.code_of) c.args.heap.now c.same_entries.new.heap c.same_entries.result ds) (sym lacks)
    (subst (λ h. Makes (IsKeyMap g.K.Ord.cmp g.V.Ord.cmp g.K.Element.code_of) h c.same_entries.new.heap c.same_entries.result es) same (c.same_entries.ensures.makes es (subst (λ h. IsKeyMap g.K.Ord.cmp g.V.Ord.cmp g.K.Element.code_of h c.args.root es) (sym same) is)))

pub returns-in-Some-clause-rows : goal.returns-in-Some-clause-rows
returns-in-Some-clause-rows g c = λ es is.
    let made = c.in_ok-map.ensures in
    let key = g.P.Probe.stands_for c.args.key.now in
    let seen = map-seen {r = by_root c.args.root} c.at.ensures is.stands in
    let few = rows-made (if-some _ c.in-Some.is (at-order g.K.Ord.cmp g.V.Ord.cmp g.met.K.Ord.total g.met.V.Ord.total g.K.Element.code_of made.answered (record { keys = λ a b. refl; before = λ a w. refl; after = λ v b. refl; values = λ v w. refl }) is.bindings seen)) made.made in
    omega (arith, few, ap (λ (r : Root). alike_keys (piece_code g.K.Element.code_of) r.bits (Key key) is.bindings) c.at.ensures, map-alike g.K.Ord.cmp g.V.Ord.cmp g.met.K.Ord.total g.met.V.Ord.total g.K.Element.code_of c.args.heap.now c.args.root key es is)

pub returns-clause-rows : goal.returns-clause-rows
returns-clause-rows g c = λ es is. none-made c.same_entries.new.heap (LEVELS + alike g.K.Element.code_of (g.P.Probe.stands_for c.args.key.now) (map (λ e. e.0) es)) (if-none c.in-None.is c.in_ok-map.ensures.nothing) c.same_entries.ensures.rows
