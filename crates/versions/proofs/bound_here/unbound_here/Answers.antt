use Rattle.std.proofs.Common.{Ok, refl, ap, sym, subst, ◌∙◌, arith}
use Rattle.std.specs.Prelude.{IsOk}
use Rattle.elem_core.specs.declared.codes.TheConstants.{CODE_BITS}
use Rattle.node_heap.specs.Heap.{form_at}
use Rattle.node_heap.specs.declared.owner.Owner.TheVariants.{Hold as by_hold}
use Rattle.champ_kinds.specs.Root.{Root}
use Rattle.champ_kinds.specs.Binding.{alike_keys}
use Rattle.champ_kinds.proofs.PairLemmas.{alike-pairs}
use Rattle.champ_kinds.proofs.StayLemmas.{containers-extended}
use Rattle.edit_trie.specs.Edit.{CutsKey}
use Rattle.versions.specs.declared.piece.Piece.TheVariants.{Key}
use Rattle.versions.specs.Roots.{Edits}
use Rattle.versions.specs.Sorted.{remove_entry}
use Rattle.versions.specs.Keyed.{by_root}
use Rattle.versions.specs.Pieces.{piece_code}
use Rattle.versions.specs.Bound.{IsKeyMap}
use Rattle.versions.proofs.KeyedLemmas.{if-some}
use Rattle.versions.proofs.BoundLemmas.{as-order, none-order, of-order, order-same, trie-as, trie-order}
use Rattle.versions.proofs.AlikeLemmas.{cut-few, none-few}
use Rattle.versions.proofs.HereLemmas.{cut-given, cut-none, cut-over, cut-owner}
use Rattle.versions.proofs.bound_here.unbound_here.Goals as goal

pub look_up-found-requires-clause-trie : goal.look_up-found-requires-clause-trie
look_up-found-requires-clause-trie g c =
    let is = c.requires.map.1 in
    (is.stands.entries, trie-as g.K.Ord.cmp g.V.Ord.cmp g.met.K.Ord.total g.met.V.Ord.total g.K.Element.code_of CODE_BITS c.args.root c.args.heap.now is.stands.rooted.trie (record { keys = λ a b. refl; before = λ a w. refl; after = λ v b. refl; values = λ v w. refl }))

pub opened-edit-requires-clause-held : goal.opened-edit-requires-clause-held
opened-edit-requires-clause-held g c = omega (arith, c.reserve.ensures.rest.holds c.args.root, c.requires.held)

pub opened-edit-requires-clause-few : goal.opened-edit-requires-clause-few
opened-edit-requires-clause-few g c = omega (arith, c.requires.few, c.reserve.ensures.rest.count)

pub opened-edit-requires-clause-map : goal.opened-edit-requires-clause-map
opened-edit-requires-clause-map g c =
    let is = c.requires.map.1 in
    (is.bindings, (containers-extended c.args.heap.now c.reserve.new.self c.reserve.ensures.extends (by_root c.args.root)).map _ _ is.bindings (as-order g.K.Ord.cmp g.V.Ord.cmp g.met.K.Ord.total g.met.V.Ord.total g.K.Element.code_of is.stands (record { keys = λ a b. refl; before = λ a w. refl; after = λ v b. refl; values = λ v w. refl })))

pub remove-requires-clause-held : goal.remove-requires-clause-held
remove-requires-clause-held g c = cut-owner g.K.Ord.cmp g.V.Ord.cmp g.met.K.Ord.total g.met.V.Ord.total g.K.Element.code_of c.args.heap.now c.reserve.new.self c.args.root c.requires.held c.reserve.ensures.rest c.reserve.ensures.extends c.opened-edit.new.heap c.opened-edit.result c.opened-edit.ensures.extends c.opened-edit.ensures.edits c.opened-edit.ensures.bits

pub remove-requires-clause-few : goal.remove-requires-clause-few
remove-requires-clause-few g c = omega (arith, c.requires.few, c.reserve.ensures.rest.count, c.opened-edit.ensures.edits.trades.total)

pub remove-requires-clause-contents : goal.remove-requires-clause-contents
remove-requires-clause-contents g c =
    let is = c.requires.map.1 in
    (is.bindings, c.opened-edit.ensures.map is.bindings ((containers-extended c.args.heap.now c.reserve.new.self c.reserve.ensures.extends (by_root c.args.root)).map _ _ is.bindings (as-order g.K.Ord.cmp g.V.Ord.cmp g.met.K.Ord.total g.met.V.Ord.total g.K.Element.code_of is.stands (record { keys = λ a b. refl; before = λ a w. refl; after = λ v b. refl; values = λ v w. refl }))))

pub release-requires : goal.release-requires
release-requires g c =
    let es = c.requires.map.0 in
    let is = c.requires.map.1 in
    let opened = c.opened-edit.ensures.map is.bindings ((containers-extended c.args.heap.now c.reserve.new.self c.reserve.ensures.extends (by_root c.args.root)).map _ _ is.bindings (as-order g.K.Ord.cmp g.V.Ord.cmp g.met.K.Ord.total g.met.V.Ord.total g.K.Element.code_of is.stands (record { keys = λ a b. refl; before = λ a w. refl; after = λ v b. refl; values = λ v w. refl }))) in
    let made = of-order g.K.Ord.cmp g.V.Ord.cmp g.met.K.Ord.total g.met.V.Ord.total g.K.Element.code_of (λ _. is.bindings) opened (record { keys = λ a b. refl; before = λ a w. refl; after = λ v b. refl; values = λ v w. refl }) in
    let cuts = subst (λ q. CutsKey q (piece_code g.K.Element.code_of) (by_hold c.opened-edit.result.root) c.opened-edit.result.bits c.opened-edit.new.heap c.remove.new.heap c.remove.new.self.root is.bindings (Key (g.P.Probe.stands_for c.args.key.now)) c.in-Ok-Some.given)
    (order-same g.K.Ord.cmp g.V.Ord.cmp g.met.K.Ord.total g.met.V.Ord.total _ (record { keys = λ a b. refl; before = λ a w. refl; after = λ v b. refl; values = λ v w. refl })) (rw c.in-Ok-Some.field-0-is at (c.in-Ok-Some.ensures.cuts is.bindings opened)) in
    cut-given g.K.Ord.cmp g.V.Ord.cmp g.met.K.Ord.total g.met.V.Ord.total g.K.Element.code_of c.args.heap.now c.reserve.new.self c.args.root c.requires.held c.reserve.ensures.rest c.reserve.ensures.extends c.opened-edit.new.heap c.opened-edit.result c.opened-edit.ensures.extends c.opened-edit.ensures.edits c.opened-edit.ensures.bits es is (g.P.Probe.stands_for c.args.key.now) made c.remove.new.heap c.remove.new.self.root c.in-Ok-Some.given cuts

pub returns-in-Ok-Some-clause-edits : goal.returns-in-Ok-Some-clause-edits
returns-in-Ok-Some-clause-edits g c = λ es is.
    let opened = c.opened-edit.ensures.map is.bindings ((containers-extended c.args.heap.now c.reserve.new.self c.reserve.ensures.extends (by_root c.args.root)).map _ _ is.bindings (as-order g.K.Ord.cmp g.V.Ord.cmp g.met.K.Ord.total g.met.V.Ord.total g.K.Element.code_of is.stands (record { keys = λ a b. refl; before = λ a w. refl; after = λ v b. refl; values = λ v w. refl }))) in
    let made = of-order g.K.Ord.cmp g.V.Ord.cmp g.met.K.Ord.total g.met.V.Ord.total g.K.Element.code_of (λ _. is.bindings) opened (record { keys = λ a b. refl; before = λ a w. refl; after = λ v b. refl; values = λ v w. refl }) in
    let cuts = subst (λ q. CutsKey q (piece_code g.K.Element.code_of) (by_hold c.opened-edit.result.root) c.opened-edit.result.bits c.opened-edit.new.heap c.remove.new.heap c.remove.new.self.root is.bindings (Key (g.P.Probe.stands_for c.args.key.now)) c.in-Ok-Some.given)
    (order-same g.K.Ord.cmp g.V.Ord.cmp g.met.K.Ord.total g.met.V.Ord.total _ (record { keys = λ a b. refl; before = λ a w. refl; after = λ v b. refl; values = λ v w. refl })) (rw c.in-Ok-Some.field-0-is at (c.in-Ok-Some.ensures.cuts is.bindings opened)) in
    rw c.into_root.ensures (rw c.freeze.ensures
    (cut-over g.K.Ord.cmp g.V.Ord.cmp g.met.K.Ord.total g.met.V.Ord.total g.K.Element.code_of c.args.heap.now c.reserve.new.self c.args.root c.requires.held c.reserve.ensures.rest c.reserve.ensures.extends c.opened-edit.new.heap c.opened-edit.result c.opened-edit.ensures.extends c.opened-edit.ensures.edits c.opened-edit.ensures.bits es is (g.P.Probe.stands_for c.args.key.now) made c.remove.new.heap c.remove.new.self.root c.in-Ok-Some.given cuts c.release.new.self c.release.ensures.releases c.release.ensures.keeps))

pub returns-in-Ok-None-clause-edits : goal.returns-in-Ok-None-clause-edits
returns-in-Ok-None-clause-edits g c = λ es is.
    let opened = c.opened-edit.ensures.map is.bindings ((containers-extended c.args.heap.now c.reserve.new.self c.reserve.ensures.extends (by_root c.args.root)).map _ _ is.bindings (as-order g.K.Ord.cmp g.V.Ord.cmp g.met.K.Ord.total g.met.V.Ord.total g.K.Element.code_of is.stands (record { keys = λ a b. refl; before = λ a w. refl; after = λ v b. refl; values = λ v w. refl }))) in
    let made = of-order g.K.Ord.cmp g.V.Ord.cmp g.met.K.Ord.total g.met.V.Ord.total g.K.Element.code_of (λ _. is.bindings) opened (record { keys = λ a b. refl; before = λ a w. refl; after = λ v b. refl; values = λ v w. refl }) in
    let yes = c.in-Ok-None.is ∙ ap Ok c.in-Ok-None.field-0-is in
    let same = c.remove.ensures.nothing yes in
    let none = none-order g.K.Ord.cmp g.V.Ord.cmp g.met.K.Ord.total g.met.V.Ord.total g.K.Element.code_of (g.P.Probe.stands_for c.args.key.now) c.remove.ensures.none (record { keys = λ a b. refl; before = λ a w. refl; after = λ v b. refl; values = λ v w. refl }) is.bindings made yes in
    let IsHere = IsKeyMap g.K.Ord.cmp g.V.Ord.cmp g.K.Element.code_of in
    let left = remove_entry g.K.Ord.cmp es (g.P.Probe.stands_for c.args.key.now) in
    rw c.into_root-in-Ok-None.ensures (rw c.freeze-in-Ok-None.ensures
    (subst (λ h. Edits IsHere c.args.heap.now h c.args.root c.remove.new.self.root left) (sym same.0)
    (subst (λ (q : Root). Edits IsHere c.args.heap.now c.opened-edit.new.heap c.args.root q.root left) (sym same.1)
    (cut-none g.K.Ord.cmp g.V.Ord.cmp g.met.K.Ord.total g.met.V.Ord.total g.K.Element.code_of c.args.heap.now c.reserve.new.self c.args.root c.requires.held c.reserve.ensures.rest c.reserve.ensures.extends c.opened-edit.new.heap c.opened-edit.result c.opened-edit.ensures.extends c.opened-edit.ensures.edits c.opened-edit.ensures.bits es is (g.P.Probe.stands_for c.args.key.now) made none))))

pub returns-in-Ok-Some-clause-made : goal.returns-in-Ok-Some-clause-made
returns-in-Ok-Some-clause-made g c = λ es is.
    let opened = c.opened-edit.ensures.map is.bindings ((containers-extended c.args.heap.now c.reserve.new.self c.reserve.ensures.extends (by_root c.args.root)).map _ _ is.bindings (as-order g.K.Ord.cmp g.V.Ord.cmp g.met.K.Ord.total g.met.V.Ord.total g.K.Element.code_of is.stands (record { keys = λ a b. refl; before = λ a w. refl; after = λ v b. refl; values = λ v w. refl }))) in
    let cuts = if-some _ c.in-Ok-Some.field-0-is (c.in-Ok-Some.ensures.cuts is.bindings opened) in
    cut-few g.K.Ord.cmp g.V.Ord.cmp g.met.K.Ord.total g.met.V.Ord.total g.K.Element.code_of c.args.heap.now c.args.root (g.P.Probe.stands_for c.args.key.now) es is c.reserve.ensures.rest.made c.opened-edit.ensures.edits.trades.made c.opened-edit.ensures.bits cuts.edits.trades.made c.release.ensures.releases.made

pub returns-in-Ok-None-clause-made : goal.returns-in-Ok-None-clause-made
returns-in-Ok-None-clause-made g c = λ es is.
    let same = c.remove.ensures.nothing (c.in-Ok-None.is ∙ ap Ok c.in-Ok-None.field-0-is) in
    none-few _ _ _ c.reserve.ensures.rest.made c.opened-edit.ensures.edits.trades.made same.0

pub unreachable-requires : goal.unreachable-requires
unreachable-requires g c =
    let old = c.args.heap.now in
    let code = piece_code g.K.Element.code_of in
    let is = c.requires.map.1 in
    let alike = alike-pairs (form_at old) code CODE_BITS (Key (g.P.Probe.stands_for c.args.key.now)) is.stands.entries is.bindings is.stands.pairs in
    let counted = trie-order g.K.Ord.cmp g.V.Ord.cmp g.met.K.Ord.total g.met.V.Ord.total g.K.Element.code_of CODE_BITS c.args.root old c.look_up-found.ensures.alike (record { keys = λ a b. refl; before = λ a w. refl; after = λ v b. refl; values = λ v w. refl }) is.stands.entries is.stands.rooted.trie in
    let bits = ap (λ b. alike_keys code b (Key (g.P.Probe.stands_for c.args.key.now)) is.bindings) c.opened-edit.ensures.bits in
    let trades = c.opened-edit.ensures.edits.trades in
    let bad = subst IsOk c.in-Err.is (c.remove.ensures.ample is.bindings (c.opened-edit.ensures.map is.bindings ((containers-extended c.args.heap.now c.reserve.new.self c.reserve.ensures.extends (by_root c.args.root)).map _ _ is.bindings (as-order g.K.Ord.cmp g.V.Ord.cmp g.met.K.Ord.total g.met.V.Ord.total g.K.Element.code_of is.stands (record { keys = λ a b. refl; before = λ a w. refl; after = λ v b. refl; values = λ v w. refl }))))
    (omega arith, omega (arith, c.in_ok-reserve.ensures.spares.1, trades.balance.spare_nodes, trades.nodes, counted, alike, bits))) in
    cc
