use Rattle.std.proofs.Common.{◌≡◌, ◌+◌, Some, None, refl, ap, sym, subst, ◌∙◌, arith}
use Rattle.std.specs.Prelude.{IsOk}
use Rattle.elem_core.specs.declared.codes.TheConstants.{CODE_BITS}
use Rattle.node_heap.specs.Heap.{form_at, holds_at, one_at}
use Rattle.node_heap.specs.declared.owner.Owner.TheVariants.{Hold as by_hold}
use Rattle.node_heap.proofs.CallerLemmas.{Extends-trans}
use Rattle.champ_kinds.specs.Binding.{alike_keys}
use Rattle.champ_kinds.proofs.PairLemmas.{alike-pairs}
use Rattle.champ_kinds.proofs.StayLemmas.{containers-extended}
use Rattle.edit_trie.specs.Edit.{PutsValue}
use Rattle.versions.specs.declared.piece.Piece.TheVariants.{Key}
use Rattle.versions.specs.Keyed.{by_root}
use Rattle.versions.specs.Pieces.{piece_code}
use Rattle.versions.proofs.CallLemmas.{on-ok}
use Rattle.versions.proofs.BoundLemmas.{as-order, of-order, order-same, trie-as, trie-order}
use Rattle.versions.proofs.AlikeLemmas.{put-few}
use Rattle.versions.proofs.HereLemmas.{put-alone, put-both, put-given, put-over}
use Rattle.versions.proofs.bound_here.bound_here.Goals as goal

pub look_up-found-requires-clause-trie : goal.look_up-found-requires-clause-trie
look_up-found-requires-clause-trie g c =
    let is = c.requires.map.1 in
    (is.stands.entries, trie-as g.K.Ord.cmp g.V.Ord.cmp g.met.K.Ord.total g.met.V.Ord.total g.K.Element.code_of CODE_BITS c.args.root c.args.heap.now is.stands.rooted.trie (record { keys = λ a b. refl; before = λ a w. refl; after = λ v b. refl; values = λ v w. refl }))

pub cell-cell-requires-clause-spare : goal.cell-cell-requires-clause-spare
cell-cell-requires-clause-spare g c =
    let spares = on-ok c.reserve.result _ (sym c.is_err.ensures.value ∙ c.if-is_err.false) c.reserve.ensures.spares in
    omega (arith, spares.0)

pub cell-cell-requires-clause-few : goal.cell-cell-requires-clause-few
cell-cell-requires-clause-few g c = omega (arith, c.requires.few, c.reserve.ensures.rest.count)

pub opened-edit-requires-clause-spares : goal.opened-edit-requires-clause-spares
opened-edit-requires-clause-spares g c =
    let spares = on-ok c.reserve.result _ (sym c.is_err.ensures.value ∙ c.if-is_err.false) c.reserve.ensures.spares in
    (omega arith, omega (arith, spares.1, c.cell-cell.ensures.makes.spare_nodes))

pub opened-edit-requires-clause-few : goal.opened-edit-requires-clause-few
opened-edit-requires-clause-few g c = omega (arith, c.requires.few, c.reserve.ensures.rest.count, c.cell-cell.ensures.count)

pub opened-edit-requires-clause-held : goal.opened-edit-requires-clause-held
opened-edit-requires-clause-held g c =
    let put : holds_at c.cell-cell.new.self c.args.root + 0 ≡ holds_at c.reserve.new.self c.args.root + one_at c.cell-cell.result c.args.root = c.cell-cell.ensures.adds.holds c.args.root in
    omega (arith, put, c.reserve.ensures.rest.holds c.args.root, c.requires.held)

pub opened-edit-requires-clause-map : goal.opened-edit-requires-clause-map
opened-edit-requires-clause-map g c =
    let is = c.requires.map.1 in
    (is.bindings, (containers-extended c.args.heap.now c.cell-cell.new.self (Extends-trans c.reserve.ensures.extends c.cell-cell.ensures.extends) (by_root c.args.root)).map _ _ is.bindings (as-order g.K.Ord.cmp g.V.Ord.cmp g.met.K.Ord.total g.met.V.Ord.total g.K.Element.code_of is.stands (record { keys = λ a b. refl; before = λ a w. refl; after = λ v b. refl; values = λ v w. refl })))

pub insert-requires-clause-held : goal.insert-requires-clause-held
insert-requires-clause-held g c = put-both g.K.Ord.cmp g.V.Ord.cmp g.met.K.Ord.total g.met.V.Ord.total g.K.Element.code_of c.args.heap.now c.reserve.new.self c.args.root c.requires.held c.reserve.ensures.rest c.reserve.ensures.extends c.cell-cell.new.self c.opened-edit.new.heap c.cell-cell.result c.args.value c.opened-edit.result c.cell-cell.ensures.adds c.cell-cell.ensures.extends c.cell-cell.ensures.count c.opened-edit.ensures.extends c.opened-edit.ensures.edits c.opened-edit.ensures.bits

pub insert-requires-clause-few : goal.insert-requires-clause-few
insert-requires-clause-few g c = omega (arith, c.requires.few, c.reserve.ensures.rest.count, c.cell-cell.ensures.count, c.opened-edit.ensures.edits.trades.total)

pub insert-requires-clause-contents : goal.insert-requires-clause-contents
insert-requires-clause-contents g c =
    let is = c.requires.map.1 in
    (is.bindings, c.opened-edit.ensures.map is.bindings ((containers-extended c.args.heap.now c.cell-cell.new.self (Extends-trans c.reserve.ensures.extends c.cell-cell.ensures.extends) (by_root c.args.root)).map _ _ is.bindings (as-order g.K.Ord.cmp g.V.Ord.cmp g.met.K.Ord.total g.met.V.Ord.total g.K.Element.code_of is.stands (record { keys = λ a b. refl; before = λ a w. refl; after = λ v b. refl; values = λ v w. refl }))))

pub release-requires : goal.release-requires
release-requires g c =
    let es = c.requires.map.0 in
    let is = c.requires.map.1 in
    let opened = c.opened-edit.ensures.map is.bindings ((containers-extended c.args.heap.now c.cell-cell.new.self (Extends-trans c.reserve.ensures.extends c.cell-cell.ensures.extends) (by_root c.args.root)).map _ _ is.bindings (as-order g.K.Ord.cmp g.V.Ord.cmp g.met.K.Ord.total g.met.V.Ord.total g.K.Element.code_of is.stands (record { keys = λ a b. refl; before = λ a w. refl; after = λ v b. refl; values = λ v w. refl }))) in
    let made = of-order g.K.Ord.cmp g.V.Ord.cmp g.met.K.Ord.total g.met.V.Ord.total g.K.Element.code_of (λ _. is.bindings) opened (record { keys = λ a b. refl; before = λ a w. refl; after = λ v b. refl; values = λ v w. refl }) in
    let puts = subst (λ q. PutsValue q (piece_code g.K.Element.code_of) (by_hold c.opened-edit.result.root) c.opened-edit.result.bits c.opened-edit.new.heap c.insert.new.heap c.insert.new.self.root is.bindings (Key c.args.key) c.cell-cell.result (Some c.in-Ok-Some.given))
    (order-same g.K.Ord.cmp g.V.Ord.cmp g.met.K.Ord.total g.met.V.Ord.total _ (record { keys = λ a b. refl; before = λ a w. refl; after = λ v b. refl; values = λ v w. refl })) (rw c.in-Ok-Some.field-0-is at (c.in-Ok-Some.ensures.puts is.bindings opened)) in
    put-given g.K.Ord.cmp g.V.Ord.cmp g.met.K.Ord.total g.met.V.Ord.total g.K.Element.code_of c.args.heap.now c.reserve.new.self c.args.root c.requires.held c.reserve.ensures.rest c.reserve.ensures.extends c.cell-cell.new.self c.opened-edit.new.heap c.cell-cell.result c.args.value c.opened-edit.result c.cell-cell.ensures.adds c.cell-cell.ensures.extends c.cell-cell.ensures.count c.opened-edit.ensures.extends c.opened-edit.ensures.edits c.opened-edit.ensures.bits es is c.args.key made c.insert.new.heap c.insert.new.self.root c.in-Ok-Some.ensures.value c.in-Ok-Some.given puts

pub returns-in-Ok-Some-clause-edits : goal.returns-in-Ok-Some-clause-edits
returns-in-Ok-Some-clause-edits g c = λ es is.
    let opened = c.opened-edit.ensures.map is.bindings ((containers-extended c.args.heap.now c.cell-cell.new.self (Extends-trans c.reserve.ensures.extends c.cell-cell.ensures.extends) (by_root c.args.root)).map _ _ is.bindings (as-order g.K.Ord.cmp g.V.Ord.cmp g.met.K.Ord.total g.met.V.Ord.total g.K.Element.code_of is.stands (record { keys = λ a b. refl; before = λ a w. refl; after = λ v b. refl; values = λ v w. refl }))) in
    let made = of-order g.K.Ord.cmp g.V.Ord.cmp g.met.K.Ord.total g.met.V.Ord.total g.K.Element.code_of (λ _. is.bindings) opened (record { keys = λ a b. refl; before = λ a w. refl; after = λ v b. refl; values = λ v w. refl }) in
    let puts = subst (λ q. PutsValue q (piece_code g.K.Element.code_of) (by_hold c.opened-edit.result.root) c.opened-edit.result.bits c.opened-edit.new.heap c.insert.new.heap c.insert.new.self.root is.bindings (Key c.args.key) c.cell-cell.result (Some c.in-Ok-Some.given))
    (order-same g.K.Ord.cmp g.V.Ord.cmp g.met.K.Ord.total g.met.V.Ord.total _ (record { keys = λ a b. refl; before = λ a w. refl; after = λ v b. refl; values = λ v w. refl })) (rw c.in-Ok-Some.field-0-is at (c.in-Ok-Some.ensures.puts is.bindings opened)) in
    rw c.into_root.ensures (rw c.freeze.ensures
    (put-over g.K.Ord.cmp g.V.Ord.cmp g.met.K.Ord.total g.met.V.Ord.total g.K.Element.code_of c.args.heap.now c.reserve.new.self c.args.root c.requires.held c.reserve.ensures.rest c.reserve.ensures.extends c.cell-cell.new.self c.opened-edit.new.heap c.cell-cell.result c.args.value c.opened-edit.result c.cell-cell.ensures.adds c.cell-cell.ensures.extends c.cell-cell.ensures.count c.opened-edit.ensures.extends c.opened-edit.ensures.edits c.opened-edit.ensures.bits es is c.args.key made c.insert.new.heap c.insert.new.self.root c.in-Ok-Some.ensures.value c.release.new.self c.in-Ok-Some.given puts c.release.ensures.releases c.release.ensures.keeps))

pub returns-in-Ok-None-clause-edits : goal.returns-in-Ok-None-clause-edits
returns-in-Ok-None-clause-edits g c = λ es is.
    let opened = c.opened-edit.ensures.map is.bindings ((containers-extended c.args.heap.now c.cell-cell.new.self (Extends-trans c.reserve.ensures.extends c.cell-cell.ensures.extends) (by_root c.args.root)).map _ _ is.bindings (as-order g.K.Ord.cmp g.V.Ord.cmp g.met.K.Ord.total g.met.V.Ord.total g.K.Element.code_of is.stands (record { keys = λ a b. refl; before = λ a w. refl; after = λ v b. refl; values = λ v w. refl }))) in
    let made = of-order g.K.Ord.cmp g.V.Ord.cmp g.met.K.Ord.total g.met.V.Ord.total g.K.Element.code_of (λ _. is.bindings) opened (record { keys = λ a b. refl; before = λ a w. refl; after = λ v b. refl; values = λ v w. refl }) in
    let puts = subst (λ q. PutsValue q (piece_code g.K.Element.code_of) (by_hold c.opened-edit.result.root) c.opened-edit.result.bits c.opened-edit.new.heap c.insert.new.heap c.insert.new.self.root is.bindings (Key c.args.key) c.cell-cell.result None)
    (order-same g.K.Ord.cmp g.V.Ord.cmp g.met.K.Ord.total g.met.V.Ord.total _ (record { keys = λ a b. refl; before = λ a w. refl; after = λ v b. refl; values = λ v w. refl })) (rw c.in-Ok-None.field-0-is at (c.in-Ok-None.ensures.puts is.bindings opened)) in
    rw c.into_root-in-Ok-None.ensures (rw c.freeze-in-Ok-None.ensures
    (put-alone g.K.Ord.cmp g.V.Ord.cmp g.met.K.Ord.total g.met.V.Ord.total g.K.Element.code_of c.args.heap.now c.reserve.new.self c.args.root c.requires.held c.reserve.ensures.rest c.reserve.ensures.extends c.cell-cell.new.self c.opened-edit.new.heap c.cell-cell.result c.args.value c.opened-edit.result c.cell-cell.ensures.adds c.cell-cell.ensures.extends c.cell-cell.ensures.count c.opened-edit.ensures.extends c.opened-edit.ensures.edits c.opened-edit.ensures.bits es is c.args.key made c.insert.new.heap c.insert.new.self.root c.in-Ok-None.ensures.value puts))

pub returns-in-Ok-Some-clause-made : goal.returns-in-Ok-Some-clause-made
returns-in-Ok-Some-clause-made g c = λ es is.
    let opened = c.opened-edit.ensures.map is.bindings ((containers-extended c.args.heap.now c.cell-cell.new.self (Extends-trans c.reserve.ensures.extends c.cell-cell.ensures.extends) (by_root c.args.root)).map _ _ is.bindings (as-order g.K.Ord.cmp g.V.Ord.cmp g.met.K.Ord.total g.met.V.Ord.total g.K.Element.code_of is.stands (record { keys = λ a b. refl; before = λ a w. refl; after = λ v b. refl; values = λ v w. refl }))) in
    let puts = c.in-Ok-Some.ensures.puts is.bindings opened in
    put-few g.K.Ord.cmp g.V.Ord.cmp g.met.K.Ord.total g.met.V.Ord.total g.K.Element.code_of c.args.heap.now c.args.root c.args.key es is c.reserve.ensures.rest.made c.cell-cell.ensures.makes.made c.opened-edit.ensures.edits.trades.made c.opened-edit.ensures.bits puts.edits.trades.made c.release.ensures.releases.made

pub returns-in-Ok-None-clause-made : goal.returns-in-Ok-None-clause-made
returns-in-Ok-None-clause-made g c = λ es is.
    let opened = c.opened-edit.ensures.map is.bindings ((containers-extended c.args.heap.now c.cell-cell.new.self (Extends-trans c.reserve.ensures.extends c.cell-cell.ensures.extends) (by_root c.args.root)).map _ _ is.bindings (as-order g.K.Ord.cmp g.V.Ord.cmp g.met.K.Ord.total g.met.V.Ord.total g.K.Element.code_of is.stands (record { keys = λ a b. refl; before = λ a w. refl; after = λ v b. refl; values = λ v w. refl }))) in
    let puts = c.in-Ok-None.ensures.puts is.bindings opened in
    put-few g.K.Ord.cmp g.V.Ord.cmp g.met.K.Ord.total g.met.V.Ord.total g.K.Element.code_of c.args.heap.now c.args.root c.args.key es is c.reserve.ensures.rest.made c.cell-cell.ensures.makes.made c.opened-edit.ensures.edits.trades.made c.opened-edit.ensures.bits puts.edits.trades.made refl

pub unreachable-requires : goal.unreachable-requires
unreachable-requires g c =
    let old = c.args.heap.now in
    let code = piece_code g.K.Element.code_of in
    let is = c.requires.map.1 in
    let alike = alike-pairs (form_at old) code CODE_BITS (Key c.args.key) is.stands.entries is.bindings is.stands.pairs in
    let counted = trie-order g.K.Ord.cmp g.V.Ord.cmp g.met.K.Ord.total g.met.V.Ord.total g.K.Element.code_of CODE_BITS c.args.root old c.look_up-found.ensures.alike (record { keys = λ a b. refl; before = λ a w. refl; after = λ v b. refl; values = λ v w. refl }) is.stands.entries is.stands.rooted.trie in
    let bits = ap (λ b. alike_keys code b (Key c.args.key) is.bindings) c.opened-edit.ensures.bits in
    let spares = on-ok c.reserve.result _ (sym c.is_err.ensures.value ∙ c.if-is_err.false) c.reserve.ensures.spares in
    let made = c.cell-cell.ensures.makes in
    let trades = c.opened-edit.ensures.edits.trades in
    let bad = subst IsOk c.in-Err.is (c.insert.ensures.ample is.bindings (c.opened-edit.ensures.map is.bindings ((containers-extended c.args.heap.now c.cell-cell.new.self (Extends-trans c.reserve.ensures.extends c.cell-cell.ensures.extends) (by_root c.args.root)).map _ _ is.bindings (as-order g.K.Ord.cmp g.V.Ord.cmp g.met.K.Ord.total g.met.V.Ord.total g.K.Element.code_of is.stands (record { keys = λ a b. refl; before = λ a w. refl; after = λ v b. refl; values = λ v w. refl }))))
    (omega (arith, spares.0, made.spare_cells, trades.balance.spare_cells, trades.cells), omega (arith, spares.1, made.spare_nodes, trades.balance.spare_nodes, trades.nodes, counted, alike, bits))) in
    cc
