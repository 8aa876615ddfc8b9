use Rattle.std.proofs.Common.{ℕ, ◌+◌, [], ◌∷◌, subst, ◌∙◌, arith}
use Rattle.champ_kinds.specs.declared.map.TheConstants.{INSERT_NODES}
use Rattle.std.specs.Prelude.{option_to_list}
use Rattle.elem_core.specs.Codes.{text_code}
use Rattle.state_rows.specs.declared.edited_states.TheConstants.{BUFFER_MADE_NODES}
use Rattle.node_heap.specs.InPlace.{child_at, Changes}
use Rattle.node_heap.specs.declared.owner.Owner.TheVariants.{Child as by_place}
use Rattle.edit_trie.specs.Edit.{PutsValue}
use Rattle.edit_trie.proofs.LawLemmas.{edits-keep-values}
use Rattle.state_rows.proofs.Keys.{by_bytes}
use Rattle.champ_kinds.specs.Binding.{alike_keys}
use Rattle.plain_space.specs.Cost.{alike_buffers}
use Rattle.state_rows.proofs.Steps.{map-is}
use Rattle.state_rows.proofs.Buffers.{held-first, apart-row, buffers-mid, keeps-row, trades-row, absent-row, alike-row, never-refused, buffer-is}
use Rattle.state_rows.proofs.Room.{room-spared, room-made, room-then}
use Rattle.state_rows.proofs.edited_states.buffer_made.Goals as goal

pub insert_at-requires-clause-apart : goal.insert_at-requires-clause-apart
insert_at-requires-clause-apart c =
    let is = c.requires.state.1 in
    let did = c.own-state.ensures in
    let held = held-first c.args.heap.now c.args.state c.args.lines c.requires.held in
    let off = apart-row c.rows_form_a_graph.ensures held did.row did.sole did.builds c.into_root.result (rw c.into_root.ensures (c.requires.held c.args.lines)) in
    off

pub insert_at-requires-clause-contents : goal.insert_at-requires-clause-contents
insert_at-requires-clause-contents c =
    let is = c.requires.state.1 in
    let did = c.own-state.ensures in
    let held = held-first c.args.heap.now c.args.state c.args.lines c.requires.held in
    let at = buffers-mid c.rows_form_a_graph.ensures held did.row did.sole did.builds c.requires.bits is in
    (at.named.bindings, map-is at)

pub unreachable-requires : goal.unreachable-requires
unreachable-requires c =
    let did = c.own-state.ensures in
    let held = held-first c.args.heap.now c.args.state c.args.lines c.requires.held in
    let done = never-refused c.rows_form_a_graph.ensures held did.row did.sole did.builds c.requires.bits c.requires.state.1 c.args.key c.in_default.ensures.ample c.requires.state.3 in
    cc

pub returns-clause-keeps : goal.returns-clause-keeps
returns-clause-keeps c =
    let is = c.requires.state.1 in
    let did = c.own-state.ensures in
    let held = held-first c.args.heap.now c.args.state c.args.lines c.requires.held in
    let at = buffers-mid c.rows_form_a_graph.ensures held did.row did.sole did.builds c.requires.bits is in
    let change = subst (λ (v : ℕ). Changes c.own-state.result c.own-state.new.self c.insert_at.new.heap (v ∷ []) (option_to_list c.in-Ok.field-0) 1 (INSERT_NODES + alike_keys text_code c.args.bits c.args.key at.named.bindings)) c.into_root.ensures (c.in-Ok.ensures.changes at.named.bindings (map-is at)) in
    keeps-row c.rows_form_a_graph.ensures held did.row did.sole did.builds c.in-Ok.field-0 change

pub returns-clause-trades : goal.returns-clause-trades
returns-clause-trades c = λ s is.
    let did = c.own-state.ensures in
    let held = held-first c.args.heap.now c.args.state c.args.lines c.requires.held in
    let first = buffers-mid c.rows_form_a_graph.ensures held did.row did.sole did.builds c.requires.bits c.requires.state.1 in
    let none = (c.in-Ok.ensures.puts first.named.bindings (map-is first)).back ∙ absent-row c.requires.state.0 first c.args.key c.requires.state.2 in
    let at = buffers-mid c.rows_form_a_graph.ensures held did.row did.sole did.builds c.requires.bits is in
    let change = subst (λ (v : ℕ). Changes c.own-state.result c.own-state.new.self c.insert_at.new.heap (v ∷ []) (option_to_list c.in-Ok.field-0) 1 (INSERT_NODES + alike_keys text_code c.args.bits c.args.key at.named.bindings)) c.into_root.ensures (c.in-Ok.ensures.changes at.named.bindings (map-is at)) in
    trades-row c.rows_form_a_graph.ensures held did.row did.sole did.builds c.in-Ok.field-0 change (BUFFER_MADE_NODES + alike_buffers c.args.bits s c.args.key) none (omega (arith, alike-row s at c.args.key))

pub returns-clause-made : goal.returns-clause-made
returns-clause-made c =
    let is = c.requires.state.1 in
    let did = c.own-state.ensures in
    let held = held-first c.args.heap.now c.args.state c.args.lines c.requires.held in
    let at = buffers-mid c.rows_form_a_graph.ensures held did.row did.sole did.builds c.requires.bits is in
    let puts = c.in-Ok.ensures.puts at.named.bindings (map-is at) in
    omega (arith, did.builds.makes.made, did.builds.makes.live, puts.makes.made, puts.makes.live)

pub returns-clause-spares : goal.returns-clause-spares
returns-clause-spares c =
    let did = c.own-state.ensures in
    let held = held-first c.args.heap.now c.args.state c.args.lines c.requires.held in
    let at = buffers-mid c.rows_form_a_graph.ensures held did.row did.sole did.builds c.requires.bits c.requires.state.1 in
    let spares = c.requires.state.3 in
    room-then (room-made did.makes)
    (room-spared (omega (arith, spares.0, did.makes.spare_cells), omega (arith, spares.1, did.builds.makes.spare_nodes, did.builds.few_nodes, alike-row c.requires.state.0 at c.args.key)) (c.in-Ok.ensures.spares at.named.bindings (map-is at)))

pub returns-clause-state : goal.returns-clause-state
returns-clause-state c = λ s xs is lines.
    let did = c.own-state.ensures in
    buffer-is (edits-keep-values by_bytes text_code) c.rows_form_a_graph.ensures c.requires.held did.row did.sole did.builds c.requires.bits c.requires.name
    (λ M here. subst (λ (v : ℕ). PutsValue by_bytes text_code (by_place c.own-state.result 0) c.args.bits c.own-state.new.self c.insert_at.new.heap (child_at c.insert_at.new.heap c.own-state.result 0) M c.args.key v c.in-Ok.field-0) c.into_root.ensures (c.in-Ok.ensures.puts M here))
    s xs is lines
