use Rattle.std.proofs.Common.{◌+◌, length, sym, ap, ◌∙◌, arith}
use Rattle.champ_trie.specs.declared.TheConstants.{ADD_NODES}
use Rattle.elem_core.specs.Codes.{text_code}
use Rattle.elem_core.specs.Shown.{name_bytes}
use Rattle.node_heap.specs.Forms.{links_of}
use Rattle.node_heap.proofs.OwnerLemmas.{held-root}
use Rattle.std.specs.Cmp.Lexicographic.{nat_list_cmp_total}
use Rattle.edit_trie.proofs.CallerLemmas.{edits-keep-values, pair-changes-bind, pair-changes-keep-values}
use Rattle.plain_space.specs.Workspace.{State}
use Rattle.rrb_core.proofs.Stays.{links-form}
use Rattle.state_rows.specs.InHeap.{IsStateIn}
use Rattle.state_rows.proofs.Keys.{by_bytes}
use Rattle.state_rows.proofs.LinesPlaced.{state-owned, state-node, owns-way}
use Rattle.state_rows.proofs.OwnedLines.{owns-lines, pair-row, state-map, state-alike, state-value}
use Rattle.state_rows.proofs.edited_states.own_lines.Goals as goal
use Rattle.state_rows.proofs.edited_states.own_lines.Goals.{After-own-row}

pub own-row-requires-clause-node : goal.own-row-requires-clause-node
own-row-requires-clause-node c = state-node _ c.requires.state.2.row

-- the row that is one's own is a row of the state
owned : (c : After-own-row) {s : State} → IsStateIn c.args.heap.now c.args.bits c.args.state s → IsStateIn c.own-row.new.self c.args.bits c.own-row.result s
owned c is = state-owned c.own-row.ensures.builds.extends c.own-row.ensures.row is

pub own_value_there-pair-requires-clause-sole : goal.own_value_there-pair-requires-clause-sole
own_value_there-pair-requires-clause-sole c = c.own-row.ensures.sole

pub own_value_there-pair-requires-clause-child : goal.own_value_there-pair-requires-clause-child
own_value_there-pair-requires-clause-child c =
    let is = owned (goal.at.own_value_there-pair-requires-clause-child c).After-own-row c.requires.state.2 in
    omega (arith, ap length (sym (links-form c.own-row.new.self c.own-row.result) ∙ ap links_of is.row))

pub own_value_there-pair-requires-clause-graph : goal.own_value_there-pair-requires-clause-graph
own_value_there-pair-requires-clause-graph c = c.own-row.ensures.builds.graph

pub own_value_there-pair-requires-clause-there : goal.own_value_there-pair-requires-clause-there
own_value_there-pair-requires-clause-there c =
    let r = c.requires.state in
    let name = name_bytes c.args.name in
    let is = owned (goal.at.own_value_there-pair-requires-clause-there c).After-own-row r.2 in
    let own = c.own-row.ensures.builds in
    (is.buffers_are.bindings, state-map c.requires.bits is, state-value name is r.3, omega (arith, r.4.1, own.makes.spare_nodes, own.few_nodes, state-alike is name))

pub returns : goal.returns
returns c = λ s xs was found.
    let is = owned (goal.at.returns c).After-own-row was in
    let map = state-map c.requires.bits is in
    let name = name_bytes c.args.name in
    let there = state-value name is found in
    let row = c.own-row.ensures in
    let own = c.own_value_there-pair.ensures.owns is.buffers_are.bindings map there in
    let pair = pair-row own.0.map own.0.pair own.0.value in
    owns-way c.rows_form_a_graph.ensures c.requires.held row.same row.sole row.builds row.makes row.owners
    (owns-lines (edits-keep-values by_bytes text_code) row.builds.graph (held-root c.rows_form_a_graph.ensures c.requires.held row.sole row.builds) is c.requires.bits found own.0
    (pair-changes-bind by_bytes text_code nat_list_cmp_total) (pair-changes-keep-values by_bytes text_code nat_list_cmp_total) c.args.name.named own.1 (c.own_value_there-pair.ensures.changes is.buffers_are.bindings map there) pair.0 pair.1 own.0.sole own.0.makes
    c.own_value_there-pair.ensures.spares (ap (λ k. ADD_NODES + k) (state-alike is name)))
