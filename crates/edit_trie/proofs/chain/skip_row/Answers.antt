use Rattle.std.proofs.Common.{ap, ◌∙◌, get_or, set}
use Rattle.node_heap.specs.Forms.{head_of, links_of}
use Rattle.node_heap.specs.Calls.{Gains}
use Rattle.node_heap.proofs.CallerLemmas.{Changes-then, Gains-trans, Gains-Changes}
use Rattle.edit_trie.proofs.ChainEdits.{hold-change, sole-held, apart-held}
use Rattle.edit_trie.proofs.chain.skip_row.Goals as goal

pub replace-requires-clause-sole : goal.replace-requires-clause-sole
replace-requires-clause-sole g c = sole-held c.args.heap.now c.hold.new.self c.args.row c.args.next c.hold.ensures.owners c.requires.apart c.requires.sole

pub replace-requires-clause-apart : goal.replace-requires-clause-apart
replace-requires-clause-apart g c = apart-held c.args.heap.now c.hold.new.self c.args.row c.args.next c.hold.ensures.rows c.requires.apart

pub returns-clause-old : goal.returns-clause-old
returns-clause-old g c = c.replace.ensures.old ∙ ap (λ q. get_or (links_of q) c.args.index 0) (c.hold.ensures.rows c.args.row)

pub returns-clause-writes : goal.returns-clause-writes
returns-clause-writes g c = record {
  new_head = c.replace.ensures.writes.new_head ∙ ap head_of (c.hold.ensures.rows c.args.row);
  new_links = c.replace.ensures.writes.new_links ∙ ap (λ q. set (links_of q) c.args.index c.args.next) (c.hold.ensures.rows c.args.row);
  others = λ k other. c.replace.ensures.writes.others k other ∙ c.hold.ensures.rows k;
}

pub returns-clause-changes : goal.returns-clause-changes
returns-clause-changes g c =
    Changes-then (hold-change c.args.row c.args.next c.requires.graph c.hold.ensures.graph c.hold.ensures.rows c.hold.ensures.holds c.hold.ensures.owners c.hold.ensures.makes c.hold.ensures.count c.hold.ensures.extends c.requires.apart) c.replace.ensures.changes

pub returns-clause-gains : goal.returns-clause-gains
returns-clause-gains g c =
    let one : Gains c.args.heap.now c.hold.new.self = record { stays = c.hold.ensures.extends.live; cells = 0; nodes = 0; makes = c.hold.ensures.makes } in
    Gains-trans one (Gains-Changes c.replace.ensures.changes (λ k other live. c.replace.ensures.writes.others k other) c.replace.ensures.makes)
