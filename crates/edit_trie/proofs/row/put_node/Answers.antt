use Rattle.std.proofs.Common.{◌≡◌, ℕ, ◌+◌, length, ap, subst, ◌∙◌, arith}
use Rattle.std.specs.List.{insert}
use Rattle.node_heap.specs.Forms.{trie, links_of}
use Rattle.node_heap.specs.Heap.{row_at, form_at}
use Rattle.node_heap.proofs.CallerLemmas.{Changes-beside, Gains-Changes, Gains-trans}
use Rattle.champ_trie.specs.Bits.{has, rank, GainsPosition}
use Rattle.champ_trie.specs.Trie.{place_of}
use Rattle.champ_trie.specs.declared.place.Place.TheVariants.{Empty}
use Rattle.champ_trie.proofs.CallerLemmas.{rank-mono, place-free, put-node, room, same-place-of}
use Rattle.edit_trie.proofs.RowLemmas.{node-form, row-links, node-head, puts-row}
use Rattle.edit_trie.proofs.row.put_node.Goals as goal

pub insert_link-requires-clause-node : goal.insert_link-requires-clause-node
insert_link-requires-clause-node g c = node-form (row_at c.args.heap.now c.args.row) _ c.requires.row.2 c.requires.row.3.row

pub insert_link-requires-clause-index : goal.insert_link-requires-clause-index
insert_link-requires-clause-index g c =
    let is = c.requires.row.3 in
    let read = c.sets_of-entries.ensures c.args.depth c.requires.row.0 c.requires.row.1 c.requires.row.2 is.row in
    let at : c.node_index.result ≡ rank c.requires.row.0 32 + rank c.requires.row.1 c.args.position = omega (arith, c.node_index.ensures, ap (λ s. rank s 32) read.0, ap (λ s. rank s c.args.position) read.1) in
    omega (arith, at, rank-mono c.requires.row.1 c.args.position 32 (omega (arith, c.requires.position)), is.sets.count, ap length (row-links c.args.heap.now c.args.row c.args.depth c.requires.row.0 c.requires.row.1 c.requires.row.2 is))

pub insert_link-requires-clause-room : goal.insert_link-requires-clause-room
insert_link-requires-clause-room g c =
    let is = c.requires.row.3 in
    let free = place-free c.requires.row.0 c.requires.row.1 c.requires.row.2 c.args.position c.requires.row.4 in
    omega (arith, room c.requires.row.0 c.requires.row.1 c.requires.row.2 c.args.position c.requires.position is.sets free.0 free.1, ap length (row-links c.args.heap.now c.args.row c.args.depth c.requires.row.0 c.requires.row.1 c.requires.row.2 is))

pub with_position-nodes-requires-clause-free : goal.with_position-nodes-requires-clause-free
with_position-nodes-requires-clause-free g c =
    let read = c.sets_of-entries.ensures c.args.depth c.requires.row.0 c.requires.row.1 c.requires.row.2 c.requires.row.3.row in
    ap (λ s. has s c.args.position) read.1 ∙ (place-free c.requires.row.0 c.requires.row.1 c.requires.row.2 c.args.position c.requires.row.4).1

pub set_head-requires-clause-sole : goal.set_head-requires-clause-sole
set_head-requires-clause-sole g c = c.insert_link.ensures.owners c.args.row ∙ c.requires.sole

pub set_head-requires-clause-node : goal.set_head-requires-clause-node
set_head-requires-clause-node g c =
    node-head (row_at c.insert_link.new.self c.args.row) (row_at c.args.heap.now c.args.row) c.insert_link.ensures.writes.new_head (node-form (row_at c.args.heap.now c.args.row) _ c.requires.row.2 c.requires.row.3.row)

pub returns-clause-puts : goal.returns-clause-puts
returns-clause-puts g c = λ e n ls is.
    let read = c.sets_of-entries.ensures c.args.depth e n ls is.row in
    let none : place_of e n ls c.args.position ≡ Empty = same-place-of (form_at c.args.heap.now) c.args.row c.args.depth e n ls c.args.depth c.requires.row.0 c.requires.row.1 c.requires.row.2 c.args.position is c.requires.row.3 ∙ c.requires.row.4 in
    let free = place-free e n ls c.args.position none in
    let n' : ℕ = c.with_position-nodes.result in
    let gains = subst (λ s. GainsPosition s n' c.args.position) read.1 c.with_position-nodes.ensures in
    let changed = put-node e n ls c.args.position c.requires.position is.sets n' c.args.node (omega (arith, c.with_position-nodes.type_inv)) free.0 free.1 gains in
    let at : c.node_index.result ≡ rank e 32 + rank n c.args.position = omega (arith, c.node_index.ensures, ap (λ s. rank s 32) read.0, ap (λ s. rank s c.args.position) read.1) in
    let links : links_of (row_at c.set_head.new.self c.args.row) ≡ insert ls (rank e 32 + rank n c.args.position) c.args.node =
    c.set_head.ensures.writes.new_links ∙ c.insert_link.ensures.writes.new_links
    ∙ ap (λ ks. insert ks c.node_index.result c.args.node) (row-links c.args.heap.now c.args.row c.args.depth e n ls is) ∙ ap (λ i. insert ls i c.args.node) at in
    puts-row c.set_head.new.self c.args.row c.args.depth e n c.args.position ls changed c.set_head.ensures.writes.new_head (ap (λ m. trie c.args.depth m n') read.0) links

pub returns-clause-others : goal.returns-clause-others
returns-clause-others g c = λ k other. c.set_head.ensures.writes.others k other ∙ c.insert_link.ensures.writes.others k other

pub returns-clause-owners : goal.returns-clause-owners
returns-clause-owners g c = λ k. c.set_head.ensures.owners k ∙ c.insert_link.ensures.owners k

pub returns-clause-changes : goal.returns-clause-changes
returns-clause-changes g c = Changes-beside c.insert_link.ensures.changes c.set_head.ensures.changes

pub returns-clause-gains : goal.returns-clause-gains
returns-clause-gains g c =
    let one = Gains-Changes c.insert_link.ensures.changes (λ k other live. c.insert_link.ensures.writes.others k other) c.insert_link.ensures.makes in
    Gains-trans one (Gains-Changes c.set_head.ensures.changes (λ k other live. c.set_head.ensures.writes.others k other) c.set_head.ensures.makes)
