use Rattle.std.proofs.Common.{◌≡◌, ℕ, length, get_or, ap, sym, subst, ◌∙◌, arith, true}
use Rattle.std.specs.List.{remove}
use Rattle.node_heap.specs.Forms.{trie, links_of}
use Rattle.node_heap.specs.Heap.{row_at}
use Rattle.node_heap.proofs.CallerLemmas.{Changes-beside, Gains-Changes, Gains-trans}
use Rattle.champ_trie.specs.Bits.{has, rank, GainsPosition}
use Rattle.champ_trie.proofs.CallerLemmas.{clear-entry, entry-in}
use Rattle.edit_trie.proofs.RowLemmas.{node-form, row-links, node-head, puts-row}
use Rattle.edit_trie.proofs.row.take_entry.Goals as goal

pub remove_link-entry-requires-clause-index : goal.remove_link-entry-requires-clause-index
remove_link-entry-requires-clause-index g c =
    let is = c.requires.row.3 in
    let read = c.sets_of-entries.ensures c.args.depth c.requires.row.0 c.requires.row.1 c.requires.row.2 is.row in
    let at : c.rank_of.result ≡ rank c.requires.row.0 c.args.position = c.rank_of.ensures ∙ ap (λ s. rank s c.args.position) read.0 in
    omega (arith, at, entry-in c.requires.row.0 c.requires.row.1 c.requires.row.2 c.args.position c.requires.position is.sets c.requires.row.4, ap length (row-links c.args.heap.now c.args.row c.args.depth c.requires.row.0 c.requires.row.1 c.requires.row.2 is))

pub cleared-entries-requires-clause-there : goal.cleared-entries-requires-clause-there
cleared-entries-requires-clause-there g c =
    let read = c.sets_of-entries.ensures c.args.depth c.requires.row.0 c.requires.row.1 c.requires.row.2 c.requires.row.3.row in
    ap (λ s. has s c.args.position) read.0 ∙ c.requires.row.4

pub set_head-requires-clause-sole : goal.set_head-requires-clause-sole
set_head-requires-clause-sole g c = c.remove_link-entry.ensures.owners c.args.row ∙ c.requires.sole

pub set_head-requires-clause-node : goal.set_head-requires-clause-node
set_head-requires-clause-node g c =
    node-head (row_at c.remove_link-entry.new.self c.args.row) (row_at c.args.heap.now c.args.row) c.remove_link-entry.ensures.writes.new_head (node-form (row_at c.args.heap.now c.args.row) _ c.requires.row.2 c.requires.row.3.row)

pub returns-clause-taken : goal.returns-clause-taken
returns-clause-taken g c = λ e n ls is.
    let read = c.sets_of-entries.ensures c.args.depth e n ls is.row in
    let at : c.rank_of.result ≡ rank e c.args.position = c.rank_of.ensures ∙ ap (λ s. rank s c.args.position) read.0 in
    c.remove_link-entry.ensures.old ∙ ap (λ ks. get_or ks c.rank_of.result 0) (row-links c.args.heap.now c.args.row c.args.depth e n ls is) ∙ ap (λ i. get_or ls i 0) at

pub returns-clause-puts : goal.returns-clause-puts
returns-clause-puts g c = λ e n ls is.
    let read = c.sets_of-entries.ensures c.args.depth e n ls is.row in
    let same : e ≡ c.requires.row.0 = sym read.0 ∙ (c.sets_of-entries.ensures c.args.depth c.requires.row.0 c.requires.row.1 c.requires.row.2 c.requires.row.3.row).0 in
    let had : has e c.args.position ≡ true = ap (λ s. has s c.args.position) same ∙ c.requires.row.4 in
    let e' : ℕ = c.cleared-entries.result in
    let lost = subst (λ s. GainsPosition e' s c.args.position) read.0 c.cleared-entries.ensures in
    let changed = clear-entry e n ls c.args.position c.requires.position is.sets e' (omega (arith, c.cleared-entries.type_inv)) had lost in
    let at : c.rank_of.result ≡ rank e c.args.position = c.rank_of.ensures ∙ ap (λ s. rank s c.args.position) read.0 in
    let links : links_of (row_at c.set_head.new.self c.args.row) ≡ remove ls (rank e c.args.position) =
    c.set_head.ensures.writes.new_links ∙ c.remove_link-entry.ensures.writes.new_links
    ∙ ap (λ ks. remove ks c.rank_of.result) (row-links c.args.heap.now c.args.row c.args.depth e n ls is) ∙ ap (λ i. remove ls i) at in
    puts-row c.set_head.new.self c.args.row c.args.depth e n c.args.position ls changed c.set_head.ensures.writes.new_head (ap (λ m. trie c.args.depth e' m) read.1) links

pub returns-clause-others : goal.returns-clause-others
returns-clause-others g c = λ k other. c.set_head.ensures.writes.others k other ∙ c.remove_link-entry.ensures.writes.others k other

pub returns-clause-owners : goal.returns-clause-owners
returns-clause-owners g c = λ k. c.set_head.ensures.owners k ∙ c.remove_link-entry.ensures.owners k

pub returns-clause-changes : goal.returns-clause-changes
returns-clause-changes g c = Changes-beside c.remove_link-entry.ensures.changes c.set_head.ensures.changes

pub returns-clause-gains : goal.returns-clause-gains
returns-clause-gains g c =
    let one = Gains-Changes c.remove_link-entry.ensures.changes (λ k other live. c.remove_link-entry.ensures.writes.others k other) c.remove_link-entry.ensures.makes in
    Gains-trans one (Gains-Changes c.set_head.ensures.changes (λ k other live. c.set_head.ensures.writes.others k other) c.set_head.ensures.makes)
