use Rattle.std.proofs.Common.{arith, length, refl, sym, ap, ◌∙◌, Some}
use Rattle.std.proofs.lemmas.Option.{slice_get-get_or, slice_get_past}
use Rattle.node_heap.specs.Heap.{links_at}
use Rattle.node_heap.proofs.CallerLemmas.{owned-live}
use Rattle.edit_trie.proofs.ChainEdits.{remove-past}
use Rattle.edit_trie.proofs.chain.take_next.Goals as goal

pub links-requires : goal.links-requires
links-requires g c = owned-live c.args.heap.now c.requires.graph c.args.row (omega (arith, c.requires.sole))

pub returns-then-index-links-clause-link : goal.returns-then-index-links-clause-link
returns-then-index-links-clause-link g c = sym (slice_get_past (links_at c.args.heap.now c.args.row) c.args.index (omega (arith, c.if-index-links.true, ap length c.links.ensures.links)))

pub returns-then-index-links-clause-writes : goal.returns-then-index-links-clause-writes
returns-then-index-links-clause-writes g c =
    record { new_head = refl; new_links = sym (remove-past (links_at c.args.heap.now c.args.row) c.args.index (omega (arith, c.if-index-links.true, ap length c.links.ensures.links))); others = λ k other. refl }

pub returns-clause-link : goal.returns-clause-link
returns-clause-link g c =
    ap Some c.remove_link-next.ensures.old ∙ sym (slice_get-get_or (links_at c.args.heap.now c.args.row) c.args.index 0 (omega (arith, c.if-index-links.false, ap length c.links.ensures.links)))
