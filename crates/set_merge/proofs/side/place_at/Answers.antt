use Rattle.std.proofs.Common.{◌≡◌, ℕ, List, sym, ap, subst, ◌∙◌}
use Rattle.node_heap.specs.Forms.{links_of}
use Rattle.node_heap.specs.Heap.{Heap, form_at, links_at}
use Rattle.champ_chain.proofs.FrameLemmas.{links-form}
use Rattle.champ_trie.specs.Trie.{AreSets, IsRow, place_of}
use Rattle.set_merge.proofs.side.place_at.Goals as goal

-- the links that the heap has for a row are the row's
own-links : {T : Type 0} (h : Heap T) (l d e n : ℕ) (ls : List ℕ) → IsRow (form_at h) l d e n ls → links_at h l ≡ ls
own-links h l d e n ls is = sym (links-form h l) ∙ ap links_of is.row

pub place_among-requires-clause-sets : goal.place_among-requires-clause-sets
place_among-requires-clause-sets g c =
    let row = c.requires.row in
    let own = c.links.ensures.links ∙ own-links c.args.heap.now c.args.row row.0 c.args.entries c.args.nodes row.1 row.2 in
    subst (AreSets c.args.entries c.args.nodes) (sym own) row.2.sets

pub returns : goal.returns
returns g c = λ d ls is.
    let own = c.links.ensures.links ∙ own-links c.args.heap.now c.args.row d c.args.entries c.args.nodes ls is in
    c.place_among.ensures ∙ ap (λ xs. place_of c.args.entries c.args.nodes xs c.args.position) own
