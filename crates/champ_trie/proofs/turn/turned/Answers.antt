use Rattle.std.proofs.Common.{◌≡◌, ap, sym, ◌∙◌}
use Rattle.node_heap.specs.Forms.{links_of}
use Rattle.node_heap.specs.Heap.{form_at, links_at}
use Rattle.node_heap.specs.Links.{without}
use Rattle.champ_chain.proofs.FrameLemmas.{links-form}
use Rattle.champ_trie.specs.Trie.{AreSets}
use Rattle.champ_trie.proofs.HoldLemmas.{row-same, read-sets, place-same}
use Rattle.champ_trie.proofs.turn.turned.Given.{Over}
use Rattle.champ_trie.proofs.turn.turned.Goals as goal
use Rattle.champ_trie.proofs.turn.turned.Goals.{After-trie-row}

pub trie-row-requires : goal.trie-row-requires
trie-row-requires g c = let row = c.requires.row in (row.1, row.2, row.3, (row.0, row.4.row))

-- the row as the heap reads it
sets : (g : Over) (c : After-trie-row g) → AreSets c.trie-row.result.entries c.trie-row.result.nodes c.trie-row.result.links.now
sets g c =
    let row = c.requires.row in
    read-sets (form_at c.args.heap.now) c.args.link row.0 row.1 row.2 c.trie-row.ensures.0 _ _ row.3 _ row.4 c.trie-row.ensures.1

links : (g : Over) (c : After-trie-row g) → links_at c.args.heap.now c.args.link ≡ c.trie-row.result.links.now
links g c = sym (links-form c.args.heap.now c.args.link) ∙ ap links_of c.trie-row.ensures.1

pub cleared_at-requires-clause-sets : goal.cleared_at-requires-clause-sets
cleared_at-requires-clause-sets g c = (c.trie-row.result.links.now, sets g (goal.at.cleared_at-requires-clause-sets g c).After-trie-row)

pub returns-clause-out : goal.returns-clause-out
returns-clause-out g c =
    let at = (goal.at.returns-clause-out g c).After-trie-row in
    rw (c.with_place.ensures.out, links g at) (c.cleared_at.ensures.out c.trie-row.result.links.now (sets g at))

pub returns-clause-fits : goal.returns-clause-fits
returns-clause-fits g c =
    let at = (goal.at.returns-clause-fits g c).After-trie-row in
    let ls = c.trie-row.result.links.now in
    rw (c.with_place.ensures.out, links g at) (c.with_place.ensures.fits (without c.cleared_at.result.out ls) (c.cleared_at.ensures.changes ls (sets g at)).sets)

pub returns-clause-changes : goal.returns-clause-changes
returns-clause-changes g c = λ d e n xs row.
    let at = (goal.at.returns-clause-changes g c).After-trie-row in
    let ls = c.trie-row.result.links.now in
    let read = c.trie-row.result in
    let same = row-same (form_at c.args.heap.now c.args.link) d e n c.trie-row.ensures.0 read.entries read.nodes xs ls row.row c.trie-row.ensures.1 in
    let first = c.cleared_at.ensures.changes ls (sets g at) in
    let second = c.with_place.ensures.changes (without c.cleared_at.result.out ls) first.sets in
    rw (c.with_place.ensures.out, links g at)
    (record {
      sets = second.sets;
      here = second.here;
      others = λ q low other. second.others q low other ∙ first.others q low other ∙ place-same e n read.entries read.nodes xs ls q same.0 same.1 same.2;
    })
