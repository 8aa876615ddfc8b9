use Rattle.std.proofs.Common.{◌+◌, ◌<◌, ◌∙◌, sym, ap, subst, length, get_or, arith}
use Rattle.std.proofs.lemmas.List.{get_or_default}
use Rattle.champ_trie.specs.Bits.{rank}
use Rattle.champ_trie.specs.declared.place.Place.TheVariants.{Entry as At, Node}
use Rattle.champ_trie.proofs.BitLemmas.{rank-le}
use Rattle.champ_trie.proofs.PlaceLemmas.{place-entry, place-node, place-empty, entry-in, node-in, node-alone}
use Rattle.champ_trie.proofs.place.place_among.Goals as goal

pub bounds-links-node_index : goal.bounds-links-node_index
bounds-links-node_index c =
    let here = sym c.contains.ensures ∙ c.if-contains.true in
    subst (λ i. i < length c.args.links.now) (sym c.node_index.ensures) (node-in c.args.entries c.args.nodes c.args.links.now c.args.position c.requires.position c.requires.sets here)

pub offset_bounds-links-node_index : goal.offset_bounds-links-node_index
offset_bounds-links-node_index c = omega (arith, c.node_index.ensures, rank-le c.args.entries 32, rank-le c.args.nodes c.args.position, c.requires.position)

pub returns-then-contains : goal.returns-then-contains
returns-then-contains c =
    let here = sym c.contains.ensures ∙ c.if-contains.true in
    let none = node-alone c.args.entries c.args.nodes c.args.links.now c.args.position c.requires.position c.requires.sets here in
    let within = node-in c.args.entries c.args.nodes c.args.links.now c.args.position c.requires.position c.requires.sets here in
    let read = c.index-links-node_index.is ∙ ap (λ i. get_or c.args.links.now i c.index-links-node_index.result) c.node_index.ensures in
    ap Node (read ∙ get_or_default c.args.links.now (rank c.args.entries 32 + rank c.args.nodes c.args.position) c.index-links-node_index.result 0 within)
    ∙ sym (place-node c.args.entries c.args.nodes c.args.links.now c.args.position none here)

pub bounds-links-rank_of : goal.bounds-links-rank_of
bounds-links-rank_of c =
    let here = sym c.contains-2.ensures ∙ c.if-contains-2.true in
    subst (λ i. i < length c.args.links.now) (sym c.rank_of.ensures) (entry-in c.args.entries c.args.nodes c.args.links.now c.args.position c.requires.position c.requires.sets here)

pub returns-then-contains-2 : goal.returns-then-contains-2
returns-then-contains-2 c =
    let here = sym c.contains-2.ensures ∙ c.if-contains-2.true in
    let within = entry-in c.args.entries c.args.nodes c.args.links.now c.args.position c.requires.position c.requires.sets here in
    let read = c.index-links-rank_of.is ∙ ap (λ i. get_or c.args.links.now i c.index-links-rank_of.result) c.rank_of.ensures in
    ap At (read ∙ get_or_default c.args.links.now (rank c.args.entries c.args.position) c.index-links-rank_of.result 0 within)
    ∙ sym (place-entry c.args.entries c.args.nodes c.args.links.now c.args.position here)

pub returns : goal.returns
returns c = sym (place-empty c.args.entries c.args.nodes c.args.links.now c.args.position (sym c.contains-2.ensures ∙ c.if-contains-2.false) (sym c.contains.ensures ∙ c.if-contains.false))
