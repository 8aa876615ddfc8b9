use Rattle.std.proofs.Common.{◌≡◌, [], ap, ◌∙◌, arith, length, Some}
use Rattle.node_heap.specs.Links.{count}
use Rattle.node_heap.specs.Heap.{row_at, links_at}
use Rattle.node_heap.specs.Forms.{node}
use Rattle.node_heap.proofs.CallerLemmas.{Builds-made, Builds-then, Builds-node}
use Rattle.champ_trie.proofs.TurnLemmas.{node-live}
use Rattle.champ_trie.proofs.turn.like.Given.{Over}
use Rattle.champ_trie.proofs.turn.like.Goals as goal
use Rattle.champ_trie.proofs.turn.like.Goals.{After-as_slice-kept}

pub links-requires : goal.links-requires
links-requires g c = node-live (row_at c.args.heap.now c.args.link) c.requires.node

-- all links of the row
kept : (g : Over) (c : After-as_slice-kept g) → c.as_slice-kept.result.now ≡ links_at c.args.heap.now c.args.link
kept g c = c.as_slice-kept.ensures.value ∙ c.rewrite.ensures ∙ c.links.ensures.links

pub hold_all-requires-clause-live : goal.hold_all-requires-clause-live
hold_all-requires-clause-live g c = λ k some.
    let at = (goal.at.hold_all-requires-clause-live g c).After-as_slice-kept in
    c.requires.graph.closed c.args.link k (omega (arith, some, ap (count k) (kept g at)))

pub hold_all-requires-clause-few : goal.hold_all-requires-clause-few
hold_all-requires-clause-few g c =
    let at = (goal.at.hold_all-requires-clause-few g c).After-as_slice-kept in
    omega (arith, c.requires.few, c.requires.graph.short c.args.link, ap length (kept g at))

pub node-requires-clause-short : goal.node-requires-clause-short
node-requires-clause-short g c =
    let at = (goal.at.node-requires-clause-short g c).After-as_slice-kept in
    omega (arith, c.requires.graph.short c.args.link, ap length (kept g at))

pub node-requires-clause-held : goal.node-requires-clause-held
node-requires-clause-held g c = λ k. omega (arith, c.hold_all.ensures.holds k)

pub node-requires-clause-few : goal.node-requires-clause-few
node-requires-clause-few g c =
    let at = (goal.at.node-requires-clause-few g c).After-as_slice-kept in
    omega (arith, c.requires.few, c.hold_all.ensures.count, c.requires.graph.short c.args.link, ap length (kept g at))

pub returns-clause-row : goal.returns-clause-row
returns-clause-row g c = c.node.ensures.adds.here ∙ ap (λ xs. Some (node c.args.head xs)) (kept g (goal.at.returns-clause-row g c).After-as_slice-kept)

pub returns-clause-builds : goal.returns-clause-builds
returns-clause-builds g c =
    let hold = c.hold_all.ensures in
    Builds-then (Builds-made {spent = []} {gained = c.as_slice-kept.result.now} hold.extends hold.graph (λ k. omega (arith, hold.holds k)) (omega (arith, hold.count)) hold.makes)
    (Builds-node c.node.ensures.adds c.node.ensures.makes c.node.ensures.count c.node.ensures.graph c.node.ensures.extends)
