use Rattle.std.proofs.Common.{◌≡◌, ◌≤◌, ◌<◌, ◌∷◌, [], length, get_or, ap, subst, sym, ◌∙◌, arith}
use Rattle.std.proofs.lemmas.List.{get_or_default}
use Rattle.node_heap.specs.Links.{count, without, with_link, changed_links}
use Rattle.node_heap.specs.Heap.{row_at, links_at}
use Rattle.node_heap.proofs.CallerLemmas.{Builds-refl, Builds-hold}
use Rattle.champ_trie.proofs.HoldLemmas.{count-at}
use Rattle.champ_trie.proofs.TurnLemmas.{if-known, node-live, lone-came}
use Rattle.champ_trie.proofs.turn.Turn.last.Given.{Over}
use Rattle.champ_trie.proofs.turn.Turn.last.Goals as goal
use Rattle.champ_trie.proofs.turn.Turn.last.Goals.{After-left_index}

pub returns-in-Some-clause-same : goal.returns-in-Some-clause-same
returns-in-Some-clause-same g c =
    let ls = links_at c.args.heap.now c.args.link in
    let ks = without c.args.self.out ls in
    let is = c.in-Some.is in
    let fits = if-known (λ i. (i.0 ≤ length ks) × (length ks < 32)) is c.requires.fits in
    subst (λ o. c.in-Some.new ≡ get_or (with_link o ks) 0 0) (sym is) (lone-came ks c.in-Some.field-0-0 c.in-Some.new fits.0 (subst (λ o. length (with_link o ks) ≡ 1) is c.requires.one))

pub returns-in-Some-clause-builds : goal.returns-in-Some-clause-builds
returns-in-Some-clause-builds g c = rw c.in-Some.is (Builds-refl c.args.heap.now (c.in-Some.new ∷ []) 0 0 c.requires.graph)

pub links-requires : goal.links-requires
links-requires g c = node-live (row_at c.args.heap.now c.args.link) c.requires.node

-- where the link stands that is left
left : (g : Over) (c : After-left_index g) → (c.left_index.result < length c.links.result.now) × (get_or c.links.result.now c.left_index.result 0 ≡ get_or (without c.args.self.out c.links.result.now) 0 0)
left g c =
    let same = c.links.ensures.links in
    c.left_index.ensures c.links.result.now (rw same c.requires.out) (rw same (subst (λ o. length (changed_links c.args.self.out o (links_at c.args.heap.now c.args.link)) ≡ 1) c.in-None.is c.requires.one))

pub bounds-links-left_index : goal.bounds-links-left_index
bounds-links-left_index g c = (left g (goal.at.bounds-links-left_index g c).After-left_index).0

pub hold-requires-clause-live : goal.hold-requires-clause-live
hold-requires-clause-live g c =
    let x = c.index-links-left_index.result in
    let at = left g (goal.at.hold-requires-clause-live g c).After-left_index in
    c.requires.graph.closed c.args.link x (omega (arith, count-at c.links.result.now c.left_index.result x at.0 c.index-links-left_index.is, ap (count x) c.links.ensures.links))

pub returns-in-None-clause-same : goal.returns-in-None-clause-same
returns-in-None-clause-same g c =
    let x = c.index-links-left_index.result in
    let at = left g (goal.at.returns-in-None-clause-same g c).After-left_index in
    let read = c.index-links-left_index.is ∙ get_or_default c.links.result.now c.left_index.result x 0 at.0 ∙ at.1 in
    rw (c.in-None.is, ← c.links.ensures.links) read

pub returns-in-None-clause-builds : goal.returns-in-None-clause-builds
returns-in-None-clause-builds g c = rw c.in-None.is (Builds-hold c.hold.ensures.holds c.hold.ensures.makes c.hold.ensures.count c.hold.ensures.graph c.hold.ensures.extends)
