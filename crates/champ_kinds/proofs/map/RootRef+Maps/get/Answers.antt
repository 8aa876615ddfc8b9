use Rattle.std.proofs.Common.{◌≡◌, ℕ, List, ◌<◌, ◌∙◌, ap, sym, subst, arith, length, get_or, Some}
use Rattle.node_heap.specs.Links.{count}
use Rattle.node_heap.specs.Heap.{form_at}
use Rattle.champ_trie.proofs.HoldLemmas.{count-at}
use Rattle.champ_kinds.proofs.PairLemmas.{found-pairs, absent-map}
use Rattle.champ_kinds.proofs.PairRows.{links-read, pair-live}
use Rattle.champ_kinds.proofs.StayLemmas.{map-seen}
use Rattle.champ_kinds.proofs.map.RootRef+Maps.get.Goals as goal

pub links-requires : goal.links-requires
links-requires g c =
    let is = map-seen c.self.view_is c.requires.1 in
    let f = found-pairs (form_at c.args.heap.now) g.T.Ord.cmp (g.P.Probe.stands_for c.args.key.now) is.entries c.requires.0 c.in_ok-entry.entry is.pairs (sym (c.in_ok-entry.ensures.entry is.entries is.rooted.trie)) in
    pair-live c.args.heap.now f.pair

pub bounds-links-1 : goal.bounds-links-1
bounds-links-1 g c =
    let is = map-seen c.self.view_is c.requires.1 in
    let f = found-pairs (form_at c.args.heap.now) g.T.Ord.cmp (g.P.Probe.stands_for c.args.key.now) is.entries c.requires.0 c.in_ok-entry.entry is.pairs (sym (c.in_ok-entry.ensures.entry is.entries is.rooted.trie)) in
    subst (λ xs. 1 < length xs) (sym (links-read c.args.heap.now f.pair c.links.result.now c.links.ensures.links)) (omega arith)

pub returns-in_err-entry-clause-value : goal.returns-in_err-entry-clause-value
returns-in_err-entry-clause-value g c = λ M here.
    let is = map-seen c.self.view_is here in
    c.from_residual.ensures ∙ sym (absent-map (form_at c.args.heap.now) g.T.Ord.cmp (g.P.Probe.stands_for c.args.key.now) is.entries M is.pairs (sym (c.in_err-entry.ensures.entry is.entries is.rooted.trie)))

pub returns-clause-value : goal.returns-clause-value
returns-clause-value g c = λ M here.
    let is = map-seen c.self.view_is here in
    let f = found-pairs (form_at c.args.heap.now) g.T.Ord.cmp (g.P.Probe.stands_for c.args.key.now) is.entries M c.in_ok-entry.entry is.pairs (sym (c.in_ok-entry.ensures.entry is.entries is.rooted.trie)) in
    let read : c.index-links-1.result ≡ f.value = c.index-links-1.is ∙ ap (λ (xs : List ℕ). get_or xs 1 c.index-links-1.result) (links-read c.args.heap.now f.pair c.links.result.now c.links.ensures.links) in
    ap Some read ∙ sym f.here

pub returns-clause-live : goal.returns-clause-live
returns-clause-live g c =
    let is = map-seen c.self.view_is c.requires.1 in
    let f = found-pairs (form_at c.args.heap.now) g.T.Ord.cmp (g.P.Probe.stands_for c.args.key.now) is.entries c.requires.0 c.in_ok-entry.entry is.pairs (sym (c.in_ok-entry.ensures.entry is.entries is.rooted.trie)) in
    let long = subst (λ xs. 1 < length xs) (sym (links-read c.args.heap.now f.pair c.links.result.now c.links.ensures.links)) (omega arith) in
    c.links.ensures.graph.closed c.in_ok-entry.entry c.index-links-1.result
    (subst (λ (ls : List ℕ). 0 < count c.index-links-1.result ls) c.links.ensures.links (count-at c.links.result.now 1 c.index-links-1.result long c.index-links-1.is))
