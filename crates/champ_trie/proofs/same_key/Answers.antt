use Rattle.std.proofs.Common.{◌∙◌, sym, ap, refl}
use Rattle.node_heap.specs.Heap.{form_at}
use Rattle.champ_chain.proofs.SpotLemmas.{same-key}
use Rattle.champ_trie.proofs.ReachLemmas.{link-alone}
use Rattle.champ_trie.proofs.same_key.Goals as goal

pub returns-in-Less : goal.returns-in-Less
returns-in-Less g c = λ k keyed.
    let key = same-key (form_at c.args.heap.now) c.args.entry c.args.entry k c.key_of.result.now refl keyed c.key_of.ensures in
    link-alone g.T.Ord.cmp (g.P.Probe.stands_for c.args.key.now) k c.args.entry _ (ap (g.T.Ord.cmp (g.P.Probe.stands_for c.args.key.now)) key ∙ sym c.in-Less.ensures)

pub returns-in-Equal : goal.returns-in-Equal
returns-in-Equal g c = λ k keyed.
    let key = same-key (form_at c.args.heap.now) c.args.entry c.args.entry k c.key_of.result.now refl keyed c.key_of.ensures in
    link-alone g.T.Ord.cmp (g.P.Probe.stands_for c.args.key.now) k c.args.entry _ (ap (g.T.Ord.cmp (g.P.Probe.stands_for c.args.key.now)) key ∙ sym c.in-Equal.ensures)

pub returns-in-Greater : goal.returns-in-Greater
returns-in-Greater g c = λ k keyed.
    let key = same-key (form_at c.args.heap.now) c.args.entry c.args.entry k c.key_of.result.now refl keyed c.key_of.ensures in
    link-alone g.T.Ord.cmp (g.P.Probe.stands_for c.args.key.now) k c.args.entry _ (ap (g.T.Ord.cmp (g.P.Probe.stands_for c.args.key.now)) key ∙ sym c.in-Greater.ensures)
