use Rattle.std.proofs.Common.{◌∙◌, ap}
use Rattle.elem_core.specs.Codes.{masked_code}
use Rattle.champ_chain.proofs.WithLemmas.{key-some}
use Rattle.champ_trie.specs.Trie.{code_by}
use Rattle.champ_trie.specs.Reach.{agreeing}
use Rattle.champ_trie.proofs.ReachLemmas.{link-there, link-empty, link-one}
use Rattle.champ_trie.proofs.find.Goals as goal

pub same_key-requires : goal.same_key-requires
same_key-requires g c =
    let r = c.in-Entry.ensures.place c.requires.trie.0 c.requires.trie.1 in
    key-some c.args.heap.now c.in-Entry.entry r.stands.0 r.stands.2

pub find-requires : goal.find-requires
find-requires g c =
    let r = c.in-Node.ensures.place c.requires.trie.0 c.requires.trie.1 in
    (agreeing (code_by g.T.Element.code_of c.args.bits) r.depth c.masked.result c.requires.trie.0, r.stands.1)

pub returns-in-Empty-clause-entry : goal.returns-in-Empty-clause-entry
returns-in-Empty-clause-entry g c = λ E canon.
    let r = c.in-Empty.ensures.place E canon in
    link-empty g.T.Ord.cmp (code_by g.T.Element.code_of c.args.bits) (λ j k e. ap (λ n. masked_code n c.args.bits) (g.met.T.Element.equal_codes j k e)) (g.P.Probe.stands_for c.args.key.now) c.masked.result r.depth E (c.masked.ensures.kept ∙ ap (λ n. masked_code n c.args.bits) c.code.ensures) r.stands

pub returns-in-Entry-clause-entry : goal.returns-in-Entry-clause-entry
returns-in-Entry-clause-entry g c = λ E canon.
    let r = c.in-Entry.ensures.place E canon in
    c.same_key.ensures r.stands.0 r.stands.2
    ∙ link-one g.T.Ord.cmp (code_by g.T.Element.code_of c.args.bits) (λ j k e. ap (λ n. masked_code n c.args.bits) (g.met.T.Element.equal_codes j k e)) (g.P.Probe.stands_for c.args.key.now) c.masked.result r.depth E (c.masked.ensures.kept ∙ ap (λ n. masked_code n c.args.bits) c.code.ensures) r.stands.0 c.in-Entry.entry r.stands.1

pub returns-in-Node-clause-entry : goal.returns-in-Node-clause-entry
returns-in-Node-clause-entry g c = λ E canon.
    let r = c.in-Node.ensures.place E canon in
    c.find.ensures.entry (agreeing (code_by g.T.Element.code_of c.args.bits) r.depth c.masked.result E) r.stands.1
    ∙ link-there g.T.Ord.cmp (code_by g.T.Element.code_of c.args.bits) (λ j k e. ap (λ n. masked_code n c.args.bits) (g.met.T.Element.equal_codes j k e)) (g.P.Probe.stands_for c.args.key.now) c.masked.result r.depth E (c.masked.ensures.kept ∙ ap (λ n. masked_code n c.args.bits) c.code.ensures)
