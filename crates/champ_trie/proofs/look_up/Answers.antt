use Rattle.std.proofs.Common.{◌<◌, ◌^◌, ◌∙◌, sym, ap, subst, refl}
use Rattle.elem_core.specs.Codes.{masked_code}
use Rattle.elem_core.specs.declared.codes.TheConstants.{CODE_BITS}
use Rattle.elem_core.proofs.CodeLemmas.{masked-small}
use Rattle.champ_chain.proofs.WithLemmas.{key-some}
use Rattle.champ_trie.specs.Trie.{code_by}
use Rattle.champ_trie.specs.Reach.{agreeing, alike_in}
use Rattle.champ_trie.proofs.ReachLemmas.{link-there, link-empty, link-one, alike-none, alike-one, alike-all}
use Rattle.champ_trie.proofs.look_up.Goals as goal

pub found_alone-requires-clause-keyed : goal.found_alone-requires-clause-keyed
found_alone-requires-clause-keyed g c =
    let r = c.in-Entry.ensures.place c.requires.trie.0 c.requires.trie.1 in
    key-some c.args.heap.now c.in-Entry.entry r.stands.0 r.stands.2

pub found_alone-requires-clause-code : goal.found_alone-requires-clause-code
found_alone-requires-clause-code g c = c.masked-code.ensures.kept ∙ ap (λ n. masked_code n c.args.bits) c.code.ensures

pub look_up-requires : goal.look_up-requires
look_up-requires g c =
    let r = c.in-Node.ensures.place c.requires.trie.0 c.requires.trie.1 in
    (agreeing (code_by g.T.Element.code_of c.args.bits) r.depth c.masked-code.result c.requires.trie.0, r.stands.1)

pub returns-in-Empty-clause-entry : goal.returns-in-Empty-clause-entry
returns-in-Empty-clause-entry g c = λ E canon.
    let r = c.in-Empty.ensures.place E canon in
    link-empty g.T.Ord.cmp (code_by g.T.Element.code_of c.args.bits) (λ j k e. ap (λ n. masked_code n c.args.bits) (g.met.T.Element.equal_codes j k e)) (g.P.Probe.stands_for c.args.key.now) c.masked-code.result r.depth E (c.masked-code.ensures.kept ∙ ap (λ n. masked_code n c.args.bits) c.code.ensures) r.stands

pub returns-in-Empty-clause-alike : goal.returns-in-Empty-clause-alike
returns-in-Empty-clause-alike g c = λ E canon.
    let r = c.in-Empty.ensures.place E canon in
    alike-none g.T.Ord.cmp (code_by g.T.Element.code_of c.args.bits) r.depth c.masked-code.result E r.stands ∙ ap (λ n. alike_in (code_by g.T.Element.code_of c.args.bits) n E) (c.masked-code.ensures.kept ∙ ap (λ n. masked_code n c.args.bits) c.code.ensures)

pub returns-in-Entry-clause-entry : goal.returns-in-Entry-clause-entry
returns-in-Entry-clause-entry g c = λ E canon.
    let r = c.in-Entry.ensures.place E canon in
    c.found_alone.ensures.entry r.stands.0 r.stands.2
    ∙ link-one g.T.Ord.cmp (code_by g.T.Element.code_of c.args.bits) (λ j k e. ap (λ n. masked_code n c.args.bits) (g.met.T.Element.equal_codes j k e)) (g.P.Probe.stands_for c.args.key.now) c.masked-code.result r.depth E (c.masked-code.ensures.kept ∙ ap (λ n. masked_code n c.args.bits) c.code.ensures) r.stands.0 c.in-Entry.entry r.stands.1

pub returns-in-Entry-clause-alike : goal.returns-in-Entry-clause-alike
returns-in-Entry-clause-alike g c = λ E canon.
    let r = c.in-Entry.ensures.place E canon in
    c.found_alone.ensures.alike r.stands.0 r.stands.2
    ∙ alike-one g.T.Ord.cmp (code_by g.T.Element.code_of c.args.bits) r.depth c.masked-code.result E r.stands.0 c.in-Entry.entry r.stands.1 ∙ ap (λ n. alike_in (code_by g.T.Element.code_of c.args.bits) n E) (c.masked-code.ensures.kept ∙ ap (λ n. masked_code n c.args.bits) c.code.ensures)

pub returns-in-Node-clause-entry : goal.returns-in-Node-clause-entry
returns-in-Node-clause-entry g c = λ E canon.
    let r = c.in-Node.ensures.place E canon in
    c.look_up.ensures.entry (agreeing (code_by g.T.Element.code_of c.args.bits) r.depth c.masked-code.result E) r.stands.1
    ∙ link-there g.T.Ord.cmp (code_by g.T.Element.code_of c.args.bits) (λ j k e. ap (λ n. masked_code n c.args.bits) (g.met.T.Element.equal_codes j k e)) (g.P.Probe.stands_for c.args.key.now) c.masked-code.result r.depth E (c.masked-code.ensures.kept ∙ ap (λ n. masked_code n c.args.bits) c.code.ensures)

pub returns-in-Node-clause-alike : goal.returns-in-Node-clause-alike
returns-in-Node-clause-alike g c = λ E canon.
    let r = c.in-Node.ensures.place E canon in
    let is_code = c.masked-code.ensures.kept ∙ ap (λ n. masked_code n c.args.bits) c.code.ensures in
    let low : c.masked-code.result < 2 ^ CODE_BITS = subst (λ n. n < 2 ^ CODE_BITS) (sym is_code) (masked-small (g.T.Element.code_of (g.P.Probe.stands_for c.args.key.now)) c.args.bits c.requires.bits) in
    c.look_up.ensures.alike (agreeing (code_by g.T.Element.code_of c.args.bits) r.depth c.masked-code.result E) r.stands.1
    ∙ alike-all g.T.Ord.cmp (code_by g.T.Element.code_of c.args.bits) r.depth c.masked-code.result E (r.deep c.in-Node.chain refl) low (λ k. masked-small (g.T.Element.code_of k) c.args.bits c.requires.bits) ∙ ap (λ n. alike_in (code_by g.T.Element.code_of c.args.bits) n E) is_code
