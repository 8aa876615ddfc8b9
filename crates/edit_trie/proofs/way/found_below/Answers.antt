use Rattle.std.proofs.Common.{rules, arith, ◌≡◌, ℕ, ◌+◌, ◌*◌, ◌<◌, ◌^◌, ◌∙◌, sym, ap, subst}
use Rattle.std.specs.declared.cmp.Ordering.TheVariants.{Equal}
use Rattle.elem_core.specs.Codes.{masked_code}
use Rattle.elem_core.specs.declared.codes.TheConstants.{CODE_BITS}
use Rattle.elem_core.proofs.CodeLemmas.{masked-small}
use Rattle.champ_chain.proofs.CallerLemmas.{key-some}
use Rattle.champ_trie.specs.Trie.{code_by}
use Rattle.champ_trie.specs.Reach.{agreeing}
use Rattle.champ_trie.proofs.CallerLemmas.{link-there, link-empty, link-one, alike-none, alike-one, alike-all}
use Rattle.edit_trie.specs.declared.row.Spot.TheVariants.{Node as NodeAt, Empty as NoneAt}
use Rattle.edit_trie.proofs.LeadLemmas.{row-is, few-links, spot-of, leads-on, entry-in, node-in, entry-on, chain-on}
use Rattle.edit_trie.proofs.way.found_below.Given.{Over}
use Rattle.edit_trie.proofs.way.found_below.Goals as goal

module _ (g : Over) where
  same-codes : (bits : ℕ) (j k : g.row.T.Denot) → g.T.Ord.cmp j k ≡ Equal → code_by g.T.Element.code_of bits j ≡ code_by g.T.Element.code_of bits k
  same-codes bits j k e = ap (λ n. masked_code n bits) (g.met.T.Element.equal_codes j k e)

pub trie-entries-requires : goal.trie-entries-requires
trie-entries-requires g c =
    let E = c.requires.leads.0 in
    let leads = c.requires.leads.1 in
    let row = row-is g.T.Ord.cmp (code_by g.T.Element.code_of c.args.bits) c.args.heap.now E c.args.code c.args.way.now.depth c.args.way.now.row leads.deep leads.trie in
    (row.1, row.2, row.3, (row.0, row.4.row))

pub offset_bounds-links-index : goal.offset_bounds-links-index
offset_bounds-links-index g c =
    let code = code_by g.T.Element.code_of c.args.bits in
    let E = c.requires.leads.0 in
    let leads = c.requires.leads.1 in
    let inside = entry-in g.T.Ord.cmp code c.args.heap.now E c.args.code c.args.way.now.depth c.args.way.now.row leads.deep leads.trie c.trie-entries.ensures c.digit.ensures.read c.in-Entry.index c.in-Entry.ensures in
    let few = few-links g.T.Ord.cmp code c.args.heap.now E c.args.code c.args.way.now.depth c.args.way.now.row leads.deep leads.trie c.trie-entries.ensures c.digit.ensures.read in
    let small : c.in-Entry.index * 8 < 2 ^ 64 = omega (arith, inside, few) in
    search rules

pub bounds-links-index : goal.bounds-links-index
bounds-links-index g c =
    let leads = c.requires.leads.1 in
    entry-in g.T.Ord.cmp (code_by g.T.Element.code_of c.args.bits) c.args.heap.now c.requires.leads.0 c.args.code c.args.way.now.depth c.args.way.now.row leads.deep leads.trie c.trie-entries.ensures c.digit.ensures.read c.in-Entry.index c.in-Entry.ensures

pub offset_bounds-links-index-in-Node : goal.offset_bounds-links-index-in-Node
offset_bounds-links-index-in-Node g c =
    let code = code_by g.T.Element.code_of c.args.bits in
    let E = c.requires.leads.0 in
    let leads = c.requires.leads.1 in
    let inside = node-in g.T.Ord.cmp code c.args.heap.now E c.args.code c.args.way.now.depth c.args.way.now.row leads.deep leads.trie c.trie-entries.ensures c.digit.ensures.read c.in-Node.index c.in-Node.ensures in
    let few = few-links g.T.Ord.cmp code c.args.heap.now E c.args.code c.args.way.now.depth c.args.way.now.row leads.deep leads.trie c.trie-entries.ensures c.digit.ensures.read in
    let small : c.in-Node.index * 8 < 2 ^ 64 = omega (arith, inside, few) in
    search rules

pub bounds-links-index-in-Node : goal.bounds-links-index-in-Node
bounds-links-index-in-Node g c =
    let leads = c.requires.leads.1 in
    node-in g.T.Ord.cmp (code_by g.T.Element.code_of c.args.bits) c.args.heap.now c.requires.leads.0 c.args.code c.args.way.now.depth c.args.way.now.row leads.deep leads.trie c.trie-entries.ensures c.digit.ensures.read c.in-Node.index c.in-Node.ensures

pub found_alone-requires-clause-keyed : goal.found_alone-requires-clause-keyed
found_alone-requires-clause-keyed g c =
    let E = c.requires.leads.0 in
    let leads = c.requires.leads.1 in
    let one = entry-on g.T.Ord.cmp (code_by g.T.Element.code_of c.args.bits) c.args.heap.now E c.args.code c.args.way.now.depth c.args.way.now.row leads.deep leads.trie c.trie-entries.ensures c.digit.ensures.read c.in-Entry.index c.index-links-index.result c.in-Entry.ensures c.index-links-index.is in
    key-some c.args.heap.now c.index-links-index.result one.0 one.2

pub look_up-requires : goal.look_up-requires
look_up-requires g c =
    let code = code_by g.T.Element.code_of c.args.bits in
    let h = c.args.heap.now in
    let E = c.requires.leads.0 in
    let leads = c.requires.leads.1 in
    let row = row-is g.T.Ord.cmp code h E c.args.code c.args.way.now.depth c.args.way.now.row leads.deep leads.trie in
    let deepest = leads.lowest row.0 row.1 row.2 c.in-Node.index row.3 row.4 (spot-of g.T.Ord.cmp code h E c.args.code c.args.way.now.depth c.args.way.now.row leads.deep leads.trie c.trie-entries.ensures c.digit.ensures.read (NodeAt c.in-Node.index) c.in-Node.ensures row.0 row.1 row.2 row.3 row.4) in
    (agreeing code (c.args.way.now.depth + 1) c.args.code E, chain-on g.T.Ord.cmp code h E c.args.code c.args.way.now.depth c.args.way.now.row leads.deep leads.trie c.trie-entries.ensures c.digit.ensures.read c.in-Node.index c.index-links-index-in-Node.result c.in-Node.ensures c.index-links-index-in-Node.is deepest)

pub returns-in-Empty-clause-entry : goal.returns-in-Empty-clause-entry
returns-in-Empty-clause-entry g c = λ E leads.
    let code = code_by g.T.Element.code_of c.args.bits in
    link-empty g.T.Ord.cmp code (same-codes g c.args.bits) (g.P.Probe.stands_for c.args.key.now) c.args.code (c.args.way.now.depth + 1) E c.requires.code
    (leads-on g.T.Ord.cmp code c.args.heap.now E c.args.code c.args.way.now.depth c.args.way.now.row leads.deep leads.trie c.trie-entries.ensures c.digit.ensures.read NoneAt c.in-Empty.ensures)

pub returns-in-Empty-clause-alike : goal.returns-in-Empty-clause-alike
returns-in-Empty-clause-alike g c = λ E leads.
    let code = code_by g.T.Element.code_of c.args.bits in
    alike-none g.T.Ord.cmp code (c.args.way.now.depth + 1) c.args.code E (leads-on g.T.Ord.cmp code c.args.heap.now E c.args.code c.args.way.now.depth c.args.way.now.row leads.deep leads.trie c.trie-entries.ensures c.digit.ensures.read NoneAt c.in-Empty.ensures)

pub returns-in-Entry-clause-entry : goal.returns-in-Entry-clause-entry
returns-in-Entry-clause-entry g c = λ E leads.
    let code = code_by g.T.Element.code_of c.args.bits in
    let one = entry-on g.T.Ord.cmp code c.args.heap.now E c.args.code c.args.way.now.depth c.args.way.now.row leads.deep leads.trie c.trie-entries.ensures c.digit.ensures.read c.in-Entry.index c.index-links-index.result c.in-Entry.ensures c.index-links-index.is in
    c.found_alone.ensures.entry one.0 one.2 ∙ link-one g.T.Ord.cmp code (same-codes g c.args.bits) (g.P.Probe.stands_for c.args.key.now) c.args.code (c.args.way.now.depth + 1) E c.requires.code one.0 c.index-links-index.result one.1

pub returns-in-Entry-clause-alike : goal.returns-in-Entry-clause-alike
returns-in-Entry-clause-alike g c = λ E leads.
    let code = code_by g.T.Element.code_of c.args.bits in
    let one = entry-on g.T.Ord.cmp code c.args.heap.now E c.args.code c.args.way.now.depth c.args.way.now.row leads.deep leads.trie c.trie-entries.ensures c.digit.ensures.read c.in-Entry.index c.index-links-index.result c.in-Entry.ensures c.index-links-index.is in
    c.found_alone.ensures.alike one.0 one.2 ∙ alike-one g.T.Ord.cmp code (c.args.way.now.depth + 1) c.args.code E one.0 c.index-links-index.result one.1

pub returns-in-Node-clause-entry : goal.returns-in-Node-clause-entry
returns-in-Node-clause-entry g c = λ E leads.
    let code = code_by g.T.Element.code_of c.args.bits in
    let h = c.args.heap.now in
    let row = row-is g.T.Ord.cmp code h E c.args.code c.args.way.now.depth c.args.way.now.row leads.deep leads.trie in
    let deepest = leads.lowest row.0 row.1 row.2 c.in-Node.index row.3 row.4 (spot-of g.T.Ord.cmp code h E c.args.code c.args.way.now.depth c.args.way.now.row leads.deep leads.trie c.trie-entries.ensures c.digit.ensures.read (NodeAt c.in-Node.index) c.in-Node.ensures row.0 row.1 row.2 row.3 row.4) in
    let chain = chain-on g.T.Ord.cmp code h E c.args.code c.args.way.now.depth c.args.way.now.row leads.deep leads.trie c.trie-entries.ensures c.digit.ensures.read c.in-Node.index c.index-links-index-in-Node.result c.in-Node.ensures c.index-links-index-in-Node.is deepest in
    c.look_up.ensures.entry (agreeing code (c.args.way.now.depth + 1) c.args.code E) chain
    ∙ link-there g.T.Ord.cmp code (same-codes g c.args.bits) (g.P.Probe.stands_for c.args.key.now) c.args.code (c.args.way.now.depth + 1) E c.requires.code

pub returns-in-Node-clause-alike : goal.returns-in-Node-clause-alike
returns-in-Node-clause-alike g c = λ E leads.
    let code = code_by g.T.Element.code_of c.args.bits in
    let h = c.args.heap.now in
    let row = row-is g.T.Ord.cmp code h E c.args.code c.args.way.now.depth c.args.way.now.row leads.deep leads.trie in
    let deepest = leads.lowest row.0 row.1 row.2 c.in-Node.index row.3 row.4 (spot-of g.T.Ord.cmp code h E c.args.code c.args.way.now.depth c.args.way.now.row leads.deep leads.trie c.trie-entries.ensures c.digit.ensures.read (NodeAt c.in-Node.index) c.in-Node.ensures row.0 row.1 row.2 row.3 row.4) in
    let chain = chain-on g.T.Ord.cmp code h E c.args.code c.args.way.now.depth c.args.way.now.row leads.deep leads.trie c.trie-entries.ensures c.digit.ensures.read c.in-Node.index c.index-links-index-in-Node.result c.in-Node.ensures c.index-links-index-in-Node.is deepest in
    let small = λ (k : g.row.T.Denot). masked-small (g.T.Element.code_of k) c.args.bits c.requires.bits in
    let low : c.args.code < 2 ^ CODE_BITS = subst (λ n. n < 2 ^ CODE_BITS) (sym c.requires.code) (small (g.P.Probe.stands_for c.args.key.now)) in
    c.look_up.ensures.alike (agreeing code (c.args.way.now.depth + 1) c.args.code E) chain
    ∙ alike-all g.T.Ord.cmp code (c.args.way.now.depth + 1) c.args.code E (omega (arith, deepest)) low small
