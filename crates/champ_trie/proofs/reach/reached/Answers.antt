use Rattle.std.proofs.Common.{◌≡◌, ◌+◌, ◌-◌, ◌∙◌, sym, subst, arith}
use Rattle.elem_core.specs.declared.codes.TheConstants.{LEVELS}
use Rattle.node_heap.specs.Heap.{form_at}
use Rattle.champ_trie.specs.Trie.{IsTrie, code_by}
use Rattle.champ_trie.specs.Reach.{agreeing}
use Rattle.champ_trie.specs.declared.place.Place.TheVariants.{Entry as At, Node, Empty}
use Rattle.champ_trie.proofs.HoldLemmas.{read-sets, read-place}
use Rattle.champ_trie.proofs.ReachLemmas.{row-there, next-place, trie-chain, agreeing-none}
use Rattle.champ_trie.proofs.reach.reached.Goals as goal

pub trie-row-requires : goal.trie-row-requires
trie-row-requires g c =
    let row = row-there g.T.Ord.cmp (code_by g.T.Element.code_of c.args.bits) (form_at c.args.heap.now) c.loop-depth.depth c.loop-depth.link c.args.code c.requires.trie.0 (c.loop-depth.invariant c.requires.trie.0 c.requires.trie.1) (omega (arith, c.loop-depth-test.true)) in
    (row.1, row.2, row.3, (row.0, row.4.row))

pub place_among-requires-clause-sets : goal.place_among-requires-clause-sets
place_among-requires-clause-sets g c =
    let row = row-there g.T.Ord.cmp (code_by g.T.Element.code_of c.args.bits) (form_at c.args.heap.now) c.loop-depth.depth c.loop-depth.link c.args.code c.requires.trie.0 (c.loop-depth.invariant c.requires.trie.0 c.requires.trie.1) (omega (arith, c.loop-depth-test.true)) in
    read-sets (form_at c.args.heap.now) c.loop-depth.link row.0 row.1 row.2 c.trie-row.ensures.0 _ _ row.3 _ row.4 c.trie-row.ensures.1

pub loop-depth-init : goal.loop-depth-init
loop-depth-init g c =
    λ E canon. subst (IsTrie g.T.Ord.cmp (code_by g.T.Element.code_of c.args.bits) (form_at c.args.heap.now) LEVELS 0 c.args.root) (sym (agreeing-none g.T.Ord.cmp (code_by g.T.Element.code_of c.args.bits) c.args.code E)) canon.trie

pub loop-depth-preserved : goal.loop-depth-preserved
loop-depth-preserved g c = λ E canon.
    (next-place g.T.Ord.cmp (code_by g.T.Element.code_of c.args.bits) (form_at c.args.heap.now) c.loop-depth.depth c.loop-depth.link c.args.code E (c.loop-depth.invariant E canon) (omega (arith, c.loop-depth-test.true))
    c.digit.result (Node c.in-Node.child) c.digit.ensures.read (λ d e n ls row. c.in-Node.ensures ∙ read-place (form_at c.args.heap.now) c.loop-depth.link d e n c.trie-row.ensures.0 _ _ ls _ c.digit.result row c.trie-row.ensures.1)).1

pub returns-in-Empty-clause-place : goal.returns-in-Empty-clause-place
returns-in-Empty-clause-place g c = λ E canon. record {
  depth = c.loop-depth.depth + 1;
  deep = λ l e. cc;
  stands = next-place g.T.Ord.cmp (code_by g.T.Element.code_of c.args.bits) (form_at c.args.heap.now) c.loop-depth.depth c.loop-depth.link c.args.code E (c.loop-depth.invariant E canon) (omega (arith, c.loop-depth-test.true))
      c.digit.result Empty c.digit.ensures.read (λ d e n ls row. c.in-Empty.ensures ∙ read-place (form_at c.args.heap.now) c.loop-depth.link d e n c.trie-row.ensures.0 _ _ ls _ c.digit.result row c.trie-row.ensures.1);
}

pub returns-in-Entry-clause-place : goal.returns-in-Entry-clause-place
returns-in-Entry-clause-place g c = λ E canon. record {
  depth = c.loop-depth.depth + 1;
  deep = λ l e. cc;
  stands = next-place g.T.Ord.cmp (code_by g.T.Element.code_of c.args.bits) (form_at c.args.heap.now) c.loop-depth.depth c.loop-depth.link c.args.code E (c.loop-depth.invariant E canon) (omega (arith, c.loop-depth-test.true))
      c.digit.result (At c.in-Entry.entry) c.digit.ensures.read (λ d e n ls row. c.in-Entry.ensures ∙ read-place (form_at c.args.heap.now) c.loop-depth.link d e n c.trie-row.ensures.0 _ _ ls _ c.digit.result row c.trie-row.ensures.1);
}

pub returns-clause-place : goal.returns-clause-place
returns-clause-place g c = λ E canon.
    let E' = agreeing (code_by g.T.Element.code_of c.args.bits) c.loop-depth.depth c.args.code E in
    let none : LEVELS - c.loop-depth.depth ≡ 0 = omega (arith, c.loop-depth-test.false) in
    let chain = trie-chain g.T.Ord.cmp (code_by g.T.Element.code_of c.args.bits) (form_at c.args.heap.now) c.loop-depth.depth c.loop-depth.link E'
    (subst (λ n. IsTrie g.T.Ord.cmp (code_by g.T.Element.code_of c.args.bits) (form_at c.args.heap.now) n c.loop-depth.depth c.loop-depth.link E') none (c.loop-depth.invariant E canon)) in
    record { depth = c.loop-depth.depth; deep = λ l e. omega (arith, c.loop-depth-test.false); stands = (chain.two, chain) }
