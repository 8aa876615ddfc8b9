use Rattle.std.proofs.Common.{rules, arith, ◌≡◌, ℕ, ◌+◌, ◌≤◌, ◌<◌, ◌∙◌, List, ap, subst}
use Rattle.elem_core.specs.Codes.{digit_at}
use Rattle.elem_core.specs.declared.codes.TheConstants.{DEEPEST}
use Rattle.elem_core.proofs.CodeLemmas.{masked-small}
use Rattle.node_heap.specs.Forms.{is_node}
use Rattle.node_heap.specs.Heap.{row_at, form_at}
use Rattle.node_heap.specs.InPlace.{child_at}
use Rattle.champ_chain.specs.Entry.{Entry}
use Rattle.champ_trie.specs.Trie.{part, code_by}
use Rattle.champ_trie.specs.Reach.{alike_in}
use Rattle.champ_trie.proofs.CallerLemmas.{part-alike, row-at}
use Rattle.node_heap.proofs.CallerLemmas.{owns-child}
use Rattle.edit_trie.specs.Spot.{IsSpot}
use Rattle.edit_trie.specs.declared.row.Spot.TheVariants.{Entry as EntryAt, Node as NodeAt, Empty as NoneAt}
use Rattle.edit_trie.proofs.RowLemmas.{row-keyless, node-form, entry-inside, node-inside}
use Rattle.edit_trie.proofs.StepLemmas.{AtRow, at-row, digit-small, MeetsChain, OwnsNext, meets-chain, goes-deeper, owns-next, can-below}
use Rattle.edit_trie.proofs.EditLemmas.{own-never, only-entry, pair-part, pair-below, owns-entry, owns-chain, owns-node}
use Rattle.edit_trie.proofs.own_pair.+own_entry.Given.{Over}
use Rattle.edit_trie.proofs.own_pair.+own_entry.Goals as goal
use Rattle.edit_trie.proofs.own_pair.+own_entry.Goals.{In-Entry, In-Node, After-own_child-child}

-- the code is that of the key
module _ (g : Over) (t : ℕ) {E : List (Entry g.row.T.Denot)} {left : ℕ} where
  -- an entry stands at the digit
  entry-spot : (c : In-Entry g t) (a : AtRow g.T.Ord.cmp (code_by g.T.Element.code_of c.args.bits) c.args.heap.now left c.args.depth c.args.row c.args.code E (g.P.Probe.stands_for c.args.key.now)) → IsSpot a.entries a.nodes (digit_at c.args.code c.args.depth) (EntryAt c.in-Entry.index)
  entry-spot c a = subst (λ p. IsSpot a.entries a.nodes p (EntryAt c.in-Entry.index)) c.digit.ensures.read (c.in-Entry.ensures.spot c.args.depth a.entries a.nodes a.links a.is)

  -- a node does
  module _ (c : In-Node g t) (a : AtRow g.T.Ord.cmp (code_by g.T.Element.code_of c.args.bits) c.args.heap.now left c.args.depth c.args.row c.args.code E (g.P.Probe.stands_for c.args.key.now)) where
    spot : IsSpot a.entries a.nodes (digit_at c.args.code c.args.depth) (NodeAt c.in-Node.index)
    spot = subst (λ p. IsSpot a.entries a.nodes p (NodeAt c.in-Node.index)) c.digit.ensures.read (c.in-Node.ensures.spot c.args.depth a.entries a.nodes a.links a.is)

    chain : c.args.depth ≡ DEEPEST → MeetsChain a c.in-Node.index
    chain deepest = meets-chain a c.in-Node.index spot deepest (λ k. masked-small (g.T.Element.code_of k) c.args.bits c.requires.bits)

  -- it was made the row's own
  down : (c : After-own_child-child g t) (a : AtRow g.T.Ord.cmp (code_by g.T.Element.code_of c.args.bits) c.args.heap.now left c.args.depth c.args.row c.args.code E (g.P.Probe.stands_for c.args.key.now))
      → IsSpot a.entries a.nodes (digit_at c.args.code c.args.depth) (NodeAt c.in-Node.index) → OwnsNext a c.own_child-child.new.self c.in-Node.index c.own_child-child.result
  down c a at =
      let did = c.own_child-child.ensures in
      owns-next a at (omega (arith, c.if-depth-eq-DEEPEST.false, c.requires.depth))
      (owns-child (node-inside c.args.heap.now c.args.row c.args.depth a.entries a.nodes a.links a.is (digit_at c.args.code c.args.depth) c.in-Node.index (digit-small a) at) did.same did.row did.sole did.fresh did.parent_head did.parent_links did.stays did.others did.owners did.changes did.makes)

pub spot_at-requires-clause-row : goal.spot_at-requires-clause-row
spot_at-requires-clause-row g t c =
    let at = row-at g.T.Ord.cmp (code_by g.T.Element.code_of c.args.bits) (form_at c.args.heap.now) c.requires.row.1 c.args.depth c.args.row c.requires.row.0 c.requires.row.3.below.trie in
    (c.args.depth, at.0, at.1, at.2, at.3)

pub unreachable-requires : goal.unreachable-requires
unreachable-requires g t c =
    let a = at-row g.T.Ord.cmp g.T.Element.code_of c.args.bits g.met.T.Element.equal_codes c.requires.code c.requires.row.3 in
    let at = subst (λ p. IsSpot a.entries a.nodes p NoneAt) c.digit.ensures.read (c.in-Empty.ensures.spot c.args.depth a.entries a.nodes a.links a.is) in
    own-never a g.met.T.Ord.total c.requires.row.4 at

pub own_child-requires : goal.own_child-requires
own_child-requires g t c =
    let old = c.args.heap.now in
    let a = at-row g.T.Ord.cmp g.T.Element.code_of c.args.bits g.met.T.Element.equal_codes c.requires.code c.requires.row.3 in
    let pair = c.requires.row.4 in
    let at = entry-spot g t (goal.at.own_child-requires g t c).In-Entry a in record {
      sole = a.can.sole;
      index = entry-inside old c.args.row c.args.depth a.entries a.nodes a.links a.is (digit_at c.args.code c.args.depth) c.in-Entry.index (digit-small a) at;
      node = ap (λ y. is_node (row_at old y)) (only-entry a g.met.T.Ord.total pair c.in-Entry.index at).0 ∙ pair.is_pair;
      spare = omega (arith, c.requires.row.5);
    }

pub own_in_chain-requires : goal.own_in_chain-requires
own_in_chain-requires g t c =
    let r = c.requires.row in
    let a = at-row g.T.Ord.cmp g.T.Element.code_of c.args.bits g.met.T.Element.equal_codes c.requires.code r.3 in
    let s = chain g t (goal.at.own_in_chain-requires g t c).In-Node a c.if-depth-eq-DEEPEST.true in record {
      graph = a.can.graph;
      keyless = row-keyless (form_at c.args.heap.now) c.args.row c.args.depth a.entries a.nodes a.links a.is;
      sole = a.can.sole;
      index = node-inside c.args.heap.now c.args.row c.args.depth a.entries a.nodes a.links a.is (digit_at c.args.code c.args.depth) c.in-Node.index (digit-small a) s.spot;
      chain = (part g.T.Ord.cmp (code_by g.T.Element.code_of c.args.bits) c.args.depth (digit_at c.args.code c.args.depth) r.0, r.2, s.chain, pair-part a g.met.T.Ord.total r.4, omega (arith, s.alike, s.last, r.5));
    }

pub own_child-child-requires : goal.own_child-child-requires
own_child-child-requires g t c =
    let old = c.args.heap.now in
    let a = at-row g.T.Ord.cmp g.T.Element.code_of c.args.bits g.met.T.Element.equal_codes c.requires.code c.requires.row.3 in
    let at = spot g t (goal.at.own_child-child-requires g t c).In-Node a in
    let down = goes-deeper a c.in-Node.index at (omega (arith, c.if-depth-eq-DEEPEST.false, c.requires.depth)) in
    let there = row-at g.T.Ord.cmp (code_by g.T.Element.code_of c.args.bits) (form_at old) down.m (c.args.depth + 1) (child_at old c.args.row c.in-Node.index) _ down.below.trie in record {
      sole = a.can.sole;
      index = node-inside old c.args.row c.args.depth a.entries a.nodes a.links a.is (digit_at c.args.code c.args.depth) c.in-Node.index (digit-small a) at;
      node = node-form (row_at old (child_at old c.args.row c.in-Node.index)) _ there.2 there.3.row;
      spare = omega (arith, c.requires.row.5);
    }

pub own_entry-requires : goal.own_entry-requires
own_entry-requires g t c κs within =
    let code = code_by g.T.Element.code_of c.args.bits in
    let E = c.requires.row.0 in
    let x = c.requires.row.2 in
    let a = at-row g.T.Ord.cmp g.T.Element.code_of c.args.bits g.met.T.Element.equal_codes c.requires.code c.requires.row.3 in
    let at = goal.at.own_entry-requires g t c in
    let s = down g t at.After-own_child-child a (spot g t at.In-Node a) in
    let P = part g.T.Ord.cmp code c.args.depth (digit_at c.args.code c.args.depth) E in
    let less : c.args.depth < DEEPEST = omega (arith, c.if-depth-eq-DEEPEST.false, c.requires.depth) in
    let sub = can-below a s in
    let there = pair-below a g.met.T.Ord.total c.requires.row.4 s in
    let spare : s.deeper.m + 1 + alike_in code c.args.code P ≤ c.own_child-child.new.self.spare_nodes = omega (arith, c.requires.row.5, s.own.changes.trades.balance.spare_nodes, s.own.changes.trades.nodes, s.deeper.is, part-alike g.T.Ord.cmp code c.args.depth c.args.code E) in
    search rules

pub returns-in-Entry : goal.returns-in-Entry
returns-in-Entry g t c = λ E left x can pair.
    let a = at-row g.T.Ord.cmp g.T.Element.code_of c.args.bits g.met.T.Element.equal_codes c.requires.code can in
    let at = entry-spot g t (goal.at.returns-in-Entry g t c).In-Entry a in
    let did = c.own_child.ensures in
    let own = owns-child (entry-inside c.args.heap.now c.args.row c.args.depth a.entries a.nodes a.links a.is (digit_at c.args.code c.args.depth) c.in-Entry.index (digit-small a) at) did.same did.row did.sole did.fresh did.parent_head did.parent_links did.stays did.others did.owners did.changes did.makes in
    owns-entry a g.met.T.Ord.total pair c.in-Entry.index at c.own_child.new.self c.own_child.result own

pub returns-then-depth-eq-DEEPEST : goal.returns-then-depth-eq-DEEPEST
returns-then-depth-eq-DEEPEST g t c = λ E left x can pair.
    let a = at-row g.T.Ord.cmp g.T.Element.code_of c.args.bits g.met.T.Element.equal_codes c.requires.code can in
    let s = chain g t (goal.at.returns-then-depth-eq-DEEPEST g t c).In-Node a c.if-depth-eq-DEEPEST.true in
    owns-chain a g.met.T.Ord.total pair c.own_in_chain.new.heap c.own_in_chain.result s (c.own_in_chain.ensures _ x s.chain (pair-part a g.met.T.Ord.total pair))

pub returns-else-depth-eq-DEEPEST : goal.returns-else-depth-eq-DEEPEST
returns-else-depth-eq-DEEPEST g t c = λ E left x can pair.
    let a = at-row g.T.Ord.cmp g.T.Element.code_of c.args.bits g.met.T.Element.equal_codes c.requires.code can in
    let at = goal.at.returns-else-depth-eq-DEEPEST g t c in
    let s = down g t at.After-own_child-child a (spot g t at.In-Node a) in
    owns-node a g.met.T.Ord.total pair s c.own_entry.new.heap c.own_entry.result (c.own_entry.ensures _ s.deeper.m x (can-below a s) (pair-below a g.met.T.Ord.total pair s))
