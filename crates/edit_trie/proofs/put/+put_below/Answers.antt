use Rattle.std.proofs.Common.{rules, arith, ◌≡◌, ℕ, ◌+◌, ◌≤◌, ◌<◌, ◌∙◌, List, ap, subst, true}
use Rattle.elem_core.specs.Codes.{digit_at}
use Rattle.elem_core.specs.declared.codes.TheConstants.{DEEPEST}
use Rattle.elem_core.proofs.CodeLemmas.{masked-small}
use Rattle.node_heap.specs.Heap.{row_at, form_at}
use Rattle.node_heap.specs.InPlace.{child_at}
use Rattle.champ_chain.specs.Entry.{Entry}
use Rattle.champ_trie.specs.Bits.{has}
use Rattle.champ_trie.specs.Trie.{part, code_by, place_of}
use Rattle.champ_trie.specs.Reach.{alike_in}
use Rattle.champ_trie.specs.declared.place.Place.TheVariants.{Entry as At}
use Rattle.champ_trie.proofs.CallerLemmas.{part-alike, row-at}
use Rattle.node_heap.proofs.CallerLemmas.{owns-child}
use Rattle.edit_trie.specs.Spot.{IsSpot, PutsAt}
use Rattle.edit_trie.specs.declared.row.Spot.TheVariants.{Node as NodeAt, Empty as NoneAt}
use Rattle.edit_trie.proofs.RowLemmas.{row-keyless, node-form, node-inside}
use Rattle.edit_trie.proofs.StepLemmas.{AtRow, at-row, at-none, part-link, digit-small, MeetsChain, OwnsNext, meets-chain, goes-deeper, owns-next, can-below}
use Rattle.edit_trie.proofs.EditLemmas.{puts-none, puts-chain, puts-node, keyed-below, held-below, apart-below}
use Rattle.edit_trie.proofs.put.+put_below.Given.{Over}
use Rattle.edit_trie.proofs.put.+put_below.Goals as goal
use Rattle.edit_trie.proofs.put.+put_below.Goals.{In-Node, After-own_child-child}

-- a node stands at the digit
module _ (g : Over) (t : ℕ) (c : In-Node g t) {E : List (Entry g.row.T.Denot)} {left : ℕ} {key : g.row.T.Denot} (a : AtRow g.T.Ord.cmp (code_by g.T.Element.code_of c.args.bits) c.args.heap.now left c.args.depth c.args.row c.args.code E key) where
  spot : IsSpot a.entries a.nodes (digit_at c.args.code c.args.depth) (NodeAt c.in-Node.index)
  spot = subst (λ p. IsSpot a.entries a.nodes p (NodeAt c.in-Node.index)) c.digit.ensures.read (c.in-Node.ensures.spot c.args.depth a.entries a.nodes a.links a.is)

  chain : c.args.depth ≡ DEEPEST → MeetsChain a c.in-Node.index
  chain deepest = meets-chain a c.in-Node.index spot deepest (λ k. masked-small (g.T.Element.code_of k) c.args.bits c.requires.bits)

-- it was made the row's own
module _ (g : Over) (t : ℕ) (c : After-own_child-child g t) {E : List (Entry g.row.T.Denot)} {left : ℕ} {key : g.row.T.Denot} (a : AtRow g.T.Ord.cmp (code_by g.T.Element.code_of c.args.bits) c.args.heap.now left c.args.depth c.args.row c.args.code E key)
    (at : IsSpot a.entries a.nodes (digit_at c.args.code c.args.depth) (NodeAt c.in-Node.index)) where
  down : OwnsNext a c.own_child-child.new.self c.in-Node.index c.own_child-child.result
  down =
      let did = c.own_child-child.ensures in
      owns-next a at (omega (arith, c.if-depth-eq-DEEPEST.false, c.requires.depth))
      (owns-child (node-inside c.args.heap.now c.args.row c.args.depth a.entries a.nodes a.links a.is (digit_at c.args.code c.args.depth) c.in-Node.index (digit-small a) at) did.same did.row did.sole did.fresh did.parent_head did.parent_links did.stays did.others did.owners did.changes did.makes)

pub spot_at-requires-clause-row : goal.spot_at-requires-clause-row
spot_at-requires-clause-row g t c =
    let at = row-at g.T.Ord.cmp (code_by g.T.Element.code_of c.args.bits) (form_at c.args.heap.now) c.requires.row.1 c.args.depth c.args.row c.requires.row.0 c.requires.row.3.below.trie in
    (c.args.depth, at.0, at.1, at.2, at.3)

pub put_entry-requires-clause-row : goal.put_entry-requires-clause-row
put_entry-requires-clause-row g t c =
    let a = at-row g.T.Ord.cmp g.T.Element.code_of c.args.bits g.met.T.Element.equal_codes c.requires.row.5 c.requires.row.3 in
    let at = subst (λ p. IsSpot a.entries a.nodes p NoneAt) c.digit.ensures.read (c.in-Empty.ensures.spot c.args.depth a.entries a.nodes a.links a.is) in
    (a.entries, a.nodes, a.links, a.is, ap (place_of a.entries a.nodes a.links) c.digit-in-Empty.ensures.read ∙ at-none a at)

pub split-requires-clause-spot : goal.split-requires-clause-spot
split-requires-clause-spot g t c = λ d e n ls is. subst (λ p. has e p ≡ true) c.digit.ensures.read (c.in-Entry.ensures.spot d e n ls is).0

pub put_in_chain-requires : goal.put_in_chain-requires
put_in_chain-requires g t c =
    let r = c.requires.row in
    let a = at-row g.T.Ord.cmp g.T.Element.code_of c.args.bits g.met.T.Element.equal_codes r.5 r.3 in
    let node = (goal.at.put_in_chain-requires g t c).In-Node in
    let s = chain g t node a c.if-depth-eq-DEEPEST.true in record {
      graph = a.can.graph;
      keyless = row-keyless (form_at c.args.heap.now) c.args.row c.args.depth a.entries a.nodes a.links a.is;
      sole = a.can.sole;
      index = node-inside c.args.heap.now c.args.row c.args.depth a.entries a.nodes a.links a.is (digit_at c.args.code c.args.depth) c.in-Node.index (digit-small a) s.spot;
      held = c.requires.held;
      apart = c.requires.apart;
      few = c.requires.few;
      chain = (part g.T.Ord.cmp (code_by g.T.Element.code_of c.args.bits) c.args.depth (digit_at c.args.code c.args.depth) r.0, r.2, s.chain, r.4, part-link a ∙ r.6, omega (arith, s.alike, s.last, r.7));
    }

pub own_child-child-requires : goal.own_child-child-requires
own_child-child-requires g t c =
    let old = c.args.heap.now in
    let a = at-row g.T.Ord.cmp g.T.Element.code_of c.args.bits g.met.T.Element.equal_codes c.requires.row.5 c.requires.row.3 in
    let at = spot g t (goal.at.own_child-child-requires g t c).In-Node a in
    let down = goes-deeper a c.in-Node.index at (omega (arith, c.if-depth-eq-DEEPEST.false, c.requires.depth)) in
    let there = row-at g.T.Ord.cmp (code_by g.T.Element.code_of c.args.bits) (form_at old) down.m (c.args.depth + 1) (child_at old c.args.row c.in-Node.index) _ down.below.trie in record {
      sole = a.can.sole;
      index = node-inside old c.args.row c.args.depth a.entries a.nodes a.links a.is (digit_at c.args.code c.args.depth) c.in-Node.index (digit-small a) at;
      node = node-form (row_at old (child_at old c.args.row c.in-Node.index)) _ there.2 there.3.row;
      spare = omega (arith, c.requires.row.7);
    }

pub put_below-requires : goal.put_below-requires
put_below-requires g t c κs within =
    let code = code_by g.T.Element.code_of c.args.bits in
    let E = c.requires.row.0 in
    let key = c.requires.row.2 in
    let is_code = c.requires.row.5 in
    let a = at-row g.T.Ord.cmp g.T.Element.code_of c.args.bits g.met.T.Element.equal_codes is_code c.requires.row.3 in
    let at = goal.at.put_below-requires g t c in
    let s = down g t at.After-own_child-child a (spot g t at.In-Node a) in
    let P = part g.T.Ord.cmp code c.args.depth (digit_at c.args.code c.args.depth) E in
    let less : c.args.depth < DEEPEST = omega (arith, c.if-depth-eq-DEEPEST.false, c.requires.depth) in
    let sub = can-below a s in
    let keyed' = keyed-below a c.args.entry s c.requires.held c.requires.apart c.requires.row.4 in
    let held' = held-below a c.args.entry s c.requires.held c.requires.apart in
    let apart' = apart-below a c.args.entry s c.requires.held c.requires.apart in
    let absent' = part-link a ∙ c.requires.row.6 in
    let spare : s.deeper.m + 1 + alike_in code c.args.code P ≤ c.own_child-child.new.self.spare_nodes = omega (arith, c.requires.row.7, s.own.changes.trades.balance.spare_nodes, s.own.changes.trades.nodes, s.deeper.is, part-alike g.T.Ord.cmp code c.args.depth c.args.code E) in
    search rules

pub returns-in-Empty : goal.returns-in-Empty
returns-in-Empty g t c = λ E left key can keyed is_code absent.
    let a = at-row g.T.Ord.cmp g.T.Element.code_of c.args.bits g.met.T.Element.equal_codes is_code can in
    let at = subst (λ p. IsSpot a.entries a.nodes p NoneAt) c.digit.ensures.read (c.in-Empty.ensures.spot c.args.depth a.entries a.nodes a.links a.is) in
    let puts = subst (λ p. PutsAt (form_at c.put_entry.new.heap) c.args.row c.args.depth a.entries a.nodes a.links p (At c.args.entry)) c.digit-in-Empty.ensures.read (c.put_entry.ensures.puts a.entries a.nodes a.links a.is) in
    puts-none a c.args.entry c.put_entry.new.heap at keyed puts c.put_entry.ensures.others c.put_entry.ensures.changes c.put_entry.ensures.gains

pub returns-then-depth-eq-DEEPEST : goal.returns-then-depth-eq-DEEPEST
returns-then-depth-eq-DEEPEST g t c = λ E left key can keyed is_code absent.
    let a = at-row g.T.Ord.cmp g.T.Element.code_of c.args.bits g.met.T.Element.equal_codes is_code can in
    let s = chain g t (goal.at.returns-then-depth-eq-DEEPEST g t c).In-Node a c.if-depth-eq-DEEPEST.true in
    puts-chain a c.args.entry c.put_in_chain.new.heap s (c.put_in_chain.ensures _ key s.chain keyed (part-link a ∙ absent)) absent

pub returns-else-depth-eq-DEEPEST : goal.returns-else-depth-eq-DEEPEST
returns-else-depth-eq-DEEPEST g t c = λ E left key can keyed is_code absent.
    let a = at-row g.T.Ord.cmp g.T.Element.code_of c.args.bits g.met.T.Element.equal_codes is_code can in
    let at = goal.at.returns-else-depth-eq-DEEPEST g t c in
    let s = down g t at.After-own_child-child a (spot g t at.In-Node a) in
    let keyed' = keyed-below a c.args.entry s c.requires.held c.requires.apart keyed in
    puts-node a c.args.entry s c.requires.held c.requires.apart c.put_below.new.heap (c.put_below.ensures _ s.deeper.m key (can-below a s) keyed' is_code (part-link a ∙ absent))
