use Rattle.std.proofs.Common.{rules, arith, ◌≡◌, ◌≢◌, ℕ, ◌+◌, ◌≤◌, ◌<◌, ◌∙◌, List, ap, sym, subst, length, None}
use Rattle.elem_core.specs.Codes.{digit_at}
use Rattle.elem_core.specs.declared.codes.TheConstants.{DEEPEST}
use Rattle.elem_core.proofs.CodeLemmas.{masked-small}
use Rattle.node_heap.specs.Heap.{row_at, form_at, links_at}
use Rattle.node_heap.specs.InPlace.{child_at}
use Rattle.champ_chain.specs.Entry.{Entry, link_with, others}
use Rattle.champ_chain.proofs.CallerLemmas.{form-live, key-live}
use Rattle.champ_trie.specs.Bits.{has}
use Rattle.champ_trie.specs.Trie.{part, code_by}
use Rattle.champ_trie.specs.Reach.{alike_in}
use Rattle.champ_trie.specs.declared.place.Place.TheVariants.{Entry as At, Empty}
use Rattle.champ_trie.proofs.CallerLemmas.{part-alike, part-distinct, row-at}
use Rattle.node_heap.proofs.CallerLemmas.{owns-child}
use Rattle.edit_trie.specs.Spot.{IsSpot, PutsAt}
use Rattle.edit_trie.specs.declared.row.Spot.TheVariants.{Entry as EntryAt, Node as NodeAt, Empty as NoneAt}
use Rattle.edit_trie.proofs.RowLemmas.{row-keyless, node-form, node-inside}
use Rattle.edit_trie.proofs.LoneLemmas.{others-size}
use Rattle.edit_trie.proofs.StepLemmas.{AtRow, at-row, digit-small, part-link, not-none, MeetsChain, OwnsNext, meets-chain, goes-deeper, owns-next, can-below}
use Rattle.edit_trie.proofs.EditLemmas.{lone-apart, cut-below-node, cut-only, cuts-entry, cuts-lift, cuts-chain, cuts-node}
use Rattle.edit_trie.proofs.cut.+cut_below.Given.{Over}
use Rattle.edit_trie.proofs.cut.+cut_below.Goals as goal
use Rattle.edit_trie.proofs.cut.+cut_below.Goals.{In-Entry, In-Node, After-own_child-child}

-- the code is that of the key
module _ (g : Over) (t : ℕ) {E : List (Entry g.row.T.Denot)} {left : ℕ} where
  -- an entry stands at the digit
  entry-spot : (c : In-Entry g t) (a : AtRow g.T.Ord.cmp (code_by g.T.Element.code_of c.args.bits) c.args.heap.now left c.args.depth c.args.row c.args.code E (g.P.Probe.stands_for c.args.key.now)) → IsSpot a.entries a.nodes (digit_at c.args.code c.args.depth) (EntryAt c.in-Entry.field-0)
  entry-spot c a = subst (λ p. IsSpot a.entries a.nodes p (EntryAt c.in-Entry.field-0)) c.digit-position.ensures.read (c.in-Entry.ensures.spot c.args.depth a.entries a.nodes a.links a.is)

  -- a node does
  module _ (c : In-Node g t) (a : AtRow g.T.Ord.cmp (code_by g.T.Element.code_of c.args.bits) c.args.heap.now left c.args.depth c.args.row c.args.code E (g.P.Probe.stands_for c.args.key.now)) where
    abbrev P : List (Entry g.row.T.Denot)
    P = part g.T.Ord.cmp (code_by g.T.Element.code_of c.args.bits) c.args.depth (digit_at c.args.code c.args.depth) E

    spot : IsSpot a.entries a.nodes (digit_at c.args.code c.args.depth) (NodeAt c.in-Node.index)
    spot = subst (λ p. IsSpot a.entries a.nodes p (NodeAt c.in-Node.index)) c.digit-position.ensures.read (c.in-Node.ensures.spot c.args.depth a.entries a.nodes a.links a.is)

    inside : c.in-Node.index < length (links_at c.args.heap.now c.args.row)
    inside = node-inside c.args.heap.now c.args.row c.args.depth a.entries a.nodes a.links a.is (digit_at c.args.code c.args.depth) c.in-Node.index (digit-small a) spot

    chain : c.args.depth ≡ DEEPEST → MeetsChain a c.in-Node.index
    chain deepest = meets-chain a c.in-Node.index spot deepest (λ k. masked-small (g.T.Element.code_of k) c.args.bits c.requires.bits)

    found : link_with g.T.Ord.cmp (g.P.Probe.stands_for c.args.key.now) E ≢ None → link_with g.T.Ord.cmp (g.P.Probe.stands_for c.args.key.now) P ≢ None
    found there none = there (sym (part-link a) ∙ none)

    -- below the only link more than one entry is left
    few : (0 < c.args.depth → 2 ≤ length (others g.T.Ord.cmp (g.P.Probe.stands_for c.args.key.now) E)) → 0 < c.args.depth → length (links_at c.args.heap.now c.args.row) ≡ 1 → 2 ≤ length (others g.T.Ord.cmp (g.P.Probe.stands_for c.args.key.now) P)
    few = cut-only a g.met.T.Ord.total c.in-Node.index spot

  -- it was made the row's own
  down : (c : After-own_child-child g t) (a : AtRow g.T.Ord.cmp (code_by g.T.Element.code_of c.args.bits) c.args.heap.now left c.args.depth c.args.row c.args.code E (g.P.Probe.stands_for c.args.key.now))
      → IsSpot a.entries a.nodes (digit_at c.args.code c.args.depth) (NodeAt c.in-Node.index) → OwnsNext a c.own_child-child.new.self c.in-Node.index c.own_child-child.result
  down c a at =
      let did = c.own_child-child.ensures in
      owns-next a at (omega (arith, c.if-depth-eq-DEEPEST.false, c.requires.depth))
      (owns-child (node-inside c.args.heap.now c.args.row c.args.depth a.entries a.nodes a.links a.is (digit_at c.args.code c.args.depth) c.in-Node.index (digit-small a) at) did.same did.row did.sole did.fresh did.parent_head did.parent_links did.stays did.others did.owners did.changes did.makes)

pub spot_at-requires-clause-row : goal.spot_at-requires-clause-row
spot_at-requires-clause-row g t c =
    let at = row-at g.T.Ord.cmp (code_by g.T.Element.code_of c.args.bits) (form_at c.args.heap.now) c.requires.row.1 c.args.depth c.args.row c.requires.row.0 c.requires.row.2.below.trie in
    (c.args.depth, at.0, at.1, at.2, at.3)

pub unreachable-requires : goal.unreachable-requires
unreachable-requires g t c =
    let a = at-row g.T.Ord.cmp g.T.Element.code_of c.args.bits g.met.T.Element.equal_codes c.requires.code c.requires.row.2 in
    not-none a c.requires.row.3 (subst (λ p. IsSpot a.entries a.nodes p NoneAt) c.digit-position.ensures.read (c.in-Empty.ensures.spot c.args.depth a.entries a.nodes a.links a.is))

pub take_entry-requires-clause-row : goal.take_entry-requires-clause-row
take_entry-requires-clause-row g t c =
    let a = at-row g.T.Ord.cmp g.T.Element.code_of c.args.bits g.met.T.Element.equal_codes c.requires.code c.requires.row.2 in
    let at = entry-spot g t (goal.at.take_entry-requires-clause-row g t c).In-Entry a in
    (a.entries, a.nodes, a.links, a.is, ap (has a.entries) c.digit-position.ensures.read ∙ at.0)

pub returns-in-Entry : goal.returns-in-Entry
returns-in-Entry g t c = λ E left can there some.
    let a = at-row g.T.Ord.cmp g.T.Element.code_of c.args.bits g.met.T.Element.equal_codes c.requires.code can in
    let at = entry-spot g t (goal.at.returns-in-Entry g t c).In-Entry a in
    let did = c.take_entry.ensures in
    let puts = subst (λ p. PutsAt (form_at c.take_entry.new.heap) c.args.row c.args.depth a.entries a.nodes a.links p Empty) c.digit-position.ensures.read (did.puts a.entries a.nodes a.links a.is) in
    cuts-entry a c.take_entry.new.heap did.others c.take_entry.result did.changes did.gains c.in-Entry.field-0 at puts there

pub lone_below-requires : goal.lone_below-requires
lone_below-requires g t c =
    let a = at-row g.T.Ord.cmp g.T.Element.code_of c.args.bits g.met.T.Element.equal_codes c.requires.code c.requires.row.2 in
    let node = (goal.at.lone_below-requires g t c).In-Node in
    let below = cut-below-node a c.in-Node.index (spot g t node a) in record {
      bits = c.requires.bits;
      depth = c.requires.depth;
      code = c.requires.code;
      live = form-live c.args.heap.now c.args.row _ a.is.row;
      index = inside g t node a;
      node = (P g t node a, c.requires.row.1, below.0, found g t node a c.requires.row.3, below.1);
    }

pub lift-requires : goal.lift-requires
lift-requires g t c =
    let a = at-row g.T.Ord.cmp g.T.Element.code_of c.args.bits g.met.T.Element.equal_codes c.requires.code c.requires.row.2 in
    let node = (goal.at.lift-requires g t c).In-Node in
    let at = spot g t node a in
    let read = c.digit-position.ensures.read in
    let below = cut-below-node a c.in-Node.index at in
    let lone = c.in-Some.ensures.lone (P g t node a) c.requires.row.1 below.0 (found g t node a c.requires.row.3) below.1 (few g t node a c.requires.row.4) in record {
      row = (a.entries, a.nodes, a.links, a.is, ap (has a.entries) read ∙ at.0, ap (has a.nodes) read ∙ at.1);
      graph = a.can.graph;
      position = c.digit-position.ensures.small;
      sole = a.can.sole;
      few = c.requires.few;
      live = key-live c.args.heap.now c.in-Some.lone lone.0 lone.2;
      apart = lone-apart a c.in-Some.lone lone.0 lone.1 lone.2;
    }

pub returns-in-Some : goal.returns-in-Some
returns-in-Some g t c = λ E left can there some.
    let a = at-row g.T.Ord.cmp g.T.Element.code_of c.args.bits g.met.T.Element.equal_codes c.requires.code can in
    let node = (goal.at.returns-in-Some g t c).In-Node in
    let below = cut-below-node a c.in-Node.index (spot g t node a) in
    let lone = c.in-Some.ensures.lone (P g t node a) left below.0 (found g t node a there) below.1 (few g t node a some) in
    let did = c.lift.ensures in
    let puts = subst (λ p. PutsAt (form_at c.lift.new.heap) c.args.row c.args.depth a.entries a.nodes a.links p (At c.in-Some.lone)) c.digit-position.ensures.read (did.puts a.entries a.nodes a.links a.is) in
    cuts-lift a c.lift.new.heap did.others c.lift.result did.changes did.gains c.in-Some.lone lone.0 lone.1 lone.2 puts

pub cut_from_chain-requires : goal.cut_from_chain-requires
cut_from_chain-requires g t c =
    let a = at-row g.T.Ord.cmp g.T.Element.code_of c.args.bits g.met.T.Element.equal_codes c.requires.code c.requires.row.2 in
    let node = (goal.at.cut_from_chain-requires g t c).In-Node in
    let s = chain g t node a c.if-depth-eq-DEEPEST.true in
    let below = cut-below-node a c.in-Node.index s.spot in
    let known = found g t node a c.requires.row.3 in
    let more = c.in_default.ensures.lone (P g t node a) c.requires.row.1 below.0 known below.1 (few g t node a c.requires.row.4) in
    let size = others-size g.T.Ord.cmp g.met.T.Ord.total (g.P.Probe.stands_for c.args.key.now) (P g t node a) (part-distinct g.T.Ord.cmp (code_by g.T.Element.code_of c.args.bits) c.args.depth (digit_at c.args.code c.args.depth) c.requires.row.0 a.can.below.distinct) known in record {
      graph = a.can.graph;
      keyless = row-keyless (form_at c.args.heap.now) c.args.row c.args.depth a.entries a.nodes a.links a.is;
      sole = a.can.sole;
      index = inside g t node a;
      few = c.requires.few;
      chain = (P g t node a, s.chain, known, omega (arith, more, size), omega (arith, s.alike, c.requires.row.5));
    }

pub returns-then-depth-eq-DEEPEST : goal.returns-then-depth-eq-DEEPEST
returns-then-depth-eq-DEEPEST g t c = λ E left can there some.
    let a = at-row g.T.Ord.cmp g.T.Element.code_of c.args.bits g.met.T.Element.equal_codes c.requires.code can in
    let node = (goal.at.returns-then-depth-eq-DEEPEST g t c).In-Node in
    let s = chain g t node a c.if-depth-eq-DEEPEST.true in
    let below = cut-below-node a c.in-Node.index s.spot in
    let known = found g t node a there in
    let more = c.in_default.ensures.lone (P g t node a) left below.0 known below.1 (few g t node a some) in
    let size = others-size g.T.Ord.cmp g.met.T.Ord.total (g.P.Probe.stands_for c.args.key.now) (P g t node a) (part-distinct g.T.Ord.cmp (code_by g.T.Element.code_of c.args.bits) c.args.depth (digit_at c.args.code c.args.depth) E can.below.distinct) known in
    cuts-chain a c.cut_from_chain.new.heap s c.cut_from_chain.result (c.cut_from_chain.ensures (P g t node a) s.chain known (omega (arith, more, size)))

pub own_child-child-requires : goal.own_child-child-requires
own_child-child-requires g t c =
    let old = c.args.heap.now in
    let a = at-row g.T.Ord.cmp g.T.Element.code_of c.args.bits g.met.T.Element.equal_codes c.requires.code c.requires.row.2 in
    let node = (goal.at.own_child-child-requires g t c).In-Node in
    let down = goes-deeper a c.in-Node.index (spot g t node a) (omega (arith, c.if-depth-eq-DEEPEST.false, c.requires.depth)) in
    let there = row-at g.T.Ord.cmp (code_by g.T.Element.code_of c.args.bits) (form_at old) down.m (c.args.depth + 1) (child_at old c.args.row c.in-Node.index) _ down.below.trie in record {
      sole = a.can.sole;
      index = inside g t node a;
      node = node-form (row_at old (child_at old c.args.row c.in-Node.index)) _ _ there.3.row;
      spare = omega (arith, c.requires.row.5, down.is);
    }

pub cut_below-requires : goal.cut_below-requires
cut_below-requires g t c κs within =
    let code = code_by g.T.Element.code_of c.args.bits in
    let a = at-row g.T.Ord.cmp g.T.Element.code_of c.args.bits g.met.T.Element.equal_codes c.requires.code c.requires.row.2 in
    let at = goal.at.cut_below-requires g t c in
    let node = at.In-Node in
    let s = down g t at.After-own_child-child a (spot g t node a) in
    let P : List (Entry g.row.T.Denot) = P g t node a in
    let below = cut-below-node a c.in-Node.index s.spot in
    let known = found g t node a c.requires.row.3 in
    let more : 0 < c.args.depth + 1 → 2 ≤ length (others g.T.Ord.cmp (g.P.Probe.stands_for c.args.key.now) P) = λ deep. c.in_default.ensures.lone P c.requires.row.1 below.0 known below.1 (few g t node a c.requires.row.4) in
    let less : c.args.depth < DEEPEST = omega (arith, c.if-depth-eq-DEEPEST.false, c.requires.depth) in
    let sub = can-below a s in
    let spare : s.deeper.m + alike_in code c.args.code P ≤ c.own_child-child.new.self.spare_nodes = omega (arith, c.requires.row.5, s.own.changes.trades.balance.spare_nodes, s.own.changes.trades.nodes, s.deeper.is, part-alike g.T.Ord.cmp code c.args.depth c.args.code c.requires.row.0) in
    search rules

pub returns-else-depth-eq-DEEPEST : goal.returns-else-depth-eq-DEEPEST
returns-else-depth-eq-DEEPEST g t c = λ E left can there some.
    let a = at-row g.T.Ord.cmp g.T.Element.code_of c.args.bits g.met.T.Element.equal_codes c.requires.code can in
    let at = goal.at.returns-else-depth-eq-DEEPEST g t c in
    let node = at.In-Node in
    let s = down g t at.After-own_child-child a (spot g t node a) in
    let below = cut-below-node a c.in-Node.index s.spot in
    let known = found g t node a there in
    let more = c.in_default.ensures.lone (P g t node a) left below.0 known below.1 (few g t node a some) in
    cuts-node a s c.cut_below.new.heap c.cut_below.result more (c.cut_below.ensures (P g t node a) s.deeper.m (can-below a s) known (λ deep. more))
