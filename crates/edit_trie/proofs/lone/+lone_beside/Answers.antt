use Rattle.std.proofs.Common.{rules, arith, ◌≡◌, ◌≢◌, ℕ, ◌+◌, ◌-◌, ◌*◌, ◌≤◌, ◌<◌, ◌^◌, ◌∙◌, List, sym, ap, subst, length, get_or, None}
use Rattle.std.specs.declared.cmp.Ordering.{Ordering}
use Rattle.std.specs.declared.cmp.Ordering.TheVariants.{Equal}
use Rattle.elem_core.specs.Codes.{digit_at, masked_code}
use Rattle.elem_core.specs.declared.codes.TheConstants.{CODE_BITS, DEEPEST}
use Rattle.elem_core.proofs.CodeLemmas.{masked-small}
use Rattle.node_heap.specs.Heap.{Heap, form_at}
use Rattle.champ_chain.specs.Entry.{Entry, link_with}
use Rattle.champ_trie.specs.Trie.{IsRow, code_by}
use Rattle.champ_trie.specs.Edit.{IsBelow}
use Rattle.champ_trie.proofs.CallerLemmas.{below-chain, below-more, row-at}
use Rattle.edit_trie.specs.Spot.{IsSpot}
use Rattle.edit_trie.specs.declared.row.Spot.{Spot}
use Rattle.edit_trie.specs.declared.row.Spot.TheVariants.{Entry as EntryAt, Node as NodeAt, Empty as NoneAt}
use Rattle.edit_trie.proofs.LoneLemmas.{link-at, row-below, entries-below, nodes-below, links-below, fewer, never-empty, lone-entry, more-entries, more-nodes, only-node}
use Rattle.edit_trie.proofs.RowLemmas.{row-links, row-read, spot-read, entry-inside, node-inside}
use Rattle.edit_trie.proofs.lone.+lone_beside.Given.{Over}
use Rattle.edit_trie.proofs.lone.+lone_beside.Goals.{After-trie-entries, else-nodes-eq0-via-then-nodes-eq0+else-links-eq2, else-nodes-eq0-via-else-nodes-eq0}
use Rattle.edit_trie.proofs.lone.+lone_beside.Goals as goal

pub lone_in_chain-requires : goal.lone_in_chain-requires
lone_in_chain-requires g t c =
    let cmp = g.T.Ord.cmp in
    let code = code_by g.T.Element.code_of c.args.bits in
    let E = c.requires.node.0 in
    let low : c.args.code < 2 ^ CODE_BITS = rw c.requires.code (masked-small (g.T.Element.code_of (g.P.Probe.stands_for c.args.key.now)) c.args.bits c.requires.bits) in
    let chain = below-chain cmp code (form_at c.args.heap.now) c.args.depth c.args.node c.args.code c.requires.node.1 E c.requires.node.2 c.if-depth-gt-DEEPEST.true low (λ k. masked-small (g.T.Element.code_of k) c.args.bits c.requires.bits) in
    record { chain = (E, chain.1, c.requires.node.3) }

pub returns-then-depth-gt-DEEPEST-clause-lone : goal.returns-then-depth-gt-DEEPEST-clause-lone
returns-then-depth-gt-DEEPEST-clause-lone g t c = λ E left below there two.
    let cmp = g.T.Ord.cmp in
    let code = code_by g.T.Element.code_of c.args.bits in
    let low : c.args.code < 2 ^ CODE_BITS = rw c.requires.code (masked-small (g.T.Element.code_of (g.P.Probe.stands_for c.args.key.now)) c.args.bits c.requires.bits) in
    let chain = below-chain cmp code (form_at c.args.heap.now) c.args.depth c.args.node c.args.code left E below c.if-depth-gt-DEEPEST.true low (λ k. masked-small (g.T.Element.code_of k) c.args.bits c.requires.bits) in
    c.lone_in_chain.ensures.lone E chain.1 there

pub trie-entries-requires : goal.trie-entries-requires
trie-entries-requires g t c =
    let cmp = g.T.Ord.cmp in
    let code = code_by g.T.Element.code_of c.args.bits in
    let E = c.requires.node.0 in
    let below = c.requires.node.2 in
    let deep : c.args.depth ≤ DEEPEST = omega (arith, c.if-depth-gt-DEEPEST.false) in
    let less = below-more cmp code (form_at c.args.heap.now) c.args.depth c.args.node c.args.code c.requires.node.1 E below deep in
    let at = row-at cmp code (form_at c.args.heap.now) less.0 c.args.depth c.args.node E less.2.trie in
    (at.0, at.1, at.2, (c.args.depth, at.3.row))

-- a trie row was read
module _ (g : Over) (t : ℕ) (c : After-trie-entries g t) where
  abbrev cmp : g.row.T.Denot → g.row.T.Denot → Ordering
  cmp = g.T.Ord.cmp

  abbrev code : g.row.T.Denot → ℕ
  code = code_by g.T.Element.code_of c.args.bits

  abbrev h : Heap g.row.T.Denot
  h = c.args.heap.now

  abbrev key : g.row.T.Denot
  key = g.P.Probe.stands_for c.args.key.now

  equal : (i j : g.row.T.Denot) → cmp i j ≡ Equal → code i ≡ code j
  equal i j same = ap (λ n. masked_code n c.args.bits) (g.met.T.Element.equal_codes i j same)

  deep : c.args.depth ≤ DEEPEST
  deep = omega (arith, c.if-depth-gt-DEEPEST.false)

  -- over entries of which one has the key
  module _ (E : List (Entry g.row.T.Denot)) (left : ℕ) (under : IsBelow cmp code (form_at h) c.args.depth c.args.node E left c.args.code) (there : link_with cmp key E ≢ None) (two : 2 ≤ length E) where
    below : IsBelow cmp code (form_at h) c.args.depth c.args.node E left (code key)
    below = subst (λ (q : ℕ). IsBelow cmp code (form_at h) c.args.depth c.args.node E left q) c.requires.code under

    abbrev fewer-left : ℕ
    fewer-left = (fewer cmp code g.met.T.Ord.total equal h c.args.node c.args.depth left E key below deep there two).0

    abbrev e : ℕ
    e = entries-below cmp code g.met.T.Ord.total equal h c.args.node c.args.depth left E key below deep there two

    abbrev n : ℕ
    n = nodes-below cmp code g.met.T.Ord.total equal h c.args.node c.args.depth left E key below deep there two

    abbrev ls : List ℕ
    ls = links-below cmp code g.met.T.Ord.total equal h c.args.node c.args.depth left E key below deep there two

    is : IsRow (form_at h) c.args.node c.args.depth e n ls
    is = (row-below cmp code g.met.T.Ord.total equal h c.args.node c.args.depth left E key below deep there two).row

    read : (e ≡ c.trie-entries.result.entries) × (n ≡ c.trie-entries.result.nodes) × (ls ≡ c.trie-entries.result.links.now)
    read = row-read h c.args.node c.args.depth e n ls is c.trie-entries.ensures

    spot-is : (digit : ℕ) → digit ≡ digit_at c.args.code c.args.depth → (spot : Spot) → IsSpot c.trie-entries.result.entries c.trie-entries.result.nodes digit spot → IsSpot e n (digit_at (code key) c.args.depth) spot
    spot-is digit pos spot stands = spot-read spot read.0 read.1 (pos ∙ ap (λ (q : ℕ). digit_at q c.args.depth) c.requires.code) stands

    entry-in : (i : ℕ) → IsSpot e n (digit_at (code key) c.args.depth) (EntryAt i) → i < length c.trie-entries.result.links.now
    entry-in i spot = omega (arith, entry-inside h c.args.node c.args.depth e n ls is (digit_at (code key) c.args.depth) i (omega arith) spot, ap length (row-links h c.args.node c.args.depth e n ls is), ap length read.2)

    node-in : (i : ℕ) → IsSpot e n (digit_at (code key) c.args.depth) (NodeAt i) → i < length c.trie-entries.result.links.now
    node-in i spot = omega (arith, node-inside h c.args.node c.args.depth e n ls is (digit_at (code key) c.args.depth) i (omega arith) spot, ap length (row-links h c.args.node c.args.depth e n ls is), ap length read.2)

    -- what is below the only link
    only : (i child : ℕ) → IsSpot e n (digit_at (code key) c.args.depth) (NodeAt i) → length c.trie-entries.result.links.now ≡ 1 → child ≡ get_or c.trie-entries.result.links.now i child → IsBelow cmp code (form_at h) (c.args.depth + 1) child E fewer-left c.args.code
    only i child spot one at =
        let here : child ≡ get_or ls i 0 = link-at c.trie-entries.result.links.now ls i child at (sym read.2) (omega (arith, node-in i spot, ap length read.2)) in
        let stands = only-node cmp code g.met.T.Ord.total equal h c.args.node c.args.depth left E key below deep there two i child spot (omega (arith, one, ap length read.2)) here in
        subst (λ (q : ℕ). IsBelow cmp code (form_at h) (c.args.depth + 1) child E fewer-left q) (sym c.requires.code) stands

pub overflow_sub-result : goal.overflow_sub-result
overflow_sub-result g t c =
    let way = (goal.at.overflow_sub-result g t c).After-trie-entries in
    let r = c.requires.node in
    let spot = spot-is g t way r.0 r.1 r.2 r.3 r.4 c.digit.result c.digit.ensures.read (EntryAt c.in-Entry.index) c.in-Entry.ensures in
    omega (arith, entry-in g t way r.0 r.1 r.2 r.3 r.4 c.in-Entry.index spot, c.if-links-eq2.true)

pub offset_bounds-links-index-then-links-eq1 : goal.offset_bounds-links-index-then-links-eq1
offset_bounds-links-index-then-links-eq1 g t c =
    let way = (goal.at.offset_bounds-links-index-then-links-eq1 g t c).After-trie-entries in
    let r = c.requires.node in
    let spot = spot-is g t way r.0 r.1 r.2 r.3 r.4 c.digit.result c.digit.ensures.read (NodeAt c.in-Node.index) c.in-Node.ensures in
    let small : c.in-Node.index * 8 < 2 ^ 64 = omega (arith, node-in g t way r.0 r.1 r.2 r.3 r.4 c.in-Node.index spot, c.if-links-eq1.true) in
    search rules

pub bounds-links-index-then-links-eq1 : goal.bounds-links-index-then-links-eq1
bounds-links-index-then-links-eq1 g t c =
    let way = (goal.at.bounds-links-index-then-links-eq1 g t c).After-trie-entries in
    let r = c.requires.node in
    let spot = spot-is g t way r.0 r.1 r.2 r.3 r.4 c.digit.result c.digit.ensures.read (NodeAt c.in-Node.index) c.in-Node.ensures in
    omega (arith, node-in g t way r.0 r.1 r.2 r.3 r.4 c.in-Node.index spot)

pub lone_beside-requires : goal.lone_beside-requires
lone_beside-requires g t c κs within =
    let way = (goal.at.lone_beside-requires g t c).After-trie-entries in
    let r = c.requires.node in
    let spot = spot-is g t way r.0 r.1 r.2 r.3 r.4 c.digit.result c.digit.ensures.read (NodeAt c.in-Node.index) c.in-Node.ensures in
    let next = only g t way r.0 r.1 r.2 r.3 r.4 c.in-Node.index c.index-links-index-then-links-eq1.result spot c.if-links-eq1.true c.index-links-index-then-links-eq1.is in
    (search rules, (search rules, (search rules, (c.requires.bits, (omega (arith, deep g t way), (c.requires.code, (r.0, fewer-left g t way r.0 r.1 r.2 r.3 r.4, next, r.3, r.4)))))))

pub returns-in-Empty-clause-lone : goal.returns-in-Empty-clause-lone
returns-in-Empty-clause-lone g t c = λ E left under there two.
    let way = (goal.at.returns-in-Empty-clause-lone g t c).After-trie-entries in
    let spot = spot-is g t way E left under there two c.digit.result c.digit.ensures.read NoneAt c.in-Empty.ensures in
    absurd (never-empty (cmp g t way) (code g t way) g.met.T.Ord.total (equal g t way) (h g t way) c.args.node c.args.depth left E (key g t way) (below g t way E left under there two) (deep g t way) there two spot)

pub returns-then-links-eq2-clause-lone : goal.returns-then-links-eq2-clause-lone
returns-then-links-eq2-clause-lone g t c = λ E left under there two.
    let way = (goal.at.returns-then-links-eq2-clause-lone g t c).After-trie-entries in
    let spot = spot-is g t way E left under there two c.digit.result c.digit.ensures.read (EntryAt c.in-Entry.index) c.in-Entry.ensures in
    let reads = read g t way E left under there two in
    let found = lone-entry (cmp g t way) (code g t way) g.met.T.Ord.total (equal g t way) (h g t way) c.args.node c.args.depth left E (key g t way) (below g t way E left under there two) (deep g t way) there two c.in-Entry.index spot
    (reads.1 ∙ c.if-nodes-eq0.true) (omega (arith, c.if-links-eq2.true, ap length reads.2)) in
    let at : c.index-links-index.result ≡ get_or (ls g t way E left under there two) (1 - c.in-Entry.index) 0 =
    link-at c.trie-entries.result.links.now (ls g t way E left under there two) (1 - c.in-Entry.index) c.index-links-index.result c.index-links-index.is (sym reads.2) (omega (arith, c.if-links-eq2.true, ap length reads.2)) in
    rw at found

pub returns-else-nodes-eq0-clause-lone : goal.returns-else-nodes-eq0-clause-lone
returns-else-nodes-eq0-clause-lone g t c = λ E left under there two.
    let way = (goal.at.returns-else-nodes-eq0-clause-lone g t c).After-trie-entries in
    let spot = spot-is g t way E left under there two c.digit.result c.digit.ensures.read (EntryAt c.in-Entry.index) c.in-Entry.ensures in
    let reads = read g t way E left under there two in
    more-entries (cmp g t way) (code g t way) g.met.T.Ord.total (equal g t way) (h g t way) c.args.node c.args.depth left E (key g t way) (below g t way E left under there two) (deep g t way) there two c.in-Entry.index spot (λ both. elim c.else-nodes-eq0.branch [
      | else-nodes-eq0-via-then-nodes-eq0+else-links-eq2 w ↦ absurd (w.if-links-eq2.false (sym (ap length reads.2) ∙ both.1))
      | else-nodes-eq0-via-else-nodes-eq0 w ↦ absurd (w.if-nodes-eq0.false (sym reads.1 ∙ both.0))
    ])

pub returns-then-links-eq1-clause-lone : goal.returns-then-links-eq1-clause-lone
returns-then-links-eq1-clause-lone g t c = λ E left under there two.
    let way = (goal.at.returns-then-links-eq1-clause-lone g t c).After-trie-entries in
    let spot = spot-is g t way E left under there two c.digit.result c.digit.ensures.read (NodeAt c.in-Node.index) c.in-Node.ensures in
    let next = only g t way E left under there two c.in-Node.index c.index-links-index-then-links-eq1.result spot c.if-links-eq1.true c.index-links-index-then-links-eq1.is in
    c.lone_beside.ensures.lone E (fewer-left g t way E left under there two) next there two

pub returns-else-links-eq1-clause-lone : goal.returns-else-links-eq1-clause-lone
returns-else-links-eq1-clause-lone g t c = λ E left under there two.
    let way = (goal.at.returns-else-links-eq1-clause-lone g t c).After-trie-entries in
    let spot = spot-is g t way E left under there two c.digit.result c.digit.ensures.read (NodeAt c.in-Node.index) c.in-Node.ensures in
    let reads = read g t way E left under there two in
    more-nodes (cmp g t way) (code g t way) g.met.T.Ord.total (equal g t way) (h g t way) c.args.node c.args.depth left E (key g t way) (below g t way E left under there two) (deep g t way) there two c.in-Node.index spot (λ one. c.if-links-eq1.false (sym (ap length reads.2) ∙ one))
