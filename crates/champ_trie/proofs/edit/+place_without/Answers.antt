use Rattle.std.proofs.Common.{arith, ◌≡◌, ◌≢◌, ℕ, suc, ◌+◌, ◌<◌, ◌^◌, ◌∙◌, sym, ap, subst, List, length, None, [], inl, inr}
use Rattle.std.specs.declared.cmp.Ordering.TheVariants.{Equal}
use Rattle.elem_core.specs.Codes.{digit_at, masked_code}
use Rattle.elem_core.specs.declared.codes.TheConstants.{CODE_BITS, DEEPEST}
use Rattle.elem_core.proofs.CodeLemmas.{masked-small}
use Rattle.node_heap.specs.Heap.{Heap, form_at}
use Rattle.node_heap.specs.Calls.{Builds}
use Rattle.node_heap.proofs.BuildLemmas.{Builds-refl, Builds-then, Builds-more, Builds-spare_nodes}
use Rattle.champ_chain.specs.Entry.{Entry, link_with, others}
use Rattle.champ_chain.specs.Chain.{IsChain}
use Rattle.champ_chain.proofs.FrameLemmas.{forms-kept}
use Rattle.champ_trie.specs.Trie.{IsTrie, IsPlace, part, place_of, links_at_place, code_by}
use Rattle.champ_trie.specs.Reach.{alike_in}
use Rattle.champ_trie.specs.Edit.{IsBelow, SharesBeside}
use Rattle.champ_trie.specs.declared.place.Place.{Place}
use Rattle.champ_trie.proofs.PartLemmas.{part-alike, part-link, part-others, row-kept, trie-kept, place-kept}
use Rattle.champ_trie.proofs.ShareLemmas.{shares-kept, shares-none, shares-row, row-at, closes-row, same-node}
use Rattle.champ_trie.proofs.ReachLemmas.{trie-row}
use Rattle.champ_trie.proofs.LeftLemmas.{IsDeeper, node-deeper, node-chain, none-left, deepest-alike, left-places, left-stands, chain-place, place-links}
use Rattle.champ_trie.proofs.edit.+place_without.Given as given
use Rattle.champ_trie.proofs.edit.+place_without.Goals as goal
use Rattle.champ_trie.proofs.edit.+place_without.Goals.{In-Node}

-- the key is among the entries with its digit
linked : (g : given.Over) (t : ℕ) (c : In-Node g t) → link_with g.T.Ord.cmp (g.P.Probe.stands_for c.args.key.now) (part g.T.Ord.cmp (code_by g.T.Element.code_of c.args.bits) c.args.depth (digit_at c.args.code c.args.depth) c.requires.trie.0) ≢ None
linked g t c none =
    let cmp = g.T.Ord.cmp in
    let key = g.P.Probe.stands_for c.args.key.now in
    let equal_codes = λ (j k : g.row.T.Denot) (e : cmp j k ≡ Equal). ap (λ n. masked_code n c.args.bits) (g.met.T.Element.equal_codes j k e) in
    c.requires.trie.3 (sym (part-link cmp (code_by g.T.Element.code_of c.args.bits) equal_codes c.args.depth key c.requires.trie.0) ∙ ap (λ n. link_with cmp key (part cmp (code_by g.T.Element.code_of c.args.bits) c.args.depth (digit_at n c.args.depth) c.requires.trie.0)) (sym c.requires.code) ∙ none)

-- the node at the digit's place, above the deepest row
deeper : (g : given.Over) (t : ℕ) (c : In-Node g t) → c.args.depth < DEEPEST → (E : List (Entry g.row.T.Denot)) (left : ℕ)
    → IsBelow g.T.Ord.cmp (code_by g.T.Element.code_of c.args.bits) (form_at c.args.heap.now) c.args.depth c.args.link E (suc left) c.args.code
    → IsDeeper g.T.Ord.cmp (code_by g.T.Element.code_of c.args.bits) (form_at c.args.heap.now) c.args.depth c.in-Node.child c.args.code left (part g.T.Ord.cmp (code_by g.T.Element.code_of c.args.bits) c.args.depth (digit_at c.args.code c.args.depth) E)
deeper g t c less E left below =
    node-deeper g.T.Ord.cmp (code_by g.T.Element.code_of c.args.bits) (form_at c.args.heap.now) left c.args.depth c.args.link c.args.code E below (omega arith) c.in-Node.child (λ depth e n ls row. c.in-Node.ensures.place depth e n ls row ∙ ap (place_of e n ls) c.digit.ensures.read) less

-- at the deepest row it is the chain of the entries with the code
chain : (g : given.Over) (t : ℕ) (c : In-Node g t) → c.args.depth ≡ DEEPEST → (E : List (Entry g.row.T.Denot)) (left : ℕ)
    → IsBelow g.T.Ord.cmp (code_by g.T.Element.code_of c.args.bits) (form_at c.args.heap.now) c.args.depth c.args.link E (suc left) c.args.code
    → (left ≡ 0) × IsChain g.T.Ord.cmp (form_at c.args.heap.now) c.in-Node.child (part g.T.Ord.cmp (code_by g.T.Element.code_of c.args.bits) c.args.depth (digit_at c.args.code c.args.depth) E)
    × (length (part g.T.Ord.cmp (code_by g.T.Element.code_of c.args.bits) c.args.depth (digit_at c.args.code c.args.depth) E) ≡ left + alike_in (code_by g.T.Element.code_of c.args.bits) c.args.code E)
chain g t c deep E left below =
    let low : c.args.code < 2 ^ CODE_BITS = omega arith in
    let d = node-chain g.T.Ord.cmp (code_by g.T.Element.code_of c.args.bits) (form_at c.args.heap.now) left c.args.depth c.args.link c.args.code E below (omega arith) c.in-Node.child (λ depth e n ls row. c.in-Node.ensures.place depth e n ls row ∙ ap (place_of e n ls) c.digit.ensures.read) (omega (arith, deep)) in
    (d.0, d.1, omega (arith, d.0, deepest-alike g.T.Ord.cmp (code_by g.T.Element.code_of c.args.bits) c.args.depth c.args.code E deep low (λ k. masked-small (g.T.Element.code_of k) c.args.bits c.requires.bits) below.agrees))

-- what taking the key out of it did
went : (g : given.Over) (t : ℕ) (c : In-Node g t) → c.args.depth < DEEPEST → (new : Heap g.row.T.Denot) (place : Place)
    → ((E : List (Entry g.row.T.Denot)) (left : ℕ) → IsBelow g.T.Ord.cmp (code_by g.T.Element.code_of c.args.bits) (form_at c.args.heap.now) (c.args.depth + 1) c.in-Node.child E (suc left) c.args.code
    → Builds c.args.heap.now new [] (links_at_place place) 0 (left + alike_in (code_by g.T.Element.code_of c.args.bits) c.args.code E))
    → (E : List (Entry g.row.T.Denot)) (left : ℕ) → IsBelow g.T.Ord.cmp (code_by g.T.Element.code_of c.args.bits) (form_at c.args.heap.now) c.args.depth c.args.link E (suc left) c.args.code
    → (m : ℕ) × (left ≡ suc m) × Builds c.args.heap.now new [] (links_at_place place) 0 (m + alike_in (code_by g.T.Element.code_of c.args.bits) c.args.code E)
went g t c less new place builds E left below =
    let d = deeper g t c less E left below in
    let P = part g.T.Ord.cmp (code_by g.T.Element.code_of c.args.bits) c.args.depth (digit_at c.args.code c.args.depth) E in
    (d.m, d.is, Builds-more 0 (d.m + alike_in (code_by g.T.Element.code_of c.args.bits) c.args.code E) (builds P d.m d.below) (omega arith) (omega (arith, part-alike g.T.Ord.cmp (code_by g.T.Element.code_of c.args.bits) c.args.depth c.args.code E)))

pub place_at-requires-clause-row : goal.place_at-requires-clause-row
place_at-requires-clause-row g t c = trie-row g.T.Ord.cmp (code_by g.T.Element.code_of c.args.bits) (form_at c.args.heap.now) c.requires.trie.1 c.args.depth c.args.link c.requires.trie.0 c.requires.trie.2.trie

pub place_without-left-requires : goal.place_without-left-requires
place_without-left-requires g t c κs within =
    let less : c.args.depth < DEEPEST = omega (arith, c.if-depth-eq-DEEPEST.false, c.requires.depth) in
    let at = (goal.at.place_without-left-requires g t c).In-Node in
    let d = deeper g t at less c.requires.trie.0 c.requires.trie.1 c.requires.trie.2 in
    let P = part g.T.Ord.cmp (code_by g.T.Element.code_of c.args.bits) c.args.depth (digit_at c.args.code c.args.depth) c.requires.trie.0 in
    let alike = part-alike g.T.Ord.cmp (code_by g.T.Element.code_of c.args.bits) c.args.depth c.args.code c.requires.trie.0 in (
      omega (arith, c.decreases, less),
      (within.0, (within.1, (c.requires.bits, (omega (arith, less), (c.requires.few, (c.requires.graph, (c.requires.code, (P, d.m, d.below, linked g t at, omega (arith, c.requires.trie.4, d.is, alike))))))))),
    )

pub closed-requires-clause-row : goal.closed-requires-clause-row
closed-requires-clause-row g t c =
    let E = c.requires.trie.0 in
    let d = deeper g t (goal.at.closed-requires-clause-row g t c).In-Node (omega (arith, c.if-depth-eq-DEEPEST.false, c.requires.depth)) E c.requires.trie.1 c.requires.trie.2 in
    let P = part g.T.Ord.cmp (code_by g.T.Element.code_of c.args.bits) c.args.depth (digit_at c.args.code c.args.depth) E in
    let more = (c.place_without-left.ensures.builds P d.m d.below).extends in
    trie-row g.T.Ord.cmp (code_by g.T.Element.code_of c.args.bits) (form_at c.place_without-left.new.heap) d.m (c.args.depth + 1) c.in-Node.child P
    (trie-kept g.T.Ord.cmp (code_by g.T.Element.code_of c.args.bits) (form_at c.args.heap.now) (form_at c.place_without-left.new.heap) (forms-kept c.args.heap.now c.place_without-left.new.heap more) (suc d.m) (c.args.depth + 1) c.in-Node.child P d.below.trie)

pub closed-requires-clause-graph : goal.closed-requires-clause-graph
closed-requires-clause-graph g t c = (went g t (goal.at.closed-requires-clause-graph g t c).In-Node (omega (arith, c.if-depth-eq-DEEPEST.false, c.requires.depth)) c.place_without-left.new.heap c.place_without-left.result c.place_without-left.ensures.builds c.requires.trie.0 c.requires.trie.1 c.requires.trie.2).2.graph

pub closed-requires-clause-few : goal.closed-requires-clause-few
closed-requires-clause-few g t c =
    let did = went g t (goal.at.closed-requires-clause-few g t c).In-Node (omega (arith, c.if-depth-eq-DEEPEST.false, c.requires.depth)) c.place_without-left.new.heap c.place_without-left.result c.place_without-left.ensures.builds c.requires.trie.0 c.requires.trie.1 c.requires.trie.2 in
    omega (arith, c.requires.few, did.2.total, place-links c.place_without-left.result)

pub closed-requires-clause-spare : goal.closed-requires-clause-spare
closed-requires-clause-spare g t c =
    let did = went g t (goal.at.closed-requires-clause-spare g t c).In-Node (omega (arith, c.if-depth-eq-DEEPEST.false, c.requires.depth)) c.place_without-left.new.heap c.place_without-left.result c.place_without-left.ensures.builds c.requires.trie.0 c.requires.trie.1 c.requires.trie.2 in
    omega (arith, Builds-spare_nodes did.2, did.1, c.requires.trie.4)

pub closed-requires-clause-held : goal.closed-requires-clause-held
closed-requires-clause-held g t c = λ k.
    let did = went g t (goal.at.closed-requires-clause-held g t c).In-Node (omega (arith, c.if-depth-eq-DEEPEST.false, c.requires.depth)) c.place_without-left.new.heap c.place_without-left.result c.place_without-left.ensures.builds c.requires.trie.0 c.requires.trie.1 c.requires.trie.2 in
    omega (arith, did.2.holds k)

pub chain_place_without-requires-clause-chain : goal.chain_place_without-requires-clause-chain
chain_place_without-requires-clause-chain g t c =
    let at = (goal.at.chain_place_without-requires-clause-chain g t c).In-Node in
    let d = chain g t at c.if-depth-eq-DEEPEST.true c.requires.trie.0 c.requires.trie.1 c.requires.trie.2 in
    (part g.T.Ord.cmp (code_by g.T.Element.code_of c.args.bits) c.args.depth (digit_at c.args.code c.args.depth) c.requires.trie.0, d.1, linked g t at, omega (arith, d.2, c.requires.trie.4))

pub returns-else-depth-eq-DEEPEST-clause-builds : goal.returns-else-depth-eq-DEEPEST-clause-builds
returns-else-depth-eq-DEEPEST-clause-builds g t c = λ E left below.
    let did = went g t (goal.at.returns-else-depth-eq-DEEPEST-clause-builds g t c).In-Node (omega (arith, c.if-depth-eq-DEEPEST.false, c.requires.depth)) c.place_without-left.new.heap c.place_without-left.result c.place_without-left.ensures.builds E left below in
    Builds-more 0 (left + alike_in (code_by g.T.Element.code_of c.args.bits) c.args.code E) (Builds-then did.2 c.closed.ensures.builds) (omega arith) (omega (arith, did.1))

pub returns-else-depth-eq-DEEPEST-clause-place : goal.returns-else-depth-eq-DEEPEST-clause-place
returns-else-depth-eq-DEEPEST-clause-place g t c = λ E left below.
    let cmp = g.T.Ord.cmp in
    let code = code_by g.T.Element.code_of c.args.bits in
    let d = deeper g t (goal.at.returns-else-depth-eq-DEEPEST-clause-place g t c).In-Node (omega (arith, c.if-depth-eq-DEEPEST.false, c.requires.depth)) E left below in
    let P = part cmp code c.args.depth (digit_at c.args.code c.args.depth) E in
    let equal_codes = λ (j k : g.row.T.Denot) (e : cmp j k ≡ Equal). ap (λ n. masked_code n c.args.bits) (g.met.T.Element.equal_codes j k e) in
    let key = g.P.Probe.stands_for c.args.key.now in
    let first = form_at c.place_without-left.new.heap in
    let last = form_at c.closed.new.heap in
    let keeps = forms-kept c.place_without-left.new.heap c.closed.new.heap c.closed.ensures.builds.extends in
    let trie = trie-kept cmp code (form_at c.args.heap.now) first (forms-kept c.args.heap.now c.place_without-left.new.heap (c.place_without-left.ensures.builds P d.m d.below).extends) (suc d.m) (c.args.depth + 1) c.in-Node.child P d.below.trie in
    let next = c.digit-in-Node.ensures.read in
    let row = c.closed.ensures.place in
    let stands = place-kept cmp code first last keeps d.m (c.args.depth + 1 + 1) c.place_without-left.result (part cmp code (c.args.depth + 1) (digit_at c.args.code (c.args.depth + 1)) (others cmp key P)) (c.place_without-left.ensures.place P d.m d.below) in
    let places = left-places cmp code equal_codes first last (c.args.depth + 1) d.m c.in-Node.child c.args.code P key row.entries row.nodes row.links c.place_without-left.result keeps c.requires.code trie
    (sym (ap (place_of row.entries row.nodes row.links) next) ∙ row.edits.here) stands
    (λ depth entries nodes links was p small other. row.edits.others depth entries nodes links was p small (λ is. other (is ∙ next))) in
    let whole = left-stands cmp code equal_codes c.closed.new.heap (c.args.depth + 1) d.m P key row.entries row.nodes row.links c.closed.result d.below.distinct d.two row.edits.sets places row.closes in
    subst (λ m. IsPlace last (λ k Q. IsTrie cmp code last m (c.args.depth + 1) k Q) c.closed.result (part cmp code c.args.depth (digit_at c.args.code c.args.depth) (others cmp key E))) (sym d.is)
    (subst (IsPlace last (λ k Q. IsTrie cmp code last (suc d.m) (c.args.depth + 1) k Q) c.closed.result) (sym (part-others cmp code c.args.depth (digit_at c.args.code c.args.depth) key E)) whole)

pub returns-then-depth-eq-DEEPEST-clause-builds : goal.returns-then-depth-eq-DEEPEST-clause-builds
returns-then-depth-eq-DEEPEST-clause-builds g t c = λ E left below.
    let d = chain g t (goal.at.returns-then-depth-eq-DEEPEST-clause-builds g t c).In-Node c.if-depth-eq-DEEPEST.true E left below in
    Builds-more 0 (left + alike_in (code_by g.T.Element.code_of c.args.bits) c.args.code E) (c.chain_place_without.ensures.builds (part g.T.Ord.cmp (code_by g.T.Element.code_of c.args.bits) c.args.depth (digit_at c.args.code c.args.depth) E) d.1) (omega arith) (omega (arith, d.2))

pub returns-then-depth-eq-DEEPEST-clause-place : goal.returns-then-depth-eq-DEEPEST-clause-place
returns-then-depth-eq-DEEPEST-clause-place g t c = λ E left below.
    let cmp = g.T.Ord.cmp in
    let d = chain g t (goal.at.returns-then-depth-eq-DEEPEST-clause-place g t c).In-Node c.if-depth-eq-DEEPEST.true E left below in
    let p = digit_at c.args.code c.args.depth in
    let key = g.P.Probe.stands_for c.args.key.now in
    let new = form_at c.chain_place_without.new.heap in
    chain-place cmp (code_by g.T.Element.code_of c.args.bits) new left (c.args.depth + 1) c.chain_place_without.result (part cmp (code_by g.T.Element.code_of c.args.bits) c.args.depth p (others cmp key E)) d.0
    (subst (IsPlace new (λ k Q. IsChain cmp new k Q) c.chain_place_without.result) (sym (part-others cmp (code_by g.T.Element.code_of c.args.bits) c.args.depth p key E)) (c.chain_place_without.ensures.place (part cmp (code_by g.T.Element.code_of c.args.bits) c.args.depth p E) d.1))

pub returns-in-Empty-clause-builds : goal.returns-in-Empty-clause-builds
returns-in-Empty-clause-builds g t c = λ E left below. Builds-refl c.args.heap.now [] 0 (left + alike_in (code_by g.T.Element.code_of c.args.bits) c.args.code E) c.requires.graph

pub returns-in-Empty-clause-place : goal.returns-in-Empty-clause-place
returns-in-Empty-clause-place g t c = λ E left below.
    none-left g.T.Ord.cmp (code_by g.T.Element.code_of c.args.bits) (form_at c.args.heap.now) c.requires.trie.1 c.args.depth c.args.link c.args.code c.requires.trie.0 c.requires.trie.2 (omega arith) (g.P.Probe.stands_for c.args.key.now) c.place_at.result c.requires.code (λ j k e. ap (λ n. masked_code n c.args.bits) (g.met.T.Element.equal_codes j k e)) c.requires.trie.3
    (λ depth e n ls row. c.place_at.ensures.place depth e n ls row ∙ ap (place_of e n ls) c.digit.ensures.read) (inl c.in-Empty.is) left E below

pub returns-in-Entry-clause-builds : goal.returns-in-Entry-clause-builds
returns-in-Entry-clause-builds g t c = λ E left below. Builds-refl c.args.heap.now [] 0 (left + alike_in (code_by g.T.Element.code_of c.args.bits) c.args.code E) c.requires.graph

pub returns-in-Entry-clause-place : goal.returns-in-Entry-clause-place
returns-in-Entry-clause-place g t c = λ E left below.
    none-left g.T.Ord.cmp (code_by g.T.Element.code_of c.args.bits) (form_at c.args.heap.now) c.requires.trie.1 c.args.depth c.args.link c.args.code c.requires.trie.0 c.requires.trie.2 (omega arith) (g.P.Probe.stands_for c.args.key.now) c.place_at.result c.requires.code (λ j k e. ap (λ n. masked_code n c.args.bits) (g.met.T.Element.equal_codes j k e)) c.requires.trie.3
    (λ depth e n ls row. c.place_at.ensures.place depth e n ls row ∙ ap (place_of e n ls) c.digit.ensures.read) (inr (c.in-Entry.field-0, c.in-Entry.is)) left E below

pub returns-then-depth-eq-DEEPEST-clause-shares : goal.returns-then-depth-eq-DEEPEST-clause-shares
returns-then-depth-eq-DEEPEST-clause-shares g t c = λ E left e n ls j k below row was is.
    let d = chain g t (goal.at.returns-then-depth-eq-DEEPEST-clause-shares g t c).In-Node c.if-depth-eq-DEEPEST.true E left below in
    shares-none (form_at c.args.heap.now) (form_at c.chain_place_without.new.heap) c.args.code left (c.args.depth + 1) j k d.0

pub returns-in-Empty-clause-shares : goal.returns-in-Empty-clause-shares
returns-in-Empty-clause-shares g t c = λ E left e n ls j k below row was is. cc

pub returns-in-Entry-clause-shares : goal.returns-in-Entry-clause-shares
returns-in-Entry-clause-shares g t c = λ E left e n ls j k below row was is. cc

pub returns-else-depth-eq-DEEPEST-clause-shares : goal.returns-else-depth-eq-DEEPEST-clause-shares
returns-else-depth-eq-DEEPEST-clause-shares g t c = λ E left e n ls j k below row was is.
    let cmp = g.T.Ord.cmp in
    let code = code_by g.T.Element.code_of c.args.bits in
    let d = deeper g t (goal.at.returns-else-depth-eq-DEEPEST-clause-shares g t c).In-Node (omega (arith, c.if-depth-eq-DEEPEST.false, c.requires.depth)) E left below in
    let P = part cmp code c.args.depth (digit_at c.args.code c.args.depth) E in
    let F = form_at c.args.heap.now in
    let M = form_at c.place_without-left.new.heap in
    let G = form_at c.closed.new.heap in
    let first = forms-kept c.args.heap.now c.place_without-left.new.heap (c.place_without-left.ensures.builds P d.m d.below).extends in
    let later = forms-kept c.place_without-left.new.heap c.closed.new.heap c.closed.ensures.builds.extends in
    let old = row-at cmp code F d.m (c.args.depth + 1) c.in-Node.child P d.below.trie in
    let next = c.digit-in-Node.ensures.read in
    let new = c.closed.ensures.place in
    let here = sym (ap (place_of new.entries new.nodes new.links) next) ∙ new.edits.here in
    let closed = closes-row c.closed.new.heap new.entries new.nodes new.links (c.args.depth + 1) c.closed.result k new.closes is in
    let child = same-node c.in-Node.child j (c.in-Node.ensures.place c.args.depth e n ls row ∙ ap (place_of e n ls) c.digit.ensures.read ∙ was) in
    subst (λ i. SharesBeside F G c.args.code left (c.args.depth + 1) i k) child
    (subst (λ m. SharesBeside F G c.args.code m (c.args.depth + 1) c.in-Node.child k) (sym d.is)
    (shares-row F G c.args.code d.m (c.args.depth + 1) c.in-Node.child k old.0 old.1 old.2 new.entries new.nodes new.links old.3 closed
    (λ q low other. new.edits.others (c.args.depth + 1) old.0 old.1 old.2 (row-kept cmp code F M first c.in-Node.child (c.args.depth + 1) old.0 old.1 old.2 old.3) q low (λ same. other (same ∙ next)))
    (λ i m at there. shares-kept F F M G (record { kept = λ l f is. is }) later c.args.code d.m (c.args.depth + 1 + 1) i m (c.place_without-left.ensures.shares P d.m old.0 old.1 old.2 i m d.below old.3 at (sym here ∙ there)))))
