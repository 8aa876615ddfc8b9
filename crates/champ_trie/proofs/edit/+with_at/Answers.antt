use Rattle.std.proofs.Common.{arith, ◌≡◌, ℕ, suc, ◌+◌, ◌<◌, ◌^◌, ◌∷◌, [], ◌∙◌, sym, ap, subst, refl, length, List}
use Rattle.elem_core.specs.Codes.{digit_at, masked_code}
use Rattle.node_heap.specs.Heap.{form_at}
use Rattle.node_heap.specs.Calls.{Builds}
use Rattle.node_heap.proofs.BuildLemmas.{Builds-more, Builds-then, Builds-spare_nodes}
use Rattle.elem_core.specs.declared.codes.TheConstants.{CODE_BITS}
use Rattle.elem_core.proofs.CodeLemmas.{masked-small}
use Rattle.champ_chain.specs.Entry.{Entry}
use Rattle.champ_chain.proofs.WithLemmas.{key-some}
use Rattle.champ_chain.specs.Entry.{entry, put}
use Rattle.champ_chain.specs.Chain.{IsChain}
use Rattle.champ_chain.proofs.CopyLemmas.{held-one}
use Rattle.champ_chain.proofs.FrameLemmas.{forms-kept}
use Rattle.champ_chain.proofs.SpotLemmas.{same-key}
use Rattle.champ_trie.specs.Trie.{IsTrie, place_of, links_at_place, part, code_by}
use Rattle.champ_trie.specs.Reach.{alike_in}
use Rattle.champ_trie.specs.Edit.{IsBelow, SharesBeside}
use Rattle.champ_trie.proofs.ShareLemmas.{shares-kept, shares-none, shares-row, row-at}
use Rattle.champ_trie.proofs.ReachLemmas.{trie-row}
use Rattle.champ_trie.proofs.PartLemmas.{row-kept, trie-kept, below-part, part-alike}
use Rattle.champ_trie.proofs.LeftLemmas.{place-links}
use Rattle.champ_trie.proofs.WithLemmas.{IsPlaced, placed-first, placed-beside, placed-below, alone, below-more, below-chain, chain-trie, with-trie}
use Rattle.champ_trie.proofs.edit.+with_at.Given as given
use Rattle.champ_trie.proofs.edit.+with_at.Goals as goal
use Rattle.champ_trie.proofs.edit.+with_at.Goals.{Joined-place_at, Then-depth-gt-DEEPEST, in-Empty, in-Entry, in-Node}

-- the arms in one: the entry stands at its digit's position
placed : (g : given.Over) (t : ℕ) (c : Joined-place_at g t)
    → IsPlaced g.T.Ord.cmp (code_by g.T.Element.code_of c.args.bits) c.args.heap.now c.match-place_at.heap c.args.depth c.args.link c.args.entry c.args.code c.match-place_at.place
placed g t c =
    let old = c.args.heap.now in
    let cmp = g.T.Ord.cmp in
    let code = code_by g.T.Element.code_of c.args.bits in
    let read = c.digit-position.ensures.read in
    let low = subst (λ p. p < 32) read c.digit-position.ensures.small in
    elim c.match-place_at.branch [
      | in-Empty w ↦
          subst (λ h. IsPlaced cmp code old h c.args.depth c.args.link c.args.entry c.args.code c.match-place_at.place) (sym w.heap-is)
          (subst (IsPlaced cmp code old old c.args.depth c.args.link c.args.entry c.args.code) (sym w.place-is)
          (placed-first cmp code old c.args.depth c.args.link c.args.entry c.args.code low c.requires.graph (λ d e n ls row. w.in-Empty.ensures.place d e n ls row ∙ ap (place_of e n ls) read)))
      | in-Entry w ↦
          subst (λ h. IsPlaced cmp code old h c.args.depth c.args.link c.args.entry c.args.code c.match-place_at.place) (sym w.heap-is)
          (subst (IsPlaced cmp code old w.beside-place.new.heap c.args.depth c.args.link c.args.entry c.args.code) (sym w.place-is)
          (placed-beside cmp code old c.args.depth c.args.link c.args.entry c.args.code low w.in-Entry.old (λ d e n ls row. w.in-Entry.ensures.place d e n ls row ∙ ap (place_of e n ls) read) w.beside-place.new.heap w.beside-place.result
          w.beside-place.ensures.builds w.beside-place.ensures.place))
      | in-Node w ↦
          subst (λ h. IsPlaced cmp code old h c.args.depth c.args.link c.args.entry c.args.code c.match-place_at.place) (sym w.heap-is)
          (subst (IsPlaced cmp code old w.with_at.new.heap c.args.depth c.args.link c.args.entry c.args.code) (sym w.place-is)
          (placed-below cmp code old c.args.depth c.args.link c.args.entry c.args.code low w.in-Node.child (λ d e n ls row. w.in-Node.ensures.place d e n ls row ∙ ap (place_of e n ls) read) w.with_at.new.heap w.with_at.result
          w.with_at.ensures.builds w.with_at.ensures.trie w.with_at.ensures.shares))
    ]

-- where no row is left it is the chain of the entries with the code
chain-there : (g : given.Over) (t : ℕ) (c : Then-depth-gt-DEEPEST g t) (E : List (Entry g.row.T.Denot)) (left : ℕ)
    → IsBelow g.T.Ord.cmp (code_by g.T.Element.code_of c.args.bits) (form_at c.args.heap.now) c.args.depth c.args.link E left c.args.code
    → (left ≡ 0) × IsChain g.T.Ord.cmp (form_at c.args.heap.now) c.args.link E × (length E ≡ alike_in (code_by g.T.Element.code_of c.args.bits) c.args.code E)
chain-there g t c E left below =
    let low : c.args.code < 2 ^ CODE_BITS = omega arith in
    below-chain g.T.Ord.cmp (code_by g.T.Element.code_of c.args.bits) (form_at c.args.heap.now) c.args.depth c.args.link c.args.code left E below c.if-depth-gt-DEEPEST.true low
    (λ k. masked-small (g.T.Element.code_of k) c.args.bits c.requires.bits)

pub added-requires-clause-keyed : goal.added-requires-clause-keyed
added-requires-clause-keyed g t c = key-some c.args.heap.now c.args.entry c.requires.key.0 c.requires.key.1

pub added-requires-clause-chain : goal.added-requires-clause-chain
added-requires-clause-chain g t c =
    let trie = c.requires.trie in
    let chain = chain-there g t (goal.at.added-requires-clause-chain g t c).Then-depth-gt-DEEPEST trie.0 trie.1 trie.2 in
    (trie.0, chain.1, omega (arith, trie.3, chain.0, chain.2))

pub returns-then-depth-gt-DEEPEST-clause-builds : goal.returns-then-depth-gt-DEEPEST-clause-builds
returns-then-depth-gt-DEEPEST-clause-builds g t c = λ E left below.
    let chain = chain-there g t (goal.at.returns-then-depth-gt-DEEPEST-clause-builds g t c).Then-depth-gt-DEEPEST E left below in
    Builds-more 0 (left + 1 + alike_in (code_by g.T.Element.code_of c.args.bits) c.args.code E) (c.added.ensures.builds E chain.1) (omega arith) (omega (arith, chain.2))

pub returns-then-depth-gt-DEEPEST-clause-trie : goal.returns-then-depth-gt-DEEPEST-clause-trie
returns-then-depth-gt-DEEPEST-clause-trie g t c = λ E left k below keyed.
    let chain = chain-there g t (goal.at.returns-then-depth-gt-DEEPEST-clause-trie g t c).Then-depth-gt-DEEPEST E left below in
    chain-trie g.T.Ord.cmp (code_by g.T.Element.code_of c.args.bits) (form_at c.added.new.heap) left c.args.depth c.added.result (put g.T.Ord.cmp E (entry k c.args.entry)) chain.0 (c.added.ensures.chained E k chain.1 keyed)

pub place_at-requires-clause-row : goal.place_at-requires-clause-row
place_at-requires-clause-row g t c =
    let code = code_by g.T.Element.code_of c.args.bits in
    let trie = c.requires.trie in
    let more = below-more g.T.Ord.cmp code (form_at c.args.heap.now) c.args.depth c.args.link c.args.code trie.1 trie.0 trie.2 c.if-depth-gt-DEEPEST.false in
    trie-row g.T.Ord.cmp code (form_at c.args.heap.now) more.0 c.args.depth c.args.link trie.0 more.2.trie

pub beside-place-requires-clause-old : goal.beside-place-requires-clause-old
beside-place-requires-clause-old g t c =
    let code = code_by g.T.Element.code_of c.args.bits in
    let trie = c.requires.trie in
    let more = below-more g.T.Ord.cmp code (form_at c.args.heap.now) c.args.depth c.args.link c.args.code trie.1 trie.0 trie.2 c.if-depth-gt-DEEPEST.false in
    let read = c.digit-position.ensures.read in
    let low = subst (λ p. p < 32) read c.digit-position.ensures.small in
    let at = alone g.T.Ord.cmp code c.args.heap.now c.args.depth c.args.link c.args.entry c.args.code low c.in-Entry.old (λ d e n ls row. c.in-Entry.ensures.place d e n ls row ∙ ap (place_of e n ls) read) trie.0 more.0 more.2 in
    (at.key, at.keyed, at.agrees, omega (arith, at.few, trie.3, more.1))

pub with_at-requires : goal.with_at-requires
with_at-requires g t c κs within =
    let code = code_by g.T.Element.code_of c.args.bits in
    let trie = c.requires.trie in
    let more = below-more g.T.Ord.cmp code (form_at c.args.heap.now) c.args.depth c.args.link c.args.code trie.1 trie.0 trie.2 c.if-depth-gt-DEEPEST.false in
    let read = c.digit-position.ensures.read in
    let low = subst (λ p. p < 32) read c.digit-position.ensures.small in
    let down = below-part g.T.Ord.cmp code (form_at c.args.heap.now) more.0 c.args.depth c.args.link c.args.code c.in-Node.child trie.0 more.2 (λ d e n ls row. c.in-Node.ensures.place d e n ls row ∙ ap (place_of e n ls) read) low in (
      omega (arith, c.decreases, c.if-depth-gt-DEEPEST.false),
      (
        within,
        (
          c.requires.bits,
          (
            c.requires.few,
            (
              c.requires.graph,
              (
                c.requires.held,
                (c.requires.key, (part g.T.Ord.cmp code c.args.depth (digit_at c.args.code c.args.depth) trie.0, more.0, down, omega (arith, part-alike g.T.Ord.cmp code c.args.depth c.args.code trie.0, trie.3, more.1))),
              ),
            ),
          ),
        ),
      ),
    )

-- what the arms did
grown : (g : given.Over) (t : ℕ) (c : Joined-place_at g t)
    → (rest : ℕ) × (c.requires.trie.1 ≡ suc rest) × IsBelow g.T.Ord.cmp (code_by g.T.Element.code_of c.args.bits) (form_at c.args.heap.now) c.args.depth c.args.link c.requires.trie.0 (suc rest) c.args.code
    × Builds c.args.heap.now c.match-place_at.heap (c.args.entry ∷ []) (links_at_place c.match-place_at.place) 0 (rest + 1 + alike_in (code_by g.T.Element.code_of c.args.bits) c.args.code c.requires.trie.0)
grown g t c =
    let code = code_by g.T.Element.code_of c.args.bits in
    let trie = c.requires.trie in
    let more = below-more g.T.Ord.cmp code (form_at c.args.heap.now) c.args.depth c.args.link c.args.code trie.1 trie.0 trie.2 c.if-depth-gt-DEEPEST.false in
    (more.0, more.1, more.2, (placed g t c).builds trie.0 more.0 more.2)

pub edited-requires-clause-row : goal.edited-requires-clause-row
edited-requires-clause-row g t c =
    let code = code_by g.T.Element.code_of c.args.bits in
    let did = grown g t (goal.at.edited-requires-clause-row g t c).Joined-place_at in
    let row = trie-row g.T.Ord.cmp code (form_at c.args.heap.now) did.0 c.args.depth c.args.link c.requires.trie.0 did.2.trie in
    let keeps = forms-kept c.args.heap.now c.match-place_at.heap did.3.extends in
    (row.0, row.1, row.2, row.3, row-kept g.T.Ord.cmp code (form_at c.args.heap.now) (form_at c.match-place_at.heap) keeps c.args.link row.0 row.1 row.2 row.3 row.4)

pub edited-requires-clause-graph : goal.edited-requires-clause-graph
edited-requires-clause-graph g t c = (grown g t (goal.at.edited-requires-clause-graph g t c).Joined-place_at).3.graph

pub edited-requires-clause-few : goal.edited-requires-clause-few
edited-requires-clause-few g t c =
    let did = grown g t (goal.at.edited-requires-clause-few g t c).Joined-place_at in
    omega (arith, did.3.total, place-links c.match-place_at.place, c.requires.few)

pub edited-requires-clause-spare : goal.edited-requires-clause-spare
edited-requires-clause-spare g t c =
    let did = grown g t (goal.at.edited-requires-clause-spare g t c).Joined-place_at in
    omega (arith, Builds-spare_nodes did.3, did.1, c.requires.trie.3)

pub edited-requires-clause-held : goal.edited-requires-clause-held
edited-requires-clause-held g t c = λ k.
    let did = grown g t (goal.at.edited-requires-clause-held g t c).Joined-place_at in
    omega (arith, did.3.holds k, held-one c.args.heap.now c.args.entry k c.requires.held)

pub returns-clause-builds : goal.returns-clause-builds
returns-clause-builds g t c = λ E left below.
    let code = code_by g.T.Element.code_of c.args.bits in
    let more = below-more g.T.Ord.cmp code (form_at c.args.heap.now) c.args.depth c.args.link c.args.code left E below c.if-depth-gt-DEEPEST.false in
    let first = (placed g t (goal.at.returns-clause-builds g t c).Joined-place_at).builds E more.0 more.2 in
    Builds-more 0 (left + 1 + alike_in code c.args.code E) (Builds-then first c.edited.ensures.builds) (omega arith) (omega (arith, more.1))

pub returns-clause-trie : goal.returns-clause-trie
returns-clause-trie g t c = λ E left k below keyed.
    let code = code_by g.T.Element.code_of c.args.bits in
    let F = form_at c.args.heap.now in
    let M = form_at c.match-place_at.heap in
    let G = form_at c.edited.new.heap in
    let more = below-more g.T.Ord.cmp code F c.args.depth c.args.link c.args.code left E below c.if-depth-gt-DEEPEST.false in
    let at = placed g t (goal.at.returns-clause-trie g t c).Joined-place_at in
    let first = at.builds E more.0 more.2 in
    let trie = trie-kept g.T.Ord.cmp code F M (forms-kept c.args.heap.now c.match-place_at.heap first.extends) (suc more.0) c.args.depth c.args.link E more.2.trie in
    let keeps = forms-kept c.match-place_at.heap c.edited.new.heap c.edited.ensures.builds.extends in
    let given = same-key F c.args.entry c.args.entry c.requires.key.0 k refl c.requires.key.1 keyed in
    let read = c.digit-position.ensures.read in
    let row = c.edited.ensures.row in
    let here = sym (ap (place_of row.entries row.nodes row.links) read) ∙ row.edits.here in
    subst (λ n. IsTrie g.T.Ord.cmp code G n c.args.depth c.edited.result (put g.T.Ord.cmp E (entry k c.args.entry))) (sym more.1)
    (with-trie g.T.Ord.cmp code M G keeps more.0 c.args.depth c.args.link c.args.code c.edited.result row.entries row.nodes row.links E k c.args.entry c.match-place_at.place trie
    (λ i j e. ap (λ n. masked_code n c.args.bits) (g.met.T.Element.equal_codes i j e)) (c.requires.key.2 ∙ ap code given) row.row here
    (λ d e n ls was q low other. row.edits.others d e n ls was q low (λ same. other (same ∙ read))) (at.stands E more.0 k more.2 keyed))

pub returns-then-depth-gt-DEEPEST-clause-shares : goal.returns-then-depth-gt-DEEPEST-clause-shares
returns-then-depth-gt-DEEPEST-clause-shares g t c = λ E left below.
    let chain = chain-there g t (goal.at.returns-then-depth-gt-DEEPEST-clause-shares g t c).Then-depth-gt-DEEPEST E left below in
    shares-none (form_at c.args.heap.now) (form_at c.added.new.heap) c.args.code left c.args.depth c.args.link c.added.result chain.0

pub returns-clause-shares : goal.returns-clause-shares
returns-clause-shares g t c = λ E left below.
    let code = code_by g.T.Element.code_of c.args.bits in
    let F = form_at c.args.heap.now in
    let M = form_at c.match-place_at.heap in
    let G = form_at c.edited.new.heap in
    let more = below-more g.T.Ord.cmp code F c.args.depth c.args.link c.args.code left E below c.if-depth-gt-DEEPEST.false in
    let at = placed g t (goal.at.returns-clause-shares g t c).Joined-place_at in
    let first = forms-kept c.args.heap.now c.match-place_at.heap (at.builds E more.0 more.2).extends in
    let later = forms-kept c.match-place_at.heap c.edited.new.heap c.edited.ensures.builds.extends in
    let old = row-at g.T.Ord.cmp code F more.0 c.args.depth c.args.link E more.2.trie in
    let read = c.digit-position.ensures.read in
    let row = c.edited.ensures.row in
    let here = sym (ap (place_of row.entries row.nodes row.links) read) ∙ row.edits.here in
    subst (λ n. SharesBeside F G c.args.code n c.args.depth c.args.link c.edited.result) (sym more.1)
    (shares-row F G c.args.code more.0 c.args.depth c.args.link c.edited.result old.0 old.1 old.2 row.entries row.nodes row.links old.3 row.row
    (λ q low other. row.edits.others c.args.depth old.0 old.1 old.2 (row-kept g.T.Ord.cmp code F M first c.args.link c.args.depth old.0 old.1 old.2 old.3) q low (λ same. other (same ∙ read)))
    (λ j k was is. shares-kept F F M G (record { kept = λ l f is. is }) later c.args.code more.0 (c.args.depth + 1) j k (at.shares E more.0 old.0 old.1 old.2 j k more.2 old.3 was (sym here ∙ is))))
