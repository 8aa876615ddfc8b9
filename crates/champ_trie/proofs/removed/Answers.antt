use Rattle.std.proofs.Common.{arith, ◌≡◌, ◌+◌, ◌∙◌, sym, ap, List, [], subst}
use Rattle.std.specs.declared.cmp.Ordering.TheVariants.{Equal}
use Rattle.elem_core.specs.Codes.{digit_at, masked_code}
use Rattle.elem_core.specs.declared.codes.TheConstants.{DEEPEST, LEVELS}
use Rattle.node_heap.specs.Heap.{form_at}
use Rattle.node_heap.specs.Calls.{Builds}
use Rattle.node_heap.proofs.Frames.{Extends-trans}
use Rattle.node_heap.proofs.BuildLemmas.{Builds-more, Builds-then, Builds-spare_nodes}
use Rattle.champ_chain.specs.Entry.{Entry, others}
use Rattle.champ_chain.proofs.FrameLemmas.{forms-kept}
use Rattle.champ_trie.specs.Trie.{IsCanon, part, place_of, links_at_place, code_by}
use Rattle.champ_trie.specs.Reach.{alike_in, alike_to}
use Rattle.champ_trie.proofs.PartLemmas.{others-distinct, row-kept, trie-kept, place-kept, row-trie}
use Rattle.champ_trie.proofs.ReachLemmas.{trie-row}
use Rattle.champ_trie.specs.Edit.{SharesBeside}
use Rattle.champ_trie.proofs.ShareLemmas.{shares-kept, shares-row, row-at}
use Rattle.champ_trie.proofs.LeftLemmas.{canon-below, left-places, place-links, KeepsTries-Extends}
use Rattle.champ_trie.proofs.removed.Given as given
use Rattle.champ_trie.proofs.removed.Goals as goal
use Rattle.champ_trie.proofs.removed.Goals.{After-place_without-left}

-- what taking the key out below the root did
went : (g : given.Over) (c : After-place_without-left g) (E : List (Entry g.row.T.Denot)) → IsCanon g.T.Ord.cmp (code_by g.T.Element.code_of c.args.bits) (form_at c.args.heap.now) c.args.root E
    → Builds c.args.heap.now c.place_without-left.new.heap [] (links_at_place c.place_without-left.result) 0 (DEEPEST + alike_to g.T.Element.code_of c.args.bits (g.P.Probe.stands_for c.args.key.now) E)
went g c E canon =
    let is_code = c.masked-code.ensures.kept ∙ ap (λ n. masked_code n c.args.bits) c.code.ensures in
    Builds-more 0 (DEEPEST + alike_to g.T.Element.code_of c.args.bits (g.P.Probe.stands_for c.args.key.now) E)
    (c.place_without-left.ensures.builds E DEEPEST (canon-below g.T.Ord.cmp (code_by g.T.Element.code_of c.args.bits) (form_at c.args.heap.now) c.args.root c.masked-code.result E canon)) (omega arith) (omega (arith, ap (λ n. alike_in (code_by g.T.Element.code_of c.args.bits) n E) is_code))

pub place_without-left-requires-clause-trie : goal.place_without-left-requires-clause-trie
place_without-left-requires-clause-trie g c =
    let trie = c.requires.trie in
    let is_code = c.masked-code.ensures.kept ∙ ap (λ n. masked_code n c.args.bits) c.code.ensures in
    (trie.0, DEEPEST, canon-below g.T.Ord.cmp (code_by g.T.Element.code_of c.args.bits) (form_at c.args.heap.now) c.args.root c.masked-code.result trie.0 trie.1, trie.2, omega (arith, trie.3, ap (λ n. alike_in (code_by g.T.Element.code_of c.args.bits) n trie.0) is_code))

pub edited-requires-clause-row : goal.edited-requires-clause-row
edited-requires-clause-row g c =
    let trie = c.requires.trie in
    let more = (went g (goal.at.edited-requires-clause-row g c).After-place_without-left trie.0 trie.1).extends in
    trie-row g.T.Ord.cmp (code_by g.T.Element.code_of c.args.bits) (form_at c.place_without-left.new.heap) DEEPEST 0 c.args.root trie.0
    (trie-kept g.T.Ord.cmp (code_by g.T.Element.code_of c.args.bits) (form_at c.args.heap.now) (form_at c.place_without-left.new.heap) (forms-kept c.args.heap.now c.place_without-left.new.heap more) LEVELS 0 c.args.root trie.0 trie.1.trie)

pub edited-requires-clause-graph : goal.edited-requires-clause-graph
edited-requires-clause-graph g c = (went g (goal.at.edited-requires-clause-graph g c).After-place_without-left c.requires.trie.0 c.requires.trie.1).graph

pub edited-requires-clause-few : goal.edited-requires-clause-few
edited-requires-clause-few g c =
    let did = went g (goal.at.edited-requires-clause-few g c).After-place_without-left c.requires.trie.0 c.requires.trie.1 in
    omega (arith, c.requires.few, did.total, place-links c.place_without-left.result)

pub edited-requires-clause-spare : goal.edited-requires-clause-spare
edited-requires-clause-spare g c =
    let did = went g (goal.at.edited-requires-clause-spare g c).After-place_without-left c.requires.trie.0 c.requires.trie.1 in
    omega (arith, Builds-spare_nodes did, c.requires.trie.3)

pub edited-requires-clause-held : goal.edited-requires-clause-held
edited-requires-clause-held g c = λ k.
    let did = went g (goal.at.edited-requires-clause-held g c).After-place_without-left c.requires.trie.0 c.requires.trie.1 in
    omega (arith, did.holds k)

pub returns-clause-builds : goal.returns-clause-builds
returns-clause-builds g c = λ E canon.
    let did = went g (goal.at.returns-clause-builds g c).After-place_without-left E canon in
    Builds-more 0 (LEVELS + alike_to g.T.Element.code_of c.args.bits (g.P.Probe.stands_for c.args.key.now) E) (Builds-then did c.edited.ensures.builds) (omega arith) (omega arith)

pub returns-clause-entries : goal.returns-clause-entries
returns-clause-entries g c = λ E canon.
    let cmp = g.T.Ord.cmp in
    let code = (code_by g.T.Element.code_of c.args.bits) in
    let key = g.P.Probe.stands_for c.args.key.now in
    let is_code = c.masked-code.ensures.kept ∙ ap (λ n. masked_code n c.args.bits) c.code.ensures in
    let equal_codes = λ (j k : g.row.T.Denot) (e : cmp j k ≡ Equal). ap (λ n. masked_code n c.args.bits) (g.met.T.Element.equal_codes j k e) in
    let did = went g (goal.at.returns-clause-entries g c).After-place_without-left E canon in
    let first = form_at c.place_without-left.new.heap in
    let last = form_at c.edited.new.heap in
    let later = forms-kept c.place_without-left.new.heap c.edited.new.heap c.edited.ensures.builds.extends in
    let below = canon-below cmp code (form_at c.args.heap.now) c.args.root c.masked-code.result E canon in
    let trie = trie-kept cmp code (form_at c.args.heap.now) first (forms-kept c.args.heap.now c.place_without-left.new.heap did.extends) LEVELS 0 c.args.root E below.trie in
    let read = c.digit.ensures.read in
    let row = c.edited.ensures.row in
    let stands = place-kept cmp code first last later DEEPEST 1 c.place_without-left.result (part cmp code 0 (digit_at c.masked-code.result 0) (others cmp key E)) (c.place_without-left.ensures.place E DEEPEST below) in
    let places = left-places cmp code equal_codes first last 0 DEEPEST c.args.root c.masked-code.result E key row.entries row.nodes row.links c.place_without-left.result later is_code trie
    (sym (ap (place_of row.entries row.nodes row.links) read) ∙ row.edits.here) stands
    (λ depth entries nodes links was p small other. row.edits.others depth entries nodes links was p small (λ is. other (is ∙ read))) in
    record { trie = row-trie cmp code last DEEPEST 0 c.edited.result row.entries row.nodes row.links (others cmp key E) row.row places; distinct = others-distinct cmp code key E canon.distinct }

pub returns-clause-tries : goal.returns-clause-tries
returns-clause-tries g c =
    let did = went g (goal.at.returns-clause-tries g c).After-place_without-left c.requires.trie.0 c.requires.trie.1 in
    KeepsTries-Extends c.args.heap.now c.edited.new.heap (Extends-trans did.extends c.edited.ensures.builds.extends)

pub returns-clause-shares : goal.returns-clause-shares
returns-clause-shares g c = λ E canon.
    let cmp = g.T.Ord.cmp in
    let code = (code_by g.T.Element.code_of c.args.bits) in
    let is_code = c.masked-code.ensures.kept ∙ ap (λ n. masked_code n c.args.bits) c.code.ensures in
    let F = form_at c.args.heap.now in
    let M = form_at c.place_without-left.new.heap in
    let G = form_at c.edited.new.heap in
    let first = forms-kept c.args.heap.now c.place_without-left.new.heap (went g (goal.at.returns-clause-shares g c).After-place_without-left E canon).extends in
    let later = forms-kept c.place_without-left.new.heap c.edited.new.heap c.edited.ensures.builds.extends in
    let below = canon-below cmp code F c.args.root c.masked-code.result E canon in
    let old = row-at cmp code F DEEPEST 0 c.args.root E below.trie in
    let read = c.digit.ensures.read in
    let row = c.edited.ensures.row in
    let here = sym (ap (place_of row.entries row.nodes row.links) read) ∙ row.edits.here in
    subst (λ n. SharesBeside F G n LEVELS 0 c.args.root c.edited.result) is_code
    (shares-row F G c.masked-code.result DEEPEST 0 c.args.root c.edited.result old.0 old.1 old.2 row.entries row.nodes row.links old.3 row.row
    (λ q low other. row.edits.others 0 old.0 old.1 old.2 (row-kept cmp code F M first c.args.root 0 old.0 old.1 old.2 old.3) q low (λ same. other (same ∙ read)))
    (λ j k was is. shares-kept F F M G (record { kept = λ l f is. is }) later c.masked-code.result DEEPEST 1 j k (c.place_without-left.ensures.shares E DEEPEST old.0 old.1 old.2 j k below old.3 was (sym here ∙ is))))
