use Rattle.std.proofs.Common.{arith, ◌∙◌, sym, ap}
use Rattle.std.specs.Option.{is_some}
use Rattle.std.proofs.lemmas.Bool.{true≢false}
use Rattle.node_heap.proofs.BuildLemmas.{Builds-Answered, Builds-MakesJust}
use Rattle.champ_chain.proofs.WithLemmas.{not-ok}
use Rattle.champ_trie.specs.Trie.{code_by}
use Rattle.node_heap.specs.Heap.{form_at}
use Rattle.elem_core.specs.declared.codes.TheConstants.{LEVELS}
use Rattle.champ_chain.proofs.FrameLemmas.{forms-same}
use Rattle.champ_trie.proofs.ShareLemmas.{shares-kept}
use Rattle.champ_trie.proofs.LeftLemmas.{KeepsTries-same}
use Rattle.node_heap.proofs.RoomLemmas.{KeepsToNeed-refl, KeepsToNeed-more, Builds-KeepsToNeed}
use Rattle.champ_trie.proofs.without.Goals as goal

pub returns-in_err-reserve-clause-ample : goal.returns-in_err-reserve-clause-ample
returns-in_err-reserve-clause-ample g c = λ E canon spares.
    absurd (not-ok c.reserve.result _ c.in_err-reserve.was (c.reserve.ensures.ample (omega arith) (omega (arith, c.from.ensures, c.look_up-found.ensures.alike E canon, spares.1))))

pub returns-in_err-reserve-clause-tries : goal.returns-in_err-reserve-clause-tries
returns-in_err-reserve-clause-tries g c = KeepsTries-same c.args.heap.now c.reserve.new.self c.reserve.ensures.rest.rows

pub removed-requires-clause-trie : goal.removed-requires-clause-trie
removed-requires-clause-trie g c =
    let E = c.requires.trie.0 in
    let canon = c.requires.trie.1 in
    (E, (KeepsTries-same c.args.heap.now c.reserve.new.self c.in_ok-reserve.ensures.rest.rows g.T.Ord.cmp (code_by g.T.Element.code_of c.args.bits) c.args.root E canon), (λ none. true≢false (sym c.if-is_none.ensures ∙ ap is_some (c.look_up-found.ensures.entry E canon ∙ none))), omega (arith, c.from.ensures, c.look_up-found.ensures.alike E canon, c.in_ok-reserve.ensures.spares.1))

pub returns-clause-answered : goal.returns-clause-answered
returns-clause-answered g c = λ E canon. Builds-Answered c.in_ok-reserve.ensures.rest (c.removed.ensures.builds E (KeepsTries-same c.args.heap.now c.reserve.new.self c.in_ok-reserve.ensures.rest.rows g.T.Ord.cmp (code_by g.T.Element.code_of c.args.bits) c.args.root E canon))

pub returns-clause-entries : goal.returns-clause-entries
returns-clause-entries g c = λ E canon. c.removed.ensures.entries E (KeepsTries-same c.args.heap.now c.reserve.new.self c.in_ok-reserve.ensures.rest.rows g.T.Ord.cmp (code_by g.T.Element.code_of c.args.bits) c.args.root E canon)

pub returns-clause-made : goal.returns-clause-made
returns-clause-made g c =
    let E = c.requires.trie.0 in
    let canon = c.requires.trie.1 in
    Builds-MakesJust c.in_ok-reserve.ensures.rest (c.removed.ensures.builds E (KeepsTries-same c.args.heap.now c.reserve.new.self c.in_ok-reserve.ensures.rest.rows g.T.Ord.cmp (code_by g.T.Element.code_of c.args.bits) c.args.root E canon))

pub returns-clause-tries : goal.returns-clause-tries
returns-clause-tries g c = λ cmp code root E is. c.removed.ensures.tries cmp code root E (KeepsTries-same c.args.heap.now c.reserve.new.self c.in_ok-reserve.ensures.rest.rows cmp code root E is)

pub returns-clause-shares : goal.returns-clause-shares
returns-clause-shares g c = λ E canon.
    let back = forms-same c.reserve.new.self c.args.heap.now (λ j. sym (c.in_ok-reserve.ensures.rest.rows j)) in
    shares-kept (form_at c.reserve.new.self) (form_at c.args.heap.now) (form_at c.removed.new.heap) (form_at c.removed.new.heap) back (record { kept = λ l f is. is }) (code_by g.T.Element.code_of c.args.bits (g.P.Probe.stands_for c.args.key.now))
    LEVELS 0 c.args.root c.removed.result (c.removed.ensures.shares E (KeepsTries-same c.args.heap.now c.reserve.new.self c.in_ok-reserve.ensures.rest.rows g.T.Ord.cmp (code_by g.T.Element.code_of c.args.bits) c.args.root E canon))

pub returns-then-is_none-clause-spares : goal.returns-then-is_none-clause-spares
returns-then-is_none-clause-spares g c = λ E canon. KeepsToNeed-refl c.args.heap.now 0 _

pub returns-clause-spares : goal.returns-clause-spares
returns-clause-spares g c = λ E canon.
    KeepsToNeed-more 0 _ (omega arith) (omega (arith, c.from.ensures, c.look_up-found.ensures.alike E canon))
    (Builds-KeepsToNeed c.in_ok-reserve.ensures.greater c.in_ok-reserve.ensures.rest (c.removed.ensures.builds E (KeepsTries-same c.args.heap.now c.reserve.new.self c.in_ok-reserve.ensures.rest.rows g.T.Ord.cmp (code_by g.T.Element.code_of c.args.bits) c.args.root E canon)))
