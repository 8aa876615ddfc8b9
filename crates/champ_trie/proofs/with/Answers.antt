use Rattle.std.proofs.Common.{arith, ap, refl, sym}
use Rattle.node_heap.specs.Heap.{form_at}
use Rattle.node_heap.proofs.BuildLemmas.{Builds-Answered, Builds-MakesJust}
use Rattle.champ_chain.proofs.FrameLemmas.{forms-same, key-kept}
use Rattle.champ_chain.proofs.SpotLemmas.{same-key}
use Rattle.champ_chain.proofs.WithLemmas.{not-ok}
use Rattle.champ_trie.specs.Trie.{code_by}
use Rattle.champ_trie.specs.Reach.{alike_to}
use Rattle.elem_core.specs.declared.codes.TheConstants.{LEVELS}
use Rattle.champ_trie.proofs.ShareLemmas.{shares-kept}
use Rattle.champ_trie.proofs.LeftLemmas.{KeepsTries-same}
use Rattle.node_heap.proofs.RoomLemmas.{KeepsToNeed-more, Builds-KeepsToNeed}
use Rattle.champ_trie.proofs.with.Goals as goal

pub returns-in_err-reserve-clause-ample : goal.returns-in_err-reserve-clause-ample
returns-in_err-reserve-clause-ample g c = λ E k canon keyed spares.
    let key = same-key (form_at c.args.heap.now) c.args.entry c.args.entry c.key_of.result.now k refl c.key_of.ensures keyed in
    let alike = ap (λ j. alike_to g.T.Element.code_of c.args.bits j E) key in
    absurd (not-ok c.reserve.result _ c.in_err-reserve.was (c.reserve.ensures.ample (omega arith) (omega (arith, c.look_up-found.ensures.alike E canon, alike, spares.1))))

pub returns-in_err-reserve-clause-tries : goal.returns-in_err-reserve-clause-tries
returns-in_err-reserve-clause-tries g c = KeepsTries-same c.args.heap.now c.reserve.new.self c.reserve.ensures.rest.rows

pub added-requires-clause-trie : goal.added-requires-clause-trie
added-requires-clause-trie g c =
    let E = c.requires.trie.0 in
    let canon = c.requires.trie.1 in
    let same = c.in_ok-reserve.ensures.rest.rows in
    let keyed = key-kept (form_at c.args.heap.now) (form_at c.reserve.new.self) (forms-same c.args.heap.now c.reserve.new.self same) c.args.entry c.key_of.result.now c.key_of.ensures in
    (E, c.key_of.result.now, (KeepsTries-same c.args.heap.now c.reserve.new.self c.in_ok-reserve.ensures.rest.rows g.T.Ord.cmp (code_by g.T.Element.code_of c.args.bits) c.args.root E canon), keyed, omega (arith, c.look_up-found.ensures.alike E canon, c.in_ok-reserve.ensures.spares.1))

pub returns-clause-answered : goal.returns-clause-answered
returns-clause-answered g c = λ E k canon keyed.
    let same = c.in_ok-reserve.ensures.rest.rows in
    Builds-Answered c.in_ok-reserve.ensures.rest
    (c.added.ensures.builds E k (KeepsTries-same c.args.heap.now c.reserve.new.self c.in_ok-reserve.ensures.rest.rows g.T.Ord.cmp (code_by g.T.Element.code_of c.args.bits) c.args.root E canon) (key-kept (form_at c.args.heap.now) (form_at c.reserve.new.self) (forms-same c.args.heap.now c.reserve.new.self same) c.args.entry k keyed))

pub returns-clause-entries : goal.returns-clause-entries
returns-clause-entries g c = λ E k canon keyed.
    let same = c.in_ok-reserve.ensures.rest.rows in
    c.added.ensures.entries E k (KeepsTries-same c.args.heap.now c.reserve.new.self c.in_ok-reserve.ensures.rest.rows g.T.Ord.cmp (code_by g.T.Element.code_of c.args.bits) c.args.root E canon) (key-kept (form_at c.args.heap.now) (form_at c.reserve.new.self) (forms-same c.args.heap.now c.reserve.new.self same) c.args.entry k keyed)

pub returns-clause-made : goal.returns-clause-made
returns-clause-made g c =
    let E = c.requires.trie.0 in
    let canon = c.requires.trie.1 in
    let same = c.in_ok-reserve.ensures.rest.rows in
    Builds-MakesJust c.in_ok-reserve.ensures.rest
    (c.added.ensures.builds E c.key_of.result.now (KeepsTries-same c.args.heap.now c.reserve.new.self c.in_ok-reserve.ensures.rest.rows g.T.Ord.cmp (code_by g.T.Element.code_of c.args.bits) c.args.root E canon) (key-kept (form_at c.args.heap.now) (form_at c.reserve.new.self) (forms-same c.args.heap.now c.reserve.new.self same) c.args.entry c.key_of.result.now c.key_of.ensures))

pub returns-clause-tries : goal.returns-clause-tries
returns-clause-tries g c = λ cmp code root E is. c.added.ensures.tries cmp code root E (KeepsTries-same c.args.heap.now c.reserve.new.self c.in_ok-reserve.ensures.rest.rows cmp code root E is)

pub returns-clause-shares : goal.returns-clause-shares
returns-clause-shares g c = λ E k canon keyed.
    let same = c.in_ok-reserve.ensures.rest.rows in
    let back = forms-same c.reserve.new.self c.args.heap.now (λ j. sym (same j)) in
    shares-kept (form_at c.reserve.new.self) (form_at c.args.heap.now) (form_at c.added.new.heap) (form_at c.added.new.heap) back (record { kept = λ l f is. is }) (code_by g.T.Element.code_of c.args.bits k) LEVELS 0 c.args.root c.added.result
    (c.added.ensures.shares E k (KeepsTries-same c.args.heap.now c.reserve.new.self c.in_ok-reserve.ensures.rest.rows g.T.Ord.cmp (code_by g.T.Element.code_of c.args.bits) c.args.root E canon) (key-kept (form_at c.args.heap.now) (form_at c.reserve.new.self) (forms-same c.args.heap.now c.reserve.new.self same) c.args.entry k keyed))

pub returns-clause-spares : goal.returns-clause-spares
returns-clause-spares g c = λ E k canon keyed.
    let same = c.in_ok-reserve.ensures.rest.rows in
    let key = same-key (form_at c.args.heap.now) c.args.entry c.args.entry c.key_of.result.now k refl c.key_of.ensures keyed in
    let alike = ap (λ j. alike_to g.T.Element.code_of c.args.bits j E) key in
    KeepsToNeed-more 0 _ (omega arith) (omega (arith, c.look_up-found.ensures.alike E canon, alike))
    (Builds-KeepsToNeed c.in_ok-reserve.ensures.greater c.in_ok-reserve.ensures.rest
    (c.added.ensures.builds E k (KeepsTries-same c.args.heap.now c.reserve.new.self c.in_ok-reserve.ensures.rest.rows g.T.Ord.cmp (code_by g.T.Element.code_of c.args.bits) c.args.root E canon) (key-kept (form_at c.args.heap.now) (form_at c.reserve.new.self) (forms-same c.args.heap.now c.reserve.new.self same) c.args.entry k keyed)))
