use Rattle.std.proofs.Common.{◌∙◌, refl, ap, sym, arith}
use Rattle.elem_core.specs.declared.codes.TheConstants.{LEVELS}
use Rattle.node_heap.specs.Heap.{form_at}
use Rattle.node_heap.proofs.Frames.{Answered-Unchanged, Extends-trans}
use Rattle.node_heap.proofs.RoomLemmas.{KeepsToNeed-more, KeepsToNeed-reserved}
use Rattle.champ_chain.proofs.FrameLemmas.{forms-kept}
use Rattle.champ_trie.specs.Trie.{code_by}
use Rattle.champ_trie.proofs.BesideLemmas.{shares-before}
use Rattle.champ_kinds.specs.Root.{Root}
use Rattle.champ_kinds.specs.Binding.{alike_keys}
use Rattle.champ_kinds.proofs.PairLemmas.{alike-pairs}
use Rattle.champ_kinds.proofs.StayLemmas.{map-seen, entries-seen, entries-extended, containers-extended, containers-unchanged}
use Rattle.champ_kinds.proofs.EditLemmas.{at-ok, at-err, not-err, puts-before}
use Rattle.champ_kinds.proofs.map.map_insert.Goals as goal

pub returns-then-is_err-clause-containers : goal.returns-then-is_err-clause-containers
returns-then-is_err-clause-containers g c = containers-unchanged _ _ c.reserve.ensures.rest

pub returns-then-is_err-clause-ample : goal.returns-then-is_err-clause-ample
returns-then-is_err-clause-ample g c = λ M here spares.
    let is = map-seen c.map.view_is here in
    let bits = ap (λ (r : Root). alike_keys g.T.Element.code_of r.bits c.args.key M) c.map.view_is in
    let alike = alike-pairs (form_at c.args.heap.now) g.T.Element.code_of c.map.inside.bits c.args.key is.entries M is.pairs in
    let counted = c.look_up-found.ensures.alike is.entries is.rooted.trie in
    absurd (not-err c.reserve.result (sym c.is_err.ensures.value ∙ c.if-is_err.true) (c.reserve.ensures.ample (omega (arith, spares.0)) (omega (arith, spares.1, counted, alike, bits))))

pub returns-then-is_err-clause-handed_back : goal.returns-then-is_err-clause-handed_back
returns-then-is_err-clause-handed_back g c = (refl, at-err c.reserve.result (sym c.is_err.ensures.value ∙ c.if-is_err.true) c.reserve.ensures.refused)

pub map_insert_there-requires-clause-few : goal.map_insert_there-requires-clause-few
map_insert_there-requires-clause-few g c = omega (arith, c.requires.few, c.reserve.ensures.rest.count)

pub map_insert_there-requires-clause-held : goal.map_insert_there-requires-clause-held
map_insert_there-requires-clause-held g c = omega (arith, c.requires.held, c.reserve.ensures.rest.holds c.args.value)

pub map_insert_there-requires-clause-contents : goal.map_insert_there-requires-clause-contents
map_insert_there-requires-clause-contents g c =
    let M = c.requires.contents.0 in
    let is = map-seen c.map.view_is c.requires.contents.1 in
    let bits = ap (λ (r : Root). alike_keys g.T.Element.code_of r.bits c.args.key M) c.map.view_is in
    let alike = alike-pairs (form_at c.args.heap.now) g.T.Element.code_of c.map.inside.bits c.args.key is.entries M is.pairs in
    let counted = c.look_up-found.ensures.alike is.entries is.rooted.trie in
    let room = at-ok c.reserve.result (sym c.is_err.ensures.value ∙ c.if-is_err.false) c.reserve.ensures.spares in
    let kept = containers-unchanged _ _ c.reserve.ensures.rest c.args.map in
    (M, kept.map _ _ M c.requires.contents.1, (omega (arith, room.0), omega (arith, room.1, counted, alike, bits)))

pub map_insert_there-requires-clause-found : goal.map_insert_there-requires-clause-found
map_insert_there-requires-clause-found g c =
    let is = map-seen c.map.view_is c.requires.contents.1 in
    (is.entries, entries-extended _ _ c.reserve.ensures.extends (entries-seen (sym c.map.view_is) is.rooted), c.look_up-found.ensures.entry is.entries is.rooted.trie)

pub returns-clause-answered : goal.returns-clause-answered
returns-clause-answered g c = λ M here.
    let kept = containers-unchanged _ _ c.reserve.ensures.rest c.args.map in
    Answered-Unchanged c.reserve.ensures.rest (c.map_insert_there.ensures.answered M (kept.map _ _ M here))

pub returns-clause-made : goal.returns-clause-made
returns-clause-made g c = let made = c.map_insert_there.ensures.made in omega (arith, c.reserve.ensures.rest.made, c.reserve.ensures.rest.live, made)

pub returns-clause-contents : goal.returns-clause-contents
returns-clause-contents g c = λ M here.
    let kept = containers-unchanged _ _ c.reserve.ensures.rest c.args.map in
    c.map_insert_there.ensures.contents M (kept.map _ _ M here)

pub returns-clause-entries : goal.returns-clause-entries
returns-clause-entries g c = λ E here. puts-before c.reserve.ensures.rest (c.map_insert_there.ensures.entries E (entries-extended _ _ c.reserve.ensures.extends here))

pub returns-clause-shares : goal.returns-clause-shares
returns-clause-shares g c =
    let is = c.requires.contents.1 in
    let code = code_by g.T.Element.code_of c.args.map.bits in
    shares-before g.T.Ord.cmp code (form_at c.reserve.new.self) (form_at c.args.heap.now) (form_at c.map_insert_there.new.heap) (forms-kept c.args.heap.now c.reserve.new.self c.reserve.ensures.extends) (code c.args.key) LEVELS 0 c.args.map.root c.map_insert_there.result.root is.entries is.rooted.trie.trie c.map_insert_there.ensures.shares

pub returns-clause-containers : goal.returns-clause-containers
returns-clause-containers g c =
    let kept = containers-unchanged _ _ c.reserve.ensures.rest c.args.map in
    let done = c.map_insert_there.ensures.answered c.requires.contents.0 (kept.map _ _ c.requires.contents.0 c.requires.contents.1) in
    containers-extended _ _ (Extends-trans c.reserve.ensures.extends done.extends)

pub returns-clause-spares : goal.returns-clause-spares
returns-clause-spares g c = λ M here.
    let is = map-seen c.map.view_is here in
    let bits = ap (λ (r : Root). alike_keys g.T.Element.code_of r.bits c.args.key M) c.map.view_is in
    let alike = alike-pairs (form_at c.args.heap.now) g.T.Element.code_of c.map.inside.bits c.args.key is.entries M is.pairs in
    let counted = c.look_up-found.ensures.alike is.entries is.rooted.trie in
    KeepsToNeed-more 1 _ (omega arith) (omega (arith, counted, alike, bits))
    (KeepsToNeed-reserved (at-ok c.reserve.result (sym c.is_err.ensures.value ∙ c.if-is_err.false) c.reserve.ensures.greater) c.reserve.ensures.rest (omega arith) (omega arith) c.map_insert_there.ensures.spares)
