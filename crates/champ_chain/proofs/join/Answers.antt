use Rattle.node_heap.specs.Heap.{form_at}
use Rattle.champ_chain.proofs.FrameLemmas.{key-kept, forms-same, KeepsChains-same}
use Rattle.node_heap.proofs.BuildLemmas.{Builds-Answered, Builds-MakesJust}
use Rattle.node_heap.proofs.RoomLemmas.{Builds-KeepsToNeed}
use Rattle.champ_chain.proofs.join.Goals as goal

pub joined-requires-clause-apart : goal.joined-requires-clause-apart
joined-requires-clause-apart g c =
    let kept = key-kept (form_at c.args.heap.now) (form_at c.reserve.new.self) (forms-same c.args.heap.now c.reserve.new.self c.in_ok-reserve.ensures.rest.rows) in
    let apart = c.requires.apart in
    (apart.0, apart.1, kept c.args.first apart.0 apart.2, kept c.args.second apart.1 apart.3, apart.4)

pub returns-clause-answered : goal.returns-clause-answered
returns-clause-answered g c =
    Builds-Answered c.in_ok-reserve.ensures.rest c.joined.ensures.builds

pub returns-clause-joined : goal.returns-clause-joined
returns-clause-joined g c = λ j k is_j is_k.
    let kept = key-kept (form_at c.args.heap.now) (form_at c.reserve.new.self) (forms-same c.args.heap.now c.reserve.new.self c.in_ok-reserve.ensures.rest.rows) in
    c.joined.ensures.joined j k (kept c.args.first j is_j) (kept c.args.second k is_k)

pub returns-clause-made : goal.returns-clause-made
returns-clause-made g c =
    Builds-MakesJust c.in_ok-reserve.ensures.rest c.joined.ensures.builds

pub returns-clause-chains : goal.returns-clause-chains
returns-clause-chains g c = λ cmp l E is. c.joined.ensures.chains cmp l E (KeepsChains-same c.args.heap.now c.reserve.new.self c.in_ok-reserve.ensures.rest.rows cmp l E is)

pub returns-in_err-reserve-clause-chains : goal.returns-in_err-reserve-clause-chains
returns-in_err-reserve-clause-chains g c = KeepsChains-same c.args.heap.now c.reserve.new.self c.reserve.ensures.rest.rows

pub returns-clause-spares : goal.returns-clause-spares
returns-clause-spares g c = Builds-KeepsToNeed c.in_ok-reserve.ensures.greater c.in_ok-reserve.ensures.rest c.joined.ensures.builds
