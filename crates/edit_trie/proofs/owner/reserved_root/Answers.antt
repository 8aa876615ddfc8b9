use Rattle.std.proofs.Common.{ap, ◌∙◌, arith}
use Rattle.node_heap.specs.Forms.{is_node}
use Rattle.node_heap.specs.Heap.{row_at}
use Rattle.node_heap.proofs.CallerLemmas.{Gains-trans, can-room, makes-came, owned-same, root-room, to-need}
use Rattle.champ_chain.proofs.CallerLemmas.{not-ok}
use Rattle.edit_trie.proofs.owner.reserved_root.Goals as goal

pub own_root-requires-clause-owner : goal.own_root-requires-clause-owner
own_root-requires-clause-owner g c = can-room c.in_ok-reserve.ensures.rest c.args.owner.now c.in_ok-reserve.ensures.owners c.requires.owner

pub own_root-requires-clause-node : goal.own_root-requires-clause-node
own_root-requires-clause-node g c =
    let room = c.in_ok-reserve.ensures.rest in
    ap is_node (ap (row_at c.reserve.new.self) (owned-same room c.args.owner.now) ∙ room.rows _) ∙ c.requires.node

pub own_root-requires-clause-spare : goal.own_root-requires-clause-spare
own_root-requires-clause-spare g c = omega (arith, c.requires.some, c.in_ok-reserve.ensures.spares.1)

pub returns-in_err-reserve-clause-ample : goal.returns-in_err-reserve-clause-ample
returns-in_err-reserve-clause-ample g c = λ spares. absurd (not-ok c.reserve.result _ c.in_err-reserve.was (c.reserve.ensures.ample spares.0 spares.1))

pub returns-clause-owns : goal.returns-clause-owns
returns-clause-owns g c = root-room c.in_ok-reserve.ensures.rest c.own_root.ensures.owns

pub returns-clause-spares : goal.returns-clause-spares
returns-clause-spares g c = (omega (arith, c.in_ok-reserve.ensures.spares.0, c.own_root.ensures.spares.0), omega (arith, c.in_ok-reserve.ensures.spares.1, c.own_root.ensures.spares.1))

pub returns-clause-makes : goal.returns-clause-makes
returns-clause-makes g c = λ later more.
    let room = c.in_ok-reserve.ensures.rest in
    let gains = Gains-trans c.own_root.ensures.gains more in
    (makes-came room gains, to-need room gains c.in_ok-reserve.ensures.greater)
