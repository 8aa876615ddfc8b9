use Rattle.std.proofs.Common.{◌<◌, [], ◌∷◌, length, ap, ◌∙◌, arith}
use Rattle.node_heap.specs.Owner.{owned}
use Rattle.node_heap.proofs.CallerLemmas.{apart-room, can-room, held-room, to-need, up-room}
use Rattle.rrb_core.specs.Vector.{elements}
use Rattle.edit_vec.proofs.PopSteps.{within}
use Rattle.edit_vec.proofs.RoomTop.{height-room, vector-room, sets-room}
use Rattle.edit_vec.proofs.set.set_by.Given.{Over}
use Rattle.edit_vec.proofs.set.set_by.Goals as goal
use Rattle.edit_vec.proofs.set.set_by.Goals.{After-reserve}

-- the index was tested
inside : (g : Over) (c : After-reserve g) → c.args.index < length (elements c.args.heap.now (owned c.args.heap.now c.args.owner.now))
inside g c = within (ap (λ l. length (elements c.args.heap.now l)) (c.at.ensures ∙ c.root_of.ensures)) c.is_past.ensures c.if-is_past.false

pub set_root-requires-clause-owner : goal.set_root-requires-clause-owner
set_root-requires-clause-owner g c = can-room c.in_ok-reserve.ensures.rest c.args.owner.now c.in_ok-reserve.ensures.owners c.requires.owner

pub set_root-requires-clause-good : goal.set_root-requires-clause-good
set_root-requires-clause-good g c = (vector-room c.in_ok-reserve.ensures.rest c.args.owner.now c.requires.good).0

pub set_root-requires-clause-held : goal.set_root-requires-clause-held
set_root-requires-clause-held g c = held-room c.in_ok-reserve.ensures.rest c.args.owner.now c.args.element c.requires.held

pub set_root-requires-clause-apart : goal.set_root-requires-clause-apart
set_root-requires-clause-apart g c = apart-room c.in_ok-reserve.ensures.rest c.args.owner.now c.args.element c.requires.apart

pub set_root-requires-clause-inside : goal.set_root-requires-clause-inside
set_root-requires-clause-inside g c = rw (vector-room c.in_ok-reserve.ensures.rest c.args.owner.now c.requires.good).1 (inside g (goal.at.set_root-requires-clause-inside g c).After-reserve)

pub returns-clause-sets : goal.returns-clause-sets
returns-clause-sets g c = sets-room c.in_ok-reserve.ensures.rest c.requires.good (inside g (goal.at.returns-clause-sets g c).After-reserve) c.set_root.ensures.sets

pub returns-clause-up : goal.returns-clause-up
returns-clause-up g c =
    let room = c.in_ok-reserve.ensures.rest in
    up-room room c.args.owner.now c.set_root.new.heap c.set_root.result.0 (c.args.element ∷ []) (c.set_root.result.1 ∷ []) 0 _ _ (omega (arith, height-room room c.args.owner.now)) c.set_root.ensures.up

pub returns-clause-spares : goal.returns-clause-spares
returns-clause-spares g c = to-need c.in_ok-reserve.ensures.rest c.set_root.ensures.gains c.in_ok-reserve.ensures.greater
