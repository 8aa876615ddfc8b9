use Rattle.std.proofs.Common.{◌≢◌, ◌-◌, ◌^◌, [], ◌∷◌, length, ap, ◌∙◌, arith}
use Rattle.node_heap.specs.Owner.{owned}
use Rattle.node_heap.proofs.CallerLemmas.{apart-room, can-room, handed, held-room, up-room, to-need}
use Rattle.rrb_core.specs.Vector.{elements}
use Rattle.edit_vec.proofs.PopSteps.{not-both}
use Rattle.edit_vec.proofs.RoomTop.{height-room, vector-room, pushes-room}
use Rattle.edit_vec.proofs.push.push_by.Goals as goal

pub push_root-requires-clause-owner : goal.push_root-requires-clause-owner
push_root-requires-clause-owner g c = can-room c.in_ok-reserve.ensures.rest c.args.owner.now c.in_ok-reserve.ensures.owners c.requires.owner

pub push_root-requires-clause-held : goal.push_root-requires-clause-held
push_root-requires-clause-held g c = held-room c.in_ok-reserve.ensures.rest c.args.owner.now c.args.element c.requires.held

pub push_root-requires-clause-apart : goal.push_root-requires-clause-apart
push_root-requires-clause-apart g c = apart-room c.in_ok-reserve.ensures.rest c.args.owner.now c.args.element c.requires.apart

pub push_root-requires-clause-root : goal.push_root-requires-clause-root
push_root-requires-clause-root g c =
    let room = c.in_ok-reserve.ensures in
    let root = owned c.args.heap.now c.args.owner.now in
    let short : length (elements c.args.heap.now root) ≢ 2 ^ 32 - 1 = λ e. not-both (c.is_longest.ensures.1 (ap (λ l. length (elements c.args.heap.now l)) (c.at.ensures ∙ c.root_of.ensures) ∙ e)) c.if-is_longest.false in
    let later = vector-room room.rest c.args.owner.now c.requires.good in
    record {
      graph = room.rest.graph;
      good = later.0;
      short = rw later.1 (omega (arith, c.requires.good.shape.short, short));
      held = handed c.reserve.new.self c.args.owner.now (owned c.reserve.new.self c.args.owner.now) c.args.element (held-room room.rest c.args.owner.now c.args.element c.requires.held);
      few = omega (arith, c.requires.few, room.rest.count);
      spare = room.spares.1;
    }

pub returns-clause-pushes : goal.returns-clause-pushes
returns-clause-pushes g c = pushes-room c.in_ok-reserve.ensures.rest c.requires.good c.push_root.ensures.pushes

pub returns-clause-up : goal.returns-clause-up
returns-clause-up g c =
    let room = c.in_ok-reserve.ensures.rest in
    up-room room c.args.owner.now c.push_root.new.heap c.push_root.result (c.args.element ∷ []) [] 0 _ _ (omega (arith, height-room room c.args.owner.now)) c.push_root.ensures.up

pub returns-clause-spares : goal.returns-clause-spares
returns-clause-spares g c = to-need c.in_ok-reserve.ensures.rest c.push_root.ensures.gains c.in_ok-reserve.ensures.greater
