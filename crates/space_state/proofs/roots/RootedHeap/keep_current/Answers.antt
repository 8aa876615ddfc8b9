use Rattle.std.proofs.Common.{◌≡◌, ℕ, List, [], ◌∷◌, true, false, refl, sym, subst, ◌∙◌, arith}
use Rattle.node_heap.proofs.Frames.{KeepsBelow-trans}
use Rattle.plain_space.specs.Workspace.{Workspace, in_batch}
use Rattle.space_state.specs.declared.roots.RootedHeap.{RootedHeap}
use Rattle.space_state.specs.declared.undo_end.TheConstants.{TURN_NODES}
use Rattle.space_state.specs.Roots.{Keeps}
use Rattle.space_state.specs.Turns.{TurnsBeside}
use Rattle.space_state.specs.BatchEdits.{current_kept}
use Rattle.space_state.proofs.Keeping.{answered-one, keeps-gained, current-stands, besides-held, held-live, rises-answered, rises-refl, rises-more, turns-by, turns-after}
use Rattle.space_state.proofs.Placing.{kept-inside, kept-outside}
use Rattle.state_rows.proofs.Room.{room-made, room-then}
use Rattle.space_state.proofs.Hoarding.{room-same}
use Rattle.space_state.proofs.roots.RootedHeap.keep_current.Goals as goal
use Rattle.space_state.proofs.roots.RootedHeap.keep_current.Goals.{After-hold}

pub returns-then-in_batch-clause-turns : goal.returns-then-in_batch-clause-turns
returns-then-in_batch-clause-turns c = λ b W K.
    let inside : in_batch W ≡ true = sym (c.in_batch.ensures b W K) ∙ c.if-in_batch.true in
    let s : RootedHeap = c.args.self.now in
    record {
      turns = turns-by TURN_NODES (subst (λ (V : Workspace). Keeps s b V) (sym (kept-inside W inside)) K) refl (rises-more TURN_NODES (rises-refl s.heap) (omega arith));
      stays = λ l some m way. refl;
      spare_cells = omega arith;
      spare_nodes = omega arith;
    }

-- the current state is held once more
held : (c : After-hold) (b : List ℕ) (W : Workspace) → Keeps c.args.self.now b W → Keeps (record c.args.self.now { heap = c.hold.new.self }) (c.args.self.now.roots.current ∷ b) W
held c b W K = keeps-gained K (answered-one c.hold.ensures.extends c.hold.ensures.graph c.hold.ensures.holds c.hold.ensures.count c.hold.ensures.makes)

pub record-requires-clause-kept : goal.record-requires-clause-kept
record-requires-clause-kept c =
    let k = c.requires.kept in
    let W = k.1 in
    let now = held (goal.at.record-requires-clause-kept c).After-hold k.0 W k.2 in
    (k.0, W, W.current, now, k.3, current-stands now)

pub returns-clause-turns : goal.returns-clause-turns
returns-clause-turns c = λ b W K.
    let outside : in_batch W ≡ false = sym (c.in_batch.ensures b W K) ∙ c.if-in_batch.false in
    let h = c.hold.ensures in
    let now = held (goal.at.returns-clause-turns c).After-hold b W K in
    let did : TurnsBeside (record c.args.self.now { heap = c.hold.new.self }) c.record.new.self b 0 TURN_NODES (current_kept W) =
    subst (λ (V : Workspace). TurnsBeside (record c.args.self.now { heap = c.hold.new.self }) c.record.new.self b 0 TURN_NODES V) (sym (kept-outside W outside))
    (c.record.ensures.turns b W W.current now (current-stands now)) in
    record {
      turns = turns-after 0 TURN_NODES (rises-answered (answered-one h.extends h.graph h.holds h.count h.makes)) refl did.turns (omega arith);
      stays = λ l some. KeepsBelow-trans c.args.self.now.heap c.hold.new.self c.record.new.self.heap l (h.extends.kept l (held-live K l (besides-held K l some))) (did.stays l some);
      spare_cells = omega (arith, did.spare_cells, h.makes.spare_cells);
      spare_nodes = omega (arith, did.spare_nodes, h.makes.spare_nodes);
    }

pub returns-clause-inside : goal.returns-clause-inside
returns-clause-inside c = λ W K inside. absurd (let h = sym inside ∙ (sym (c.in_batch.ensures [] W K) ∙ c.if-in_batch.false) in cc)

pub returns-then-in_batch-clause-spares : goal.returns-then-in_batch-clause-spares
returns-then-in_batch-clause-spares c = room-same c.args.self.now.heap

pub returns-clause-spares : goal.returns-clause-spares
returns-clause-spares c = room-then (room-made c.hold.ensures.makes) c.record.ensures.spares

pub returns-clause-made : goal.returns-clause-made
returns-clause-made c = omega (arith, c.record.ensures.made, c.hold.ensures.makes.made)

pub returns-clause-below : goal.returns-clause-below
returns-clause-below c = λ b W K fewer.
    let now = held (goal.at.returns-clause-below c).After-hold b W K in
    omega (arith, c.record.ensures.below b W W.current now (current-stands now) fewer, c.hold.ensures.makes.made)
