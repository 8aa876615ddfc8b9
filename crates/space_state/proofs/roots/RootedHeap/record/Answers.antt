use Rattle.std.proofs.Common.{ℕ, List, [], ◌∷◌, arith}
use Rattle.node_heap.proofs.Frames.{KeepsBelow-trans}
use Rattle.space_state.specs.declared.undo_end.TheConstants.{TURN_NODES}
use Rattle.space_state.proofs.Keeping.{few-holds, redo-held, redo-holds, redo-stands, keeps-redo, left-over, held-beside, trades-beside, rises-trades, rises-then, turns-of, turns-by}
use Rattle.state_rows.proofs.Room.{room-then}
use Rattle.space_state.proofs.roots.RootedHeap.record.Goals as goal

pub emptied-redo-requires-clause-few : goal.emptied-redo-requires-clause-few
emptied-redo-requires-clause-few c =
    let k = c.requires.kept in
    few-holds (c.push_undo.ensures.turns k.0 k.1 k.2 k.3 k.5).turns.keeps (omega (arith, k.4))

pub emptied-redo-requires-clause-held : goal.emptied-redo-requires-clause-held
emptied-redo-requires-clause-held c =
    let k = c.requires.kept in
    rw c.from_root.ensures (redo-held (c.push_undo.ensures.turns k.0 k.1 k.2 k.3 k.5).turns.keeps)

pub emptied-redo-requires-clause-history : goal.emptied-redo-requires-clause-history
emptied-redo-requires-clause-history c =
    let k = c.requires.kept in
    rw c.from_root.ensures (c.push_undo.new.self.bits, k.1.redo, redo-stands (c.push_undo.ensures.turns k.0 k.1 k.2 k.3 k.5).turns.keeps)

pub emptied-redo-requires-clause-spares : goal.emptied-redo-requires-clause-spares
emptied-redo-requires-clause-spares c =
    let k = c.requires.kept in
    (omega arith, omega (arith, c.requires.spares.1, (c.push_undo.ensures.turns k.0 k.1 k.2 k.3 k.5).spare_nodes))

pub returns-clause-turns : goal.returns-clause-turns
returns-clause-turns c = λ b W x K is.
    let pushed = c.push_undo.ensures.turns b W x K is in
    let did = rw c.from_root.ensures at c.emptied-redo.ensures in
    let mid = c.push_undo.new.self in
    let spent : List ℕ = mid.roots.redo ∷ [] in
    let emptied = keeps-redo c.emptied-redo.result [] b b pushed.turns.keeps (held-beside spent b did.keeps) (trades-beside spent (c.emptied-redo.result ∷ []) b did.trades) (did.history mid.bits) in
    rw c.into_root-self.ensures (record {
      turns = turns-by TURN_NODES emptied pushed.turns.bits (rises-then (turns-of pushed.turns) (rises-trades did.trades));
      stays = λ l some. KeepsBelow-trans c.args.self.now.heap mid.heap c.emptied-redo.new.heap l (pushed.stays l some) (did.keeps.kept l (left-over l spent b (redo-holds pushed.turns.keeps l) some));
      spare_cells = omega (arith, pushed.spare_cells, did.trades.cells, did.trades.balance.spare_cells);
      spare_nodes = omega (arith, pushed.spare_nodes, did.trades.nodes, did.trades.balance.spare_nodes);
    })

pub returns-clause-spares : goal.returns-clause-spares
returns-clause-spares c = room-then c.push_undo.ensures.spares c.emptied-redo.ensures.spares

-- where undo has fewer states than its bound none goes from it
pub returns-clause-below : goal.returns-clause-below
returns-clause-below c = λ b W x K is fewer. omega (arith, c.push_undo.ensures.below b W K fewer, (rw c.from_root.ensures at c.emptied-redo.ensures.trades).made)
