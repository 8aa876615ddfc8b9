use Rattle.std.proofs.Common.{◌≡◌, ℕ, ◌-◌, ◌≤◌, List, [], ◌∷◌, length, drop, refl, sym, ap, subst, ◌∙◌, arith}
use Rattle.rrb_core.specs.Vector.{elements}
use Rattle.plain_space.specs.Workspace.{Workspace, last_of}
use Rattle.plain_space.proofs.LastOf.{last-all, last-fewer}
use Rattle.state_rows.specs.InHeap.{IsHistoryIn}
use Rattle.space_state.specs.Roots.{IsBounded, Keeps}
use Rattle.space_state.specs.declared.roots.RootedHeap.{RootedHeap}
use Rattle.space_state.proofs.Keeping.{few-holds, undo-held, undo-holds, undo-stands, history-length, keeps-undo, left-over, held-beside, trades-beside, rises-trades, rises-refl, rises-more, turns-by}
use Rattle.space_state.proofs.Hoarding.{room-same}
use Rattle.space_state.proofs.roots.RootedHeap.shorten_undo.Goals as goal
use Rattle.space_state.proofs.roots.RootedHeap.shorten_undo.Goals.{After-len-states}

-- how many states undo has
states : (c : After-len-states) (b : List ℕ) (W : Workspace) → Keeps c.args.self.now b W → c.len-states.result ≡ length W.undo
states c b W K = c.len-states.ensures.value ∙ ap (λ l. length (elements c.args.self.now.heap l)) c.at.ensures ∙ history-length (undo-stands K)

-- where no state goes, nothing has changed
pub returns-then-states-count-clause-turns : goal.returns-then-states-count-clause-turns
returns-then-states-count-clause-turns c = λ b W K.
    let s : RootedHeap = c.args.self.now in
    let few : length W.undo ≤ c.args.count = omega (arith, c.if-states-count.true, states (goal.at.returns-then-states-count-clause-turns c).After-len-states b W K) in
    record {
      turns = turns-by 17 (subst (λ us. Keeps s b (record W { undo = us })) (sym (last-all c.args.count W.undo few)) K) refl (rises-more 17 (rises-refl s.heap) (omega arith));
      stays = λ l some m way. refl;
      spare_cells = omega arith;
      spare_nodes = omega arith;
    }

pub returns-then-states-count-clause-short : goal.returns-then-states-count-clause-short
returns-then-states-count-clause-short c = λ b W K few. refl

pub shortened-undo-requires-clause-few : goal.shortened-undo-requires-clause-few
shortened-undo-requires-clause-few c = few-holds c.requires.kept.2 (omega (arith, c.requires.kept.3))

pub shortened-undo-requires-clause-held : goal.shortened-undo-requires-clause-held
shortened-undo-requires-clause-held c = rw c.from_root-undo.ensures (undo-held c.requires.kept.2)

pub shortened-undo-requires-clause-history : goal.shortened-undo-requires-clause-history
shortened-undo-requires-clause-history c = rw c.from_root-undo.ensures (c.args.self.now.bits, c.requires.kept.1.undo, undo-stands c.requires.kept.2)

pub returns-clause-turns : goal.returns-clause-turns
returns-clause-turns c = λ b W K.
    let did = rw c.from_root-undo.ensures at c.shortened-undo.ensures in
    let spent : List ℕ = c.args.self.now.roots.undo ∷ [] in
    let goes : c.len-states.result - c.args.count ≡ length W.undo - c.args.count = ap (λ n. n - c.args.count) (states (goal.at.returns-clause-turns c).After-len-states b W K) in
    let bits : ℕ = c.args.self.now.bits in
    let bounded : IsBounded c.args.self.now.history (record W { undo = last_of c.args.count W.undo }) = (K.bounded.0, K.bounded.1, omega (arith, last-fewer c.args.count W.undo, K.bounded.2)) in
    let kept =
    keeps-undo c.shortened-undo.result (last_of c.args.count W.undo) b b bounded K (held-beside spent b did.keeps)
    (trades-beside spent (c.shortened-undo.result ∷ []) b did.trades) (subst (λ n. IsHistoryIn c.shortened-undo.new.heap bits c.shortened-undo.result (drop n W.undo)) goes (did.history bits W.undo (undo-stands K))) in
    rw c.into_root-self.ensures (record {
      turns = turns-by 17 kept refl (rises-more 17 (rises-trades did.trades) (omega arith));
      stays = λ l some. did.keeps.kept l (left-over l spent b (undo-holds K l) some);
      spare_cells = omega (arith, did.trades.cells, did.trades.balance.spare_cells);
      spare_nodes = omega (arith, did.trades.nodes, did.trades.balance.spare_nodes);
    })

-- and else a state goes
pub returns-clause-short : goal.returns-clause-short
returns-clause-short c = λ b W K few. absurd (omega (arith, c.if-states-count.false, states (goal.at.returns-clause-short c).After-len-states b W K, few))

pub returns-then-states-count-clause-spares : goal.returns-then-states-count-clause-spares
returns-then-states-count-clause-spares c = room-same c.args.self.now.heap

pub returns-clause-spares : goal.returns-clause-spares
returns-clause-spares c = c.shortened-undo.ensures.spares
