use Rattle.std.proofs.Common.{◌≡◌, ℕ, ◌-◌, ◌≤◌, List, [], ◌∷◌, ◌++◌, refl, sym, ap, subst, ◌∙◌, arith}
use Rattle.std.proofs.lemmas.List.{nil_from_length}
use Rattle.node_heap.proofs.BuildLemmas.{count-cons}
use Rattle.node_heap.proofs.Frames.{KeepsBelow-trans, KeepsHeld-Releases}
use Rattle.plain_space.specs.Workspace.{Workspace, last_of, undo_with}
use Rattle.plain_space.proofs.LastOf.{last-few, last-one-more, last-none}
use Rattle.state_rows.specs.InHeap.{IsStateIn}
use Rattle.space_state.specs.Roots.{IsBounded, Keeps}
use Rattle.space_state.specs.Turns.{TurnsBeside}
use Rattle.space_state.specs.declared.roots.RootedHeap.{RootedHeap}
use Rattle.space_state.proofs.Keeping.{first-counts, first-held, keeps-holds, keeps-released, few-holds, undo-holds, undo-stands, keeps-undo, left-over, fewer-holds, held-beside, trades-beside, rises-released, rises-trades, rises-then, rises-more, turns-of, turns-by}
use Rattle.state_rows.proofs.Room.{room-freed, room-then}
use Rattle.state_rows.proofs.Staying.{states-stay}
use Rattle.space_state.proofs.roots.RootedHeap.push_undo.Goals as goal
use Rattle.space_state.proofs.roots.RootedHeap.push_undo.Goals.{After-shorten_undo}

pub release-requires : goal.release-requires
release-requires c = first-held c.requires.kept.3

-- no state is kept: the one that would go to undo is given up, and undo, which has none, stays
pub returns-then-self-eq0-clause-turns : goal.returns-then-self-eq0-clause-turns
returns-then-self-eq0-clause-turns c = λ b W x K is.
    let now = c.args.self.now in
    let did = c.release.ensures in
    let kept = KeepsHeld-Releases now.heap c.release.new.self c.args.state did.releases did.graph in
    let none : W.history ≡ 0 = K.bounded.0 ∙ c.if-self-eq0.true in
    let empty : undo_with W x ≡ W.undo = ap (λ n. last_of n (W.undo ++ x ∷ [])) none ∙ last-none (W.undo ++ x ∷ []) ∙ sym (nil_from_length W.undo (omega (arith, K.bounded.2, none))) in
    let left = keeps-released K did.releases did.graph in
    record {
      turns = turns-by 26 (subst (λ us. Keeps (record now { heap = c.release.new.self }) b (record W { undo = us })) (sym empty) left) refl (rises-more 26 (rises-released did.releases) (omega arith));
      stays = λ l some. kept.kept l (omega (arith, keeps-holds K l, count-cons l c.args.state b, some));
      spare_cells = omega (arith, did.releases.cells, did.releases.fewer_cells);
      spare_nodes = omega (arith, did.releases.nodes, did.releases.fewer_nodes);
    }

pub returns-then-self-eq0-clause-spares : goal.returns-then-self-eq0-clause-spares
returns-then-self-eq0-clause-spares c = room-freed c.release.ensures.releases

-- a state that is given up makes no row
pub returns-then-self-eq0-clause-below : goal.returns-then-self-eq0-clause-below
returns-then-self-eq0-clause-below c = λ b W K fewer. omega (arith, c.release.ensures.releases.made)

pub shorten_undo-requires-clause-kept : goal.shorten_undo-requires-clause-kept
shorten_undo-requires-clause-kept c = (c.args.state ∷ c.requires.kept.0, c.requires.kept.1, c.requires.kept.3, omega (arith, c.requires.kept.4))

-- undo has room for the state
cut : (c : After-shorten_undo) (b : List ℕ) (W : Workspace) → Keeps c.args.self.now (c.args.state ∷ b) W
    → TurnsBeside c.args.self.now c.shorten_undo.new.self (c.args.state ∷ b) 0 17 (record W { undo = last_of (c.args.self.now.history - 1) W.undo })
cut c b W K = c.shorten_undo.ensures.turns (c.args.state ∷ b) W K

pub pushed-undo-requires-clause-few : goal.pushed-undo-requires-clause-few
pushed-undo-requires-clause-few c =
    let k = c.requires.kept in
    few-holds (cut (goal.at.pushed-undo-requires-clause-few c).After-shorten_undo k.0 k.1 k.3).turns.keeps (omega (arith, k.4))

pub pushed-undo-requires-clause-held : goal.pushed-undo-requires-clause-held
pushed-undo-requires-clause-held c =
    let k = c.requires.kept in
    let mid = c.shorten_undo.new.self in
    rw c.from_root.ensures (λ l. fewer-holds l (mid.roots.undo ∷ c.args.state ∷ []) k.0 (undo-holds (cut (goal.at.pushed-undo-requires-clause-held c).After-shorten_undo k.0 k.1 k.3).turns.keeps l))

-- fewer than a vector can have, since the bound is within the greatest and one state of it is left
pub pushed-undo-requires-clause-history : goal.pushed-undo-requires-clause-history
pushed-undo-requires-clause-history c =
    let k = c.requires.kept in
    let now = (cut (goal.at.pushed-undo-requires-clause-history c).After-shorten_undo k.0 k.1 k.3).turns.keeps in
    let bound : ℕ = c.args.self.now.history in
    rw c.from_root.ensures (
      c.shorten_undo.new.self.bits,
      last_of (bound - 1) k.1.undo,
      undo-stands now,
      omega (arith, last-few (bound - 1) k.1.undo, k.3.bounded.0, k.3.bounded.1, c.if-self-eq0.false),
    )

pub pushed-undo-requires-clause-spares : goal.pushed-undo-requires-clause-spares
pushed-undo-requires-clause-spares c =
    let k = c.requires.kept in
    (omega arith, omega (arith, c.requires.spares.1, (cut (goal.at.pushed-undo-requires-clause-spares c).After-shorten_undo k.0 k.1 k.3).spare_nodes))

pub returns-clause-turns : goal.returns-clause-turns
returns-clause-turns c = λ b W x K is.
    let mid = c.shorten_undo.new.self in
    let bound : ℕ = c.args.self.now.history in
    let cut_to = cut (goal.at.returns-clause-turns c).After-shorten_undo b W K in
    let some : 1 ≤ W.history = omega (arith, K.bounded.0, c.if-self-eq0.false) in
    let same : undo_with W x ≡ last_of (bound - 1) W.undo ++ x ∷ [] = last-one-more W.history W.undo x some ∙ ap (λ n. last_of (n - 1) W.undo ++ x ∷ []) K.bounded.0 in
    let did = rw c.from_root.ensures at c.pushed-undo.ensures in
    let spent : List ℕ = mid.roots.undo ∷ c.args.state ∷ [] in
    -- the state stands still, since the rows below it stay
    let there = subst (λ (k : ℕ). IsStateIn mid.heap k c.args.state x) (sym cut_to.turns.bits) ((states-stay c.args.self.now.heap mid.heap c.args.self.now.bits c.args.state (cut_to.stays c.args.state (first-counts c.args.state b))).state x is) in
    let bounded : IsBounded mid.history (record W { undo = undo_with W x }) = (cut_to.turns.keeps.bounded.0, K.bounded.1, last-few W.history (W.undo ++ x ∷ [])) in
    let pushed =
    keeps-undo c.pushed-undo.result (undo_with W x) (c.args.state ∷ b) b bounded cut_to.turns.keeps
    (held-beside spent b did.keeps) (trades-beside spent (c.pushed-undo.result ∷ []) b did.trades) (rw same (did.history mid.bits (last_of (bound - 1) W.undo) x (undo-stands cut_to.turns.keeps) there)) in
    rw c.into_root-self.ensures (record {
      turns = turns-by 26 pushed cut_to.turns.bits (rises-then (turns-of cut_to.turns) (rises-trades did.trades));
      stays = λ l held. KeepsBelow-trans c.args.self.now.heap mid.heap c.pushed-undo.new.heap l (cut_to.stays l (omega (arith, count-cons l c.args.state b, held))) (did.keeps.kept l (left-over l spent b (undo-holds cut_to.turns.keeps l) held));
      spare_cells = omega (arith, cut_to.spare_cells, did.trades.cells, did.trades.balance.spare_cells);
      spare_nodes = omega (arith, cut_to.spare_nodes, did.trades.nodes, did.trades.balance.spare_nodes);
    })

-- below the bound no state goes
pub returns-clause-below : goal.returns-clause-below
returns-clause-below c = λ b W K fewer.
    let same = c.shorten_undo.ensures.short (c.args.state ∷ b) W K (omega (arith, K.bounded.0, fewer)) in
    let made : c.shorten_undo.new.self.heap.made ≡ c.args.self.now.heap.made = ap (λ (s : RootedHeap). s.heap.made) same in
    omega (arith, made, c.pushed-undo.ensures.trades.made)

pub returns-clause-spares : goal.returns-clause-spares
returns-clause-spares c = room-then c.shorten_undo.ensures.spares c.pushed-undo.ensures.spares
