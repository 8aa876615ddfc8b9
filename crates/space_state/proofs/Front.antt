-- What a rooted heap keeps, seen as the pool of its rows.
use Rattle.std.proofs.Common.{◌≡◌, refl, sym, ◌∙◌, ap, subst, ℕ, [], Result, Ok, Err, arith}
use Rattle.std.proofs.lemmas.List.{append-nil}
use Rattle.node_heap.specs.Links.{count}
use Rattle.node_heap.specs.Heap.{holds_at, live_count}
use Rattle.node_heap.specs.Calls.{KeepsToNeed}
use Rattle.rrb_core.specs.Seq.{IsWellShaped}
use Rattle.pool_text.specs.Pool.{row_count, settings_by, forms_in, pool_at}
use Rattle.pool_text.specs.declared.pool.Pool.{Pool}
use Rattle.pool_text.specs.Pool as pools
use Rattle.pool_text.proofs.Held.{nothing-leaks}
use Rattle.pool_check.specs.Damages.{IsValid}
use Rattle.shell_terms.specs.Command.{PlainCommand}
use Rattle.plain_space.specs.declared.refusal.Refusal.{Refusal}
use Rattle.plain_space.specs.Workspace.{Workspace}
use Rattle.state_rows.specs.Standing.{StandsFor}
use Rattle.state_rows.proofs.HeapPools.{pool-stands}
use Rattle.state_rows.proofs.OneSpace.{one-space}
use Rattle.space_state.specs.declared.roots.RootedHeap.{RootedHeap}
use Rattle.space_state.specs.Roots.{root_list, Keeps}
use Rattle.space_state.specs.Turns.{IsCarriedOut, IsRefused, EndsOnRows}
use Rattle.space_state.specs.Needed.{cells_needed, nodes_needed, HoardsNone}
use Rattle.space_state.specs.View.{SpaceView, shown, CarriesOut, KeepsRoom, RefusesCommand, Ends}

-- the pool's bits are those of the space
pub bits-are : (s : RootedHeap) → (shown s).pool.bits ≡ s.bits
unfolding pools.pool
bits-are s = refl

-- and its history is the bound of undo
pub history-is : (s : RootedHeap) → (shown s).pool.history ≡ s.history
unfolding pools.pool
history-is s = refl

one-work : (P : Pool) (V W : Workspace) → StandsFor P V → StandsFor P W → V ≡ W
one-work P V W first second = one-space (forms_in P) (IsWellShaped (forms_in P)) P.bits P.roots V W (first.1 ∙ sym second.1) first.0 second.0

module _ (s : RootedHeap) (W : Workspace) (K : Keeps s [] W) where
  both : IsValid (shown s).pool × StandsFor (shown s).pool W
  both =
      subst (λ (n : ℕ). IsValid (pool_at (λ text. text) s.heap (root_list s.roots) (settings_by s.bits n)) × StandsFor (pool_at (λ text. text) s.heap (root_list s.roots) (settings_by s.bits n)) W) K.bounded.0
      (pool-stands s.heap s.bits (root_list s.roots) W K.graph K.stands K.bits K.bounded.2)

  pub pool-valid : IsValid (shown s).pool
  pool-valid = both.0

  pub pool-is : StandsFor (shown s).pool W
  pool-is = both.1

  -- it stands for no other workspace
  pub keeps-alone : (V : Workspace) → StandsFor (shown s).pool V → Keeps s [] V
  keeps-alone V stands = subst (λ (work : Workspace). Keeps s [] work) (one-work (shown s).pool W V both.1 stands) K

  pub roots-held : (k : ℕ) → holds_at s.heap k ≡ count k (root_list s.roots)
  roots-held k = K.holds k ∙ ap (λ ks. count k ks) (append-nil (root_list s.roots))

  pub rows-are : row_count (shown s).pool ≡ live_count s.heap
  rows-are = nothing-leaks (λ text. text) s.heap (root_list s.roots) (settings_by s.bits s.history) K.graph roots-held

-- the pool that is seen stands for the workspace that the rows keep
pub stood : (s : RootedHeap) {v : SpaceView} → shown s ≡ v → (W : Workspace) × Keeps s [] W → (W : Workspace) × StandsFor v.pool W
stood s is kept = (kept.0, subst (λ (v : SpaceView). StandsFor v.pool kept.0) is (pool-is s kept.0 kept.1))

-- what the rows answer of the workspace that they keep holds of one for which the pool that is seen stands
pub asked : (s : RootedHeap) {v : SpaceView} {P : Workspace → Type 0} → shown s ≡ v → (W : Workspace) × Keeps s [] W → ((W : Workspace) → Keeps s [] W → P W) → (W : Workspace) × StandsFor v.pool W × P W
unfolding stood
asked s is kept told = (kept.0, (stood s is kept).1, told kept.0 kept.1)

-- what was not hoarded by the heap was not by the space
pub room-kept : (old new : RootedHeap) {cells nodes : ℕ} → KeepsToNeed old.heap new.heap cells nodes → KeepsRoom (shown old) (shown new) cells nodes
room-kept old new kept = record { few_cells = omega (arith, kept.few_cells); few_nodes = omega (arith, kept.few_nodes) }

-- what a command that was carried out on the rows did to the pool
pub carried : (command : PlainCommand) (old new : RootedHeap) (W : Workspace) → Keeps old [] W → IsCarriedOut command old new W
    → KeepsToNeed old.heap new.heap (cells_needed command) (nodes_needed old.bits command W) → CarriesOut command (shown old) (shown new) W
carried command old new W K done kept =
    let K' : Keeps new [] done.after = done.turns.keeps in
    let rows : row_count (shown old).pool ≡ live_count old.heap = rows-are old W K in
    let rows' : row_count (shown new).pool ≡ live_count new.heap = rows-are new done.after K' in
    record {
      after = done.after;
      told = done.told;
      valid = pool-valid new done.after K';
      bits = bits-are new ∙ done.turns.bits ∙ sym (bits-are old);
      stands = pool-is new done.after K';
      few = rw (rows, rows', bits-are old) done.turns.few;
      made = rw (rows, rows') done.turns.made;
      few_made = λ placed inside. rw (rows, rows') (done.few_made placed inside);
      room = subst (λ (b : ℕ). KeepsRoom (shown old) (shown new) (cells_needed command) (nodes_needed b command W)) (sym (bits-are old)) (room-kept old new kept);
    }

-- a refusal leaves what a space shows
pub refused : (command : PlainCommand) (old new : RootedHeap) (W : Workspace) (why : Refusal) → Keeps old [] W → IsRefused command old new W why → RefusesCommand command (shown old) (shown new) W why
refused command old new W why K refusal = record { due = refusal.due; same = ap shown refusal.same }

-- how a call on the rows ends, seen by the pool
pub ends-seen : (command : PlainCommand) (old : RootedHeap) (result : Result (Unit {0}) Refusal) (new : RootedHeap) (W : Workspace) →
    Keeps old [] W → EndsOnRows command old result new → HoardsNone command old result new → Ends command (shown old) result (shown new)
ends-seen command old (Ok done) new W K obeys spares = record { work = W; stands = pool-is old W K; ends = carried command old new W K (obeys W K) (spares W K) }
ends-seen command old (Err why) new W K obeys spares = record { work = W; stands = pool-is old W K; ends = refused command old new W why K (obeys W K) }

-- after a call that carries out a command, or refuses it, the roots stand for a workspace still
pub kept-on : (command : PlainCommand) (old : RootedHeap) (result : Result (Unit {0}) Refusal) (new : RootedHeap) → (W : Workspace) × Keeps old [] W → EndsOnRows command old result new → (W : Workspace) × Keeps new [] W
kept-on command old (Ok done) new (W, K) obeys = let is : IsCarriedOut command old new W = obeys W K in (is.after, is.turns.keeps)
kept-on command old (Err why) new (W, K) obeys = let is : IsRefused command old new W why = obeys W K in (W, subst (λ (s : RootedHeap). Keeps s [] W) (sym is.same) K)
