-- How a checked pool takes the place of all rows.
use Rattle.std.proofs.Common.{◌≡◌, ℕ, Bool, true, false, List, [], ◌∷◌, get_or, length, Result, Ok, Err, refl, sym, ap, subst, ◌∙◌, arith, length-append}
use Rattle.std.specs.Prelude.{IsErrAnd, MatchBool, MatchResult}
use Rattle.node_heap.specs.Links.{count}
use Rattle.node_heap.specs.Heap.{Heap, IsGraph}
use Rattle.node_heap.specs.Calls.{Releases}
use Rattle.node_heap.proofs.Frames.{KeepsHeld-Releases}
use Rattle.node_heap.proofs.BuildLemmas.{count-cons, count-append}
use Rattle.pool_text.specs.Pool.{Settings, settings_by, settings_of, pool_at, at_present_version, pool}
use Rattle.pool_text.specs.declared.pool.Pool.{Pool}
use Rattle.pool_text.proofs.Held.{pools-stay}
use Rattle.pool_load.specs.Loads.{Loads, AreLoaded}
use Rattle.shell_terms.specs.Edit.{Bytes}
use Rattle.plain_space.specs.declared.refusal.Refusal.{Refusal}
use Rattle.plain_space.specs.declared.refusal.Refusal.TheVariants.{Batch as InBatch, Memory}
use Rattle.plain_space.specs.Workspace.{Workspace, in_batch}
use Rattle.state_rows.specs.Standing.{StandsFor}
use Rattle.state_rows.proofs.HeapRoots.{roots-stand}
use Rattle.state_rows.proofs.ValidSpace.{valid-stands}
use Rattle.space_state.specs.declared.roots.Roots.{Roots}
use Rattle.space_state.specs.declared.roots.RootedHeap.{RootedHeap}
use Rattle.space_state.specs.Roots.{root_list, Keeps}
use Rattle.space_state.specs.View.{shown, TakesRows, IsTaken, EndsTaking, TakesPool}
use Rattle.space_state.proofs.Keeping.{keeps-holds, root-held, held-live}
use Rattle.space_state.proofs.Front.{pool-is, room-kept}

-- a list of four is its elements
pub four : (ks : List ℕ) (a b c d : ℕ) → length ks ≡ 4 → a ≡ get_or ks 0 a → b ≡ get_or ks 1 b → c ≡ get_or ks 2 c → d ≡ get_or ks 3 d → ks ≡ a ∷ b ∷ c ∷ d ∷ []
four [] a b c d many first second third fourth = absurd (omega (arith, many))
four (x ∷ []) a b c d many first second third fourth = absurd (omega (arith, many))
four (x ∷ y ∷ []) a b c d many first second third fourth = absurd (omega (arith, many))
four (x ∷ y ∷ z ∷ []) a b c d many first second third fourth = absurd (omega (arith, many))
four (x ∷ y ∷ z ∷ w ∷ []) a b c d many first second third fourth =
    ap (λ n. n ∷ y ∷ z ∷ w ∷ []) (sym first) ∙ ap (λ n. a ∷ n ∷ z ∷ w ∷ []) (sym second) ∙ ap (λ n. a ∷ b ∷ n ∷ w ∷ []) (sym third) ∙ ap (λ n. a ∷ b ∷ c ∷ n ∷ []) (sym fourth)
four (x ∷ y ∷ z ∷ w ∷ v ∷ ks) a b c d many first second third fourth = absurd (omega (arith, many))

-- nothing is held besides
pub keeps-alone : {s : RootedHeap} {b : List ℕ} {W : Workspace} → b ≡ [] → Keeps s b W → Keeps s [] W
keeps-alone {s} {b} {W} none K = subst (λ (ks : List ℕ). Keeps s ks W) none K

-- how a call that takes a pool ends in a batch, where it lacks memory, and where it is done
module _ (W : Workspace) (Done AsBefore : Type 0) where
  pub taking-batch : (r : Result (Unit {0}) Refusal) → in_batch W ≡ true → r ≡ Err InBatch → AsBefore → EndsTaking W r Done AsBefore
  taking-batch r inside is same = subst (λ b. MatchBool b ((r ≡ Err InBatch) × AsBefore) (MatchResult r (λ _. Done) (λ why. (why ≡ Memory) × AsBefore))) (sym inside) (is, same)

  pub taking-memory : (r : Result (Unit {0}) Refusal) → in_batch W ≡ false → IsErrAnd r (λ why. why ≡ Memory) → AsBefore → EndsTaking W r Done AsBefore
  taking-memory (Ok done) outside is same = absurd is
  taking-memory (Err why) outside is same =
      let r : Result (Unit {0}) Refusal = Err why in
      subst (λ b. MatchBool b ((r ≡ Err InBatch) × AsBefore) (MatchResult r (λ _. Done) (λ e. (e ≡ Memory) × AsBefore))) (sym outside) (is, same)

  pub taking-done : (r : Result (Unit {0}) Refusal) → in_batch W ≡ false → r ≡ Ok tt → Done → EndsTaking W r Done AsBefore
  taking-done r outside is done =
      subst (λ b. MatchBool b ((r ≡ Err InBatch) × AsBefore) (MatchResult r (λ _. Done) (λ why. (why ≡ Memory) × AsBefore))) (sym outside)
      (subst (λ (q : Result (Unit {0}) Refusal). MatchResult q (λ _. Done) (λ why. (why ≡ Memory) × AsBefore)) (sym is) done)

-- where a hold is given up besides, the roots have the same pool
pub pool-released : {s : RootedHeap} {b : List ℕ} {W : Workspace} {new : Heap Bytes} {l : ℕ} → Keeps s (l ∷ b) W → Releases s.heap new l → IsGraph new
    → pool_at (λ text. text) new (root_list s.roots) (settings_by s.bits s.history) ≡ pool_at (λ text. text) s.heap (root_list s.roots) (settings_by s.bits s.history)
pool-released {s} {b} {W} {new} {l} K rel graph =
    pools-stay (λ text. text) s.heap new (root_list s.roots) (settings_by s.bits s.history) K.graph graph (λ r root. held-live K r (root-held K r root))
    (λ r root. (KeepsHeld-Releases s.heap new l rel graph).kept r (omega (arith, keeps-holds K r, count-cons r l b, root)))

-- by the version of the pools that are made a pool is the same but for that
pool-at-present : (h : Heap Bytes) (links : List ℕ) (settings : Settings) → pool_at (λ text. text) h links (settings_by settings.bits settings.history) ≡ at_present_version (pool_at (λ text. text) h links settings)
unfolding pool
pool-at-present h links settings = refl

module _ (s : RootedHeap) (W : Workspace) (K : Keeps s [] W) (h : Heap Bytes) (P : Pool) (roots : Roots) (history : ℕ) (links : List ℕ) (loads : Loads s.heap h links P) (same : links ≡ root_list roots)
    (bits : P.bits ≡ s.bits) (bound : history ≡ P.history) (all : AreLoaded (λ text. text) h links P) where
  abbrev pub loaded : RootedHeap
  loaded = record s { heap = h; roots = roots; history = history }

  pub pool-loaded : pool_at (λ text. text) h (root_list roots) (settings_by s.bits history) ≡ at_present_version P
  pool-loaded =
      sym (ap (λ (ks : List ℕ). pool_at (λ text. text) h ks (settings_by s.bits history)) same)
      ∙ sym (ap (λ b. pool_at (λ text. text) h links (settings_by b history)) bits)
      ∙ ap (λ n. pool_at (λ text. text) h links (settings_by P.bits n)) bound
      ∙ pool-at-present h links (settings_of P) ∙ ap at_present_version all.pool

  -- the new roots stand for what the pool stands for, and the old roots are held besides
  pub keeps-loaded : (after : Workspace) × Keeps loaded (root_list s.roots) after
  keeps-loaded =
      let stands = valid-stands P all.checked.valid in
      let same_bound : stands.0.history ≡ history = stands.1.1 ∙ sym bound in
      let made : StandsFor (pool_at (λ text. text) h (root_list roots) (settings_by s.bits history)) stands.0 = subst (λ (Q : Pool). StandsFor Q stands.0) (sym pool-loaded) stands.1 in
      let there : StandsFor (pool_at (λ text. text) h (root_list roots) (settings_by s.bits stands.0.history)) stands.0 =
      subst (λ (n : ℕ). StandsFor (pool_at (λ text. text) h (root_list roots) (settings_by s.bits n)) stands.0) (sym same_bound) made in (
        stands.0,
        record {
          graph = loads.graph;
          bits = K.bits;
          bounded = (same_bound, omega (arith, stands.1.1, all.checked.history.within), stands.2);
          stands = roots-stand h s.bits (root_list roots) stands.0 loads.graph (λ r root. all.live r (omega (arith, ap (count r) same, root))) (λ r l root down. all.sums r l (omega (arith, ap (count r) same, root)) down) there;
          holds = λ k. omega (arith, loads.holds k, K.holds k, count-append k (root_list s.roots) [], count-append k (root_list roots) (root_list s.roots), ap (count k) same);
          total = omega (arith, loads.count, K.total, length-append (root_list s.roots) [], length-append (root_list roots) (root_list s.roots), ap (λ (ks : List ℕ). length ks) same);
        },
      )

-- how a call on the rows that takes a pool ends, seen by the pool
pub taken-seen : (P : Pool) (old : RootedHeap) (result : Result (Unit {0}) Refusal) (new : RootedHeap) (W : Workspace) → Keeps old [] W
    → EndsTaking W result (TakesRows P old new) (new ≡ old) → TakesPool P (shown old) result (shown new)
taken-seen P old result new W K ends = record { work = W; stands = pool-is old W K; ends = by_batch (in_batch W) result ends }
  where
    by_batch : (b : Bool) (r : Result (Unit {0}) Refusal)
        → MatchBool b ((r ≡ Err InBatch) × (new ≡ old)) (MatchResult r (λ _. TakesRows P old new) (λ why. (why ≡ Memory) × (new ≡ old)))
        → MatchBool b ((r ≡ Err InBatch) × (shown new ≡ shown old)) (MatchResult r (λ _. IsTaken P (shown old) (shown new)) (λ why. (why ≡ Memory) × (shown new ≡ shown old)))
    by_batch true r told = (told.0, ap shown told.1)
    by_batch false (Ok done) told = record { pool = told.pool; made = told.made; room = room-kept old new told.room }
    by_batch false (Err why) told = (told.0, ap shown told.1)

-- after such a call the roots stand for a workspace still
pub taken-kept : (P : Pool) (old : RootedHeap) (result : Result (Unit {0}) Refusal) (new : RootedHeap) → (W : Workspace) × Keeps old [] W
    → ((W : Workspace) → Keeps old [] W → EndsTaking W result (TakesRows P old new) (new ≡ old)) → (W : Workspace) × Keeps new [] W
taken-kept P old result new (W, K) ends = by_batch (in_batch W) result (ends W K)
  where
    by_batch : (b : Bool) (r : Result (Unit {0}) Refusal)
        → MatchBool b ((r ≡ Err InBatch) × (new ≡ old)) (MatchResult r (λ _. TakesRows P old new) (λ why. (why ≡ Memory) × (new ≡ old))) → (V : Workspace) × Keeps new [] V
    by_batch true r told = (W, subst (λ (s : RootedHeap). Keeps s [] W) (sym told.1) K)
    by_batch false (Ok done) told = (told.after, told.keeps)
    by_batch false (Err why) told = (W, subst (λ (s : RootedHeap). Keeps s [] W) (sym told.1) K)
