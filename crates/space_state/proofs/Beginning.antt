-- What a new space keeps.
use Rattle.std.proofs.Common.{◌≡◌, ℕ, ◌≤◌, List, [], length, IsSome, None, refl, ap, sym, subst, arith}
use Rattle.std.specs.FinMap as map
use Rattle.elem_core.specs.declared.codes.TheConstants.{CODE_BITS}
use Rattle.node_heap.specs.Links.{count}
use Rattle.node_heap.specs.Heap.{Heap, row_at, holds_at, hold_count}
use Rattle.node_heap.specs.Calls.{Answered}
use Rattle.node_heap.proofs.Counts.{test_same}
use Rattle.shell_terms.specs.Edit.{Bytes}
use Rattle.plain_space.specs.Workspace.{blank, start}
use Rattle.state_rows.specs.Stay.{StandsOn}
use Rattle.state_rows.specs.InHeap.{IsStateIn, AreVersionsIn, IsHistoryIn}
use Rattle.state_rows.specs.Standing.{IsBase}
use Rattle.state_rows.proofs.Staying.{states-stay}
use Rattle.space_state.specs.declared.roots.Batch.TheVariants.{Closed}
use Rattle.space_state.specs.declared.roots.RootedHeap.{RootedHeap}
use Rattle.space_state.specs.Roots.{base_of, IsBounded, Keeps}
use Rattle.space_state.proofs.Keeping.{roots-count, keeps-of}

-- what a call gives is there
gained-there : {old new : Heap Bytes} {l c n : ℕ} → Answered old new [] l c n → IsSome (row_at new l)
gained-there {l = l} a = a.graph.held l (omega (arith, a.holds l, test_same l l refl))

-- what is there stands on through a call
stays : {old new : Heap Bytes} {spent : List ℕ} {l c n : ℕ} → Answered old new spent l c n → (bits k : ℕ) → IsSome (row_at old k) → StandsOn old new bits k
stays {old} {new} a bits k live = states-stay old new bits k (a.extends.kept k live)

-- four calls from a heap without holds make the roots of a space that has nothing
pub starts : (s : RootedHeap) (h0 h1 h2 h3 : Heap Bytes) → s.roots.batch ≡ Closed → s.bits ≤ CODE_BITS → IsBounded s.history start → ((k : ℕ) → holds_at h0 k ≡ 0) → hold_count h0 ≡ 0
    → Answered h0 h1 [] s.roots.current 0 3 → Answered h1 h2 [] s.roots.versions 0 1 → Answered h2 h3 [] s.roots.undo 0 1 → Answered h3 s.heap [] s.roots.redo 0 1
    → IsStateIn h1 s.bits s.roots.current blank → AreVersionsIn h2 s.bits s.roots.versions map.empty → IsHistoryIn h3 s.bits s.roots.undo [] → IsHistoryIn s.heap s.bits s.roots.redo [] → Keeps s [] start
starts s h0 h1 h2 h3 closed small bounded unheld none g1 g2 g3 g4 state versions undo redo =
    let c : ℕ = s.roots.current in
    let v : ℕ = s.roots.versions in
    let u : ℕ = s.roots.undo in
    let r : ℕ = s.roots.redo in
    let state2 = (stays g2 s.bits c (gained-there g1)).state blank state in
    let c2 = g2.extends.live c (gained-there g1) in
    let state3 = (stays g3 s.bits c c2).state blank state2 in
    let state4 = (stays g4 s.bits c (g3.extends.live c c2)).state blank state3 in
    let versions3 = (stays g3 s.bits v (gained-there g2)).versions map.empty versions in
    let versions4 = (stays g4 s.bits v (g3.extends.live v (gained-there g2))).versions map.empty versions3 in
    let undo4 = (stays g4 s.bits u (gained-there g3)).history [] undo in
    let base : base_of s.roots.batch ≡ [] = ap base_of closed in
    keeps-of s [] start g4.graph small bounded (state4, versions4, undo4, redo, subst (λ (ls : List ℕ). IsBase (IsStateIn s.heap s.bits) ls None) (sym base) tt)
    (λ k. omega (
      arith,
      unheld k,
      g1.holds k,
      g2.holds k,
      g3.holds k,
      g4.holds k,
      roots-count s.roots k,
      ap (count k) base,
    )) (omega (arith, none, g1.count, g2.count, g3.count, g4.count, ap (λ (ls : List ℕ). length ls) base))
