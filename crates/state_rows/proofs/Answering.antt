-- Calls that answer, one after the other: what they add together, what they leave, and how far they raise the number made.
use Rattle.std.proofs.Common.{◌≡◌, ℕ, suc, ◌+◌, ◌≤◌, List, [], ◌∷◌, length, Option, Some, None, IsSome, is_some, refl, sym, subst, arith, inl, inr, get_or}
use Rattle.std.specs.Prelude.{count_by, ◌<◌}
use Rattle.node_heap.specs.Links.{count}
use Rattle.node_heap.specs.Heap.{Heap, row_at, holds_at, hold_count, live_count, one_at, HasSpares, half_holds, most_holds}
use Rattle.node_heap.specs.Calls.{Extends, Makes, MakesJust, Answered}
use Rattle.node_heap.proofs.Frames.{Extends-trans, Balances-trans}
use Rattle.std.proofs.lemmas.Bool.{cases_eq}
use Rattle.node_heap.proofs.BuildLemmas.{count-cons as count-link, count-one}
use Rattle.node_heap.proofs.Counts.{test_same, test_other}
use Rattle.champ_chain.proofs.SetLemmas.{count-cons}

module _ {X : Type 0} where
  none-more : (xs : List (Option X)) → ((l : ℕ) → IsSome (get_or xs l None) → IsSome (get_or {A = Option X} [] l None)) → count_by is_some xs ≤ 0
  none-more [] some = omega arith
  none-more (None ∷ xs) some = omega (arith, count-cons is_some None xs, none-more xs (λ l. some (suc l)))
  none-more (Some x ∷ xs) some = absurd (let h = some 0 refl in cc)

  -- where something stands at each place where something stood, no less stands in all
  some-more : (xs ys : List (Option X)) → ((l : ℕ) → IsSome (get_or xs l None) → IsSome (get_or ys l None)) → count_by is_some xs ≤ count_by is_some ys
  some-more [] ys some = omega arith
  some-more (x ∷ xs) [] some = none-more (x ∷ xs) some
  some-more (None ∷ xs) (y ∷ ys) some = omega (arith, count-cons is_some None xs, count-cons is_some y ys, some-more xs ys (λ l. some (suc l)))
  some-more (Some x ∷ xs) (None ∷ ys) some = absurd (let h = some 0 refl in cc)
  some-more (Some x ∷ xs) (Some y ∷ ys) some = omega (arith, count-cons is_some (Some x) xs, count-cons is_some (Some y) ys, some-more xs ys (λ l. some (suc l)))

module _ {T : Type 0} where
  -- where every row stays there are no fewer
  pub live-more : (old new : Heap T) → Extends old new → live_count old ≤ live_count new
  live-more old new more = some-more old.rows new.rows more.live

  -- two calls, of which the second may spend what the first gives
  pub answered-both : {old mid new : Heap T} {xs ys : List ℕ} {v w c n c' n' : ℕ} (spent : List ℕ) → Answered old mid xs v c n → Answered mid new ys w c' n'
      → ((k : ℕ) → count k xs + count k ys ≡ one_at v k + count k spent) → length xs + length ys ≡ 1 + length spent → Answered old new spent w (c + c') (n + n')
  answered-both spent first second each whole = record {
    extends = Extends-trans first.extends second.extends;
    graph = second.graph;
    holds = λ k. omega (arith, first.holds k, second.holds k, each k);
    count = omega (arith, first.count, second.count, whole);
    cells = omega (arith, first.cells, second.cells);
    nodes = omega (arith, first.nodes, second.nodes);
    balance = Balances-trans first.balance second.balance;
  }

  -- the second spends what the first gives
  pub answered-then : {old mid new : Heap T} {xs : List ℕ} {v w c n c' n' : ℕ} → Answered old mid xs v c n → Answered mid new (v ∷ []) w c' n' → Answered old new xs w (c + c') (n + n')
  answered-then {xs = xs} {v = v} first second = answered-both xs first second (λ k. omega (arith, count-one k v)) (omega arith)

  -- a row over two links of which one was held besides
  pub answered-over : {old mid new : Heap T} (spent shared first second : ℕ) {result : ℕ} → Answered old mid [] shared 0 0 → Answered mid new (first ∷ second ∷ []) result 0 1
      → ((k : ℕ) → one_at first k + one_at second k ≡ one_at spent k + one_at shared k) → Answered old new (spent ∷ []) result 0 1
  answered-over spent shared first second holding making each =
      answered-both (spent ∷ []) holding making (λ k. omega (arith, each k, count-link k first (second ∷ []), count-one k second, count-one k spent)) (omega arith)

  -- the same with more room
  pub answered-more : {old new : Heap T} {xs : List ℕ} {w c n : ℕ} (c' n' : ℕ) → Answered old new xs w c n → c ≤ c' → n ≤ n' → Answered old new xs w c' n'
  answered-more c' n' a more_cells more_nodes = record {
    extends = a.extends;
    graph = a.graph;
    holds = a.holds;
    count = a.count;
    cells = omega (arith, a.cells, more_cells);
    nodes = omega (arith, a.nodes, more_nodes);
    balance = a.balance;
  }

  -- the spares that a call leaves
  pub answered-spares : {old new : Heap T} {xs : List ℕ} {w c n : ℕ} (c' n' : ℕ) → Answered old new xs w c n → HasSpares old (c + c') (n + n') → HasSpares new c' n'
  answered-spares c' n' a spares = (omega (arith, a.cells, a.balance.spare_cells, spares.0), omega (arith, a.nodes, a.balance.spare_nodes, spares.1))

  -- one hold is there where some are
  pub one-held : (h : Heap T) (l : ℕ) → 0 < holds_at h l → (k : ℕ) → one_at l k ≤ holds_at h k
  one-held h l held k = elim (cases_eq l k) as (λ _. one_at l k ≤ holds_at h k) [
    | inl same ↦ let some : 0 < holds_at h k = subst (λ j. 0 < holds_at h j) same held in omega (arith, some, test_same k l (sym same))
    | inr other ↦ omega (arith, test_other k l (λ e. other (sym e)))
  ]

  pub answered-gives : {old new : Heap T} {w c n : ℕ} → Answered old new [] w c n → 0 < holds_at new w
  answered-gives {w = w} a = omega (arith, a.holds w, test_same w w refl)

  -- the number made rises by just the rows that came
  pub just-then : {old mid new : Heap T} → Extends old mid → Extends mid new → MakesJust old mid → MakesJust mid new → MakesJust old new
  just-then {old} {mid} {new} more others first second = omega (arith, first, second, live-more old mid more, live-more mid new others)

  pub just-makes : {old new : Heap T} {c n : ℕ} → Makes old new c n → MakesJust old new
  just-makes makes = omega (arith, makes.made, makes.live)

  -- one part of a state was made, the other is there: all that the row over both asks for
  pub record IsReady (h : Heap T) (part other : ℕ) : Type 0 where
    pub few : hold_count h + 1 < most_holds
    pub held : 0 < holds_at h part
    pub live : IsSome (row_at h other)
    pub spares : HasSpares h 0 1

  -- a call made the part, of spares that leave a node
  module _ {old mid : Heap T} {xs : List ℕ} {part c n : ℕ} (first : Answered old mid xs part c n) where
    pub ready : {other l more : ℕ} → HasSpares old c more → n + 1 ≤ more → hold_count old < half_holds → 0 < holds_at mid part → IsSome (row_at old l) → other ≡ l → IsReady mid part other
    ready {l = l} spares enough few held live there = record {
      few = omega (arith, few, first.count);
      held = held;
      live = subst (λ (k : ℕ). IsSome (row_at mid k)) (sym there) (first.extends.live l live);
      spares = answered-spares 0 1 first (omega (arith, spares.0), omega (arith, spares.1, enough));
    }

    -- and then the row over both was made
    module _ {new : Heap T} {result : ℕ} (row : Answered mid new (part ∷ []) result 0 1) where
      pub answered-row : {more : ℕ} → n + 1 ≤ more → Answered old new xs result c more
      answered-row {more} enough = answered-more c more (answered-then first row) (omega arith) (omega (arith, enough))

      pub just-row : MakesJust old mid → Makes mid new 0 1 → MakesJust old new
      just-row made makes = just-then first.extends row.extends made (just-makes makes)
