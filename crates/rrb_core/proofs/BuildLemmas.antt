-- Steps that add rows, in the words of an edit, and the vectors that stay.
use Rattle.std.proofs.Common.{◌≡◌, ℕ, ◌≤◌, List, [], ◌∷◌, ◌++◌, refl, ap, ◌∙◌, arith, length-append, Option, Some, None, IsSome}
use Rattle.std.specs.Prelude.{Result, Ok, Err, IsOk, OnOk, option_map}
use Rattle.node_heap.specs.Links.{count}
use Rattle.node_heap.specs.Forms.{Row, form_of}
use Rattle.node_heap.specs.Heap.{Heap, row_at, form_at, holds_at, IsGraph}
use Rattle.node_heap.specs.Calls.{SameRows, Adds, AddsOwner, Extends, Unchanged, Answered, Builds, MakesJust, KeepsOldOwners}
use Rattle.node_heap.proofs.BuildLemmas.{count-cons, count-one, count-append, Builds-as, Builds-beside, Builds-MakesJust}
use Rattle.rrb_core.specs.Seq.{form_height}
use Rattle.rrb_core.specs.Vector.{height_at, IsSameVector}
use Rattle.rrb_core.specs.Build.{Shares}
use Rattle.rrb_core.proofs.LinkCounts.{one-held, one-same, one-other}
use Rattle.rrb_core.proofs.Stays.{live-stays-by, good-stays, well-live, extended-same}

pub on-ok : {A E : Type 0} {P : Type 0} (r : Result A E) → IsOk r → OnOk r P → P
on-ok (Ok x) ok p = p
on-ok (Err e) ok p = absurd cc

module _ {T : Type 0} where
  -- what is gained for one held link is held
  pub builds-held : {a b : Heap T} {gained : List ℕ} {n : ℕ} (x : ℕ) → 1 ≤ holds_at a x → Builds a b (x ∷ []) gained 0 n → (k : ℕ) → count k gained ≤ holds_at b k
  builds-held {a} x some b k = omega (arith, b.holds k, one-held x 0 (holds_at a) some k)

  -- the one row that is gained for held links is held
  pub gained-held : {a b : Heap T} {spent : List ℕ} {m n : ℕ} → Builds a b spent (m ∷ []) 0 n → ((k : ℕ) → count k spent ≤ holds_at a k) → 1 ≤ holds_at b m
  gained-held {m = m} b held = omega (arith, b.holds m, held m, count-one m m, one-same m m refl)

  -- one hold more besides
  pub builds-pair : {a b c : Heap T} {m l n : ℕ} (x : ℕ) → Builds a b (x ∷ []) (m ∷ []) 0 n → Builds b c [] (l ∷ []) 0 0 → Builds a c (x ∷ []) (l ∷ m ∷ []) 0 n
  builds-pair {m = m} {l = l} {n = n} x first second =
      Builds-as (x ∷ []) (l ∷ m ∷ []) 0 n (Builds-beside first second) (omega arith) (omega arith) (λ k. omega (arith, count-cons k l (m ∷ []), count-cons k m (l ∷ []), count-one k m, count-one k l)) (omega arith)

  -- what is gained, before links that stay as they are
  pub builds-before : {a b : Heap T} {gained : List ℕ} (middle : List ℕ) → Builds a b [] gained 0 0 → Builds a b middle (gained ++ middle) 0 0
  builds-before {gained = gained} middle b = Builds-as middle (gained ++ middle) 0 0 b (omega arith) (omega arith) (λ k. omega (arith, count-append k gained middle)) (omega (arith, length-append gained middle))

  -- a vector where only spares changed
  pub unchanged-good : {old new : Heap T} (l : ℕ) → Unchanged old new → IsSameVector old new l
  unchanged-good {old} {new} l same good =
      let stays = live-stays-by old new same.rows same.graph in
      good-stays stays l (well-live old (height_at old l) l good.shape.well) good

  -- where the rows are the same, so are forms and heights
  pub same-forms : (old new : Heap T) → SameRows old new → (k : ℕ) → form_at new k ≡ form_at old k
  same-forms old new same k = ap (option_map form_of) (same k)

  pub same-height : (old new : Heap T) (l : ℕ) → SameRows old new → height_at new l ≡ height_at old l
  same-height old new l same = ap form_height (same-forms old new same l)

  -- every vector stays in a call that answers
  pub answered-same : {old new : Heap T} {spent : List ℕ} {result c n : ℕ} → Answered old new spent result c n → (l : ℕ) → IsSameVector old new l
  answered-same a = extended-same a.extends

  -- nothing is done
  pub unchanged-refl : (h : Heap T) → IsGraph h → Unchanged h h
  unchanged-refl h graph =
      record { rows = λ k. refl; holds = λ k. refl; count = refl; cells = refl; nodes = refl; live = refl; made = refl; spare_cells = omega arith; spare_nodes = omega arith; graph = graph }

  -- a vector that is held once more makes nothing
  pub shares-just : {old new : Heap T} {l : ℕ} → IsGraph old → Shares old new l → MakesJust old new
  shares-just {old} graph s = Builds-MakesJust (unchanged-refl old graph) s.builds

  -- a new row leaves the owners of those that were there
  pub added-keeps-owners : {old new : Heap T} {link : ℕ} {r : Row T} → Adds old new link r → AddsOwner old new link → KeepsOldOwners old new
  added-keeps-owners {old} {link = link} a o = λ k live. omega (arith, o k, one-other k link (λ same. let gone : row_at old k ≡ None = ap (row_at old) same ∙ a.fresh in absurd cc))

  -- a row that is new later wasn't there before
  pub fresh-before : {old mid : Heap T} (l : ℕ) → Extends old mid → row_at mid l ≡ None → row_at old l ≡ None
  fresh-before {old} {mid} l ext none = not-there (row_at old l) (λ live. let later = ext.live l live in absurd cc)
    where
      not-there : (r : Option (Row T)) → (IsSome r → ⊥) → r ≡ None
      not-there None refused = refl
      not-there (Some x) refused = absurd (refused refl)
