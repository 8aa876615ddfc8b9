-- What a row keeps of sums once its last child has an element less or is gone.
use Rattle.std.proofs.Common.{◌≡◌, ℕ, suc, zero, ◌-◌, ◌+◌, ◌*◌, ◌<◌, ◌≤◌, ◌^◌, List, [], ◌∷◌, length, take, get_or, refl, ap, sym, ◌∙◌, arith}
use Rattle.std.specs.List.{flat_map}
use Rattle.std.proofs.lemmas.List.Elements.{All-take}
use Rattle.std.proofs.lemmas.List.{get_or-take, length-take-le, take-take}
use Rattle.node_heap.specs.Forms.{Forms}
use Rattle.node_heap.specs.Heap.{Heap, form_at}
use Rattle.rrb_core.specs.Seq.{seq_at}
use Rattle.rrb_core.specs.Vector.{AreSums, IsRegular, KeepsSums}
use Rattle.rrb_core.specs.Build.{AreRows}
use Rattle.rrb_core.proofs.Lists.{last-sum}
use Rattle.rrb_core.proofs.RowLists.{keeps, keeps-some, rows-take}
use Rattle.edit_vec.specs.Steps.{shrunk}
use Rattle.edit_vec.proofs.GrowLemmas.{keeps-last, sizes-last}

-- the first sums are those of the first children
pub front-sums : {f : ℕ → List ℕ} {ks ss : List ℕ} (m : ℕ) → m ≤ length ks → AreSums ss f ks → AreSums (take m ss) f (take m ks)
front-sums {f} {ks} {ss} m le sums = record {
  count = omega (arith, length-take-le m ss (omega (arith, le, sums.count)), length-take-le m ks le);
  each = λ i lt.
      let low : i < m = omega (arith, lt, length-take-le m ks le) in
      get_or-take m ss i 0 low ∙ sums.each i (omega (arith, low, le)) ∙ ap (λ (xs : List ℕ). length (flat_map f xs)) (sym (take-take (i + 1) m ks (omega (arith, low))));
}

-- the sum before the last of the first sums
pub sum-ahead : (known : List ℕ) (last before : ℕ) → last < length known → (last ≡ 0 → before ≡ 0) → (0 < last → before ≡ get_or known (last - 1) 0) → get_or (0 ∷ take (last + 1) known) last 0 ≡ before
sum-ahead known zero before lt first later = sym (first refl)
sum-ahead known (suc k) before lt first later =
    let down : suc k - 1 ≡ k = omega arith in
    let is : before ≡ get_or known k 0 = rw down at (later (omega arith)) in
    get_or-take (suc k + 1) known k 0 (omega arith) ∙ sym is

-- the sums that were kept, with one less in the last, once the last child has an element less
pub keeps-shrunk : {K : Type 0} {F G : Forms K} (n : ℕ) (ks js ss : List ℕ) → 1 ≤ length ks → length js ≡ length ks → ((j : ℕ) → j < length ks - 1 → j < length ks → length (seq_at G n (get_or js j 0)) ≡ length (seq_at F n (get_or ks j 0)))
    → length (seq_at G n (get_or js (length ks - 1) 0)) + 1 ≡ length (seq_at F n (get_or ks (length ks - 1) 0)) → KeepsSums F n ks ss → KeepsSums G n js (shrunk ss)
keeps-shrunk {K} {F} {G} n ks js ss some count same last s =
    keeps-last n ks js ss (get_or ss (length ss - 1) 0 - 1) some count same (λ sums. omega (arith, (last-sum ss ks (seq_at F n) sums some).1, sizes-last (seq_at F n) (seq_at G n) ks js 1 0 some count same (omega (arith, last)))) s

-- a row that keeps no sums keeps none without its last children
pub regular-front : {K : Type 0} {F : Forms K} {n : ℕ} {ks known : List ℕ} (m : ℕ) → m ≡ length ks - 1 → KeepsSums F n ks known → known ≡ [] → KeepsSums F n (take m ks) []
regular-front {K} {F} {n} {ks} {known} m is s none =
    let full : ℕ → Type 0 = λ k. length (seq_at F n k) ≡ 32 ^ suc n in
    let inner : take (length (take m ks) - 1) (take m ks) ≡ take (length (take m ks) - 1) (take (length ks - 1) ks) = ap (λ (j : ℕ). take (length (take m ks) - 1) (take j ks)) is in
    let all : IsRegular F n (take m ks) = rw inner (All-take full (length (take m ks) - 1) (take (length ks - 1) ks) (s.none.0 none)) in
    record { none = (λ _. all, λ _. refl); kept = λ no. absurd (no all) }

-- and one that keeps some keeps the first of them, or none where all children but the last are full then
pub kept-front : {T : Type 0} (h : Heap T) (n : ℕ) (ks known got : List ℕ) (before last : ℕ) → AreRows h n ks → KeepsSums (form_at h) n ks known → 1 ≤ length known → 2 ≤ length ks → last ≡ length known - 2 → (last ≡ 0 → before ≡ 0) → (0 < last → before ≡ get_or known (last - 1) 0)
    → (before ≡ last * 32 ^ suc n → got ≡ []) → ((before ≡ last * 32 ^ suc n → ⊥) → got ≡ take (last + 1) known) → KeepsSums (form_at h) n (take (length ks - 1) ks) got
kept-front h n ks known got before last rows s some two is first later none kept =
    let sums = keeps-some s some in
    let m : ℕ = length ks - 1 in
    let up : last + 1 ≡ m = omega (arith, is, sums.count, two) in
    let front = front-sums m (omega arith) sums in
    let size : length (take m known) - 1 ≡ last = omega (arith, length-take-le m known (omega (arith, sums.count)), up) in
    let ahead : get_or (0 ∷ take m known) (length (take m known) - 1) 0 ≡ before = rw (size, ← up) (sum-ahead known last before (omega (arith, is, some)) first later) in
    keeps h n (take m ks) (take m known) got (rows-take h n m ks rows (omega arith)) (omega (arith, length-take-le m ks (omega arith), two)) front
    (λ e. none (sym ahead ∙ e ∙ ap (λ (k : ℕ). k * 32 ^ suc n) size))
    (λ no. kept (λ e. no (ahead ∙ e ∙ ap (λ (k : ℕ). k * 32 ^ suc n) (sym size))) ∙ ap (λ (k : ℕ). take k known) up)
