-- Links for all holds, as random turns make, write and free rows.
use Rattle.std.proofs.Common.{◌≡◌, ◌≢◌, ℕ, ◌+◌, ◌-◌, ◌<◌, List, [], ◌∷◌, ◌++◌, length, get_or, set, take, drop, cond, eqb, ap, sym, subst, ◌∙◌, arith, None, IsSome, inl, inr}
use Rattle.std.specs.Prelude.{remove, Result, Ok, Err, IsOk, OnOk}
use Rattle.std.proofs.lemmas.Bool.{cases_eq}
use Rattle.std.specs.List.{refill}
use Rattle.std.proofs.Math.Seq.{take-append_seam, drop-append_seam}
use Rattle.std.proofs.lemmas.List.{length-append, length-set, get_or_read, take_rest}
use Rattle.std.proofs.lemmas.List.Edits.{length-remove}
use Rattle.std.proofs.lemmas.List.Sums.{sum_by-set, sum_by-remove}
use Rattle.node_heap.specs.Links.{count, Reaches}
use Rattle.arrayvec.specs.ArrayVec.{ArrayVec}
use Rattle.node_heap.specs.Forms.{cell, is_node}
use Rattle.node_heap.specs.Heap.{Heap, row_at, links_at, holds_at, owners_at, hold_count, one_at, IsGraph}
use Rattle.node_heap.specs.Calls.{Unchanged, Adds, AddsOwner, Builds, Releases, Trades}
use Rattle.node_heap.proofs.CallerLemmas.{count-cons, count-one, count-append, count-at, one_at-flip, test_other}
use Rattle.container_tests.specs.Turns.{AreHeld}
use Rattle.container_tests.proofs.RowLemmas.{cell-reaches}

count-last : (k x : ℕ) (xs : List ℕ) → count k (xs ++ x ∷ []) ≡ count k xs + one_at x k
count-last k x xs = omega (arith, count-append k xs (x ∷ []), count-one k x, one_at-flip k x)

-- a list that was lent whole and written at one index
refilled : (held items : List ℕ) → length items ≡ length held → refill (length held) held items ≡ items
refilled held items long = subst (λ n. take n (items ++ drop (length items) held) ≡ items) long (take-append_seam items (drop (length items) held))

set-back : (held now : List ℕ) (at x : ℕ) → now ≡ held → refill (length held) held (set now at x) ≡ set held at x
set-back held now at x lent = refilled held (set now at x) (length-set now at x ∙ ap length lent) ∙ ap (λ ks. set ks at x) lent

-- what was appended to a list is the part behind its old length
on-ok : {A E P : Type 0} (r : Result A E) → IsOk r → OnOk r P → P
on-ok (Ok x) ok p = p
on-ok (Err e) ok p = absurd cc

pub appended : {A E : Type 0} (r : Result A E) (items held more ks : List ℕ) → IsOk r → OnOk r (items ≡ held ++ more) → more ≡ ks → items ≡ held ++ ks
appended r items held more ks ok are same = on-ok r ok are ∙ ap (λ (xs : List ℕ). held ++ xs) same

pub part-behind : (items held more ls : List ℕ) (start : ℕ) → ls ≡ items → items ≡ held ++ more → start ≡ length held → take (length ls - start) (drop start ls) ≡ more
part-behind items held more ls start same all at = take_rest ls start ∙ rw (same, all, at) (drop-append_seam held more)

module _ {T : Type 0} where
  -- what is held has a row
  pub held-live : {h : Heap T} {held : List ℕ} → AreHeld h held → (k : ℕ) → 0 < count k held → IsSome (row_at h k)
  held-live are k some = are.graph.held k (omega (arith, are.each k, some))

  -- the same heap and the same links
  pub held-as : {old new : Heap T} {held items : ArrayVec ℕ} → new ≡ old → items ≡ held → AreHeld old held.items → AreHeld new items.items
  held-as same all are = rw (same, all) are

  -- as many holds as before
  pub held-unchanged : {old new : Heap T} {held : List ℕ} → Unchanged old new → AreHeld old held → AreHeld new held
  held-unchanged u are = record { graph = u.graph; each = λ k. omega (arith, are.each k, u.holds k); total = omega (arith, are.total, u.count) }

  pub held-traded : {old new : Heap T} {held : List ℕ} {c n : ℕ} → Trades old new [] [] c n → AreHeld old held → AreHeld new held
  held-traded t are = record { graph = t.graph; each = λ k. omega (arith, are.each k, t.holds k); total = omega (arith, are.total, t.total) }

  -- a link comes
  pub held-pushed : {old new : Heap T} {held items : List ℕ} (x : ℕ) → IsGraph new → ((k : ℕ) → holds_at new k ≡ holds_at old k + one_at x k) → hold_count new ≡ hold_count old + 1 → items ≡ held ++ x ∷ [] → AreHeld old held → AreHeld new items
  held-pushed {held = held} x graph holds total is are = record {
    graph = graph;
    each = λ k. omega (arith, are.each k, holds k, ap (count k) is, count-last k x held);
    total = omega (arith, are.total, total, ap length is, length-append held (x ∷ []));
  }

  -- the links of a list come
  pub held-all : {old new : Heap T} {held items : List ℕ} (more : List ℕ) → IsGraph new → ((k : ℕ) → holds_at new k ≡ holds_at old k + count k more) → hold_count new ≡ hold_count old + length more → items ≡ held ++ more → AreHeld old held → AreHeld new items
  held-all {held = held} more graph holds total is are = record {
    graph = graph;
    each = λ k. omega (arith, are.each k, holds k, ap (count k) is, count-append k held more);
    total = omega (arith, are.total, total, ap length is, length-append held more);
  }

  -- all that was held stands in a row
  pub held-gathered : {old new : Heap T} {held items : List ℕ} {x c n : ℕ} → Builds old new held (x ∷ []) c n → items ≡ [] ++ x ∷ [] → AreHeld old held → AreHeld new items
  held-gathered {x = x} b is are = record {
    graph = b.graph;
    each = λ k. omega (arith, are.each k, b.holds k, ap (count k) is);
    total = omega (arith, are.total, b.total, ap length is);
  }

  -- a row was made, held once
  pub held-built : {old new : Heap T} {held items : List ℕ} {x c n : ℕ} → Builds old new [] (x ∷ []) c n → items ≡ held ++ x ∷ [] → AreHeld old held → AreHeld new items
  held-built {x = x} b is are = held-pushed x b.graph (λ k. omega (arith, b.holds k, count-one k x, one_at-flip k x)) (omega (arith, b.total)) is are

  -- a row was made with a hold that was taken for it
  pub held-with : {old mid new : Heap T} {held items : List ℕ} {l x c n : ℕ} → ((k : ℕ) → holds_at mid k ≡ holds_at old k + one_at l k) → hold_count mid ≡ hold_count old + 1 → Builds mid new (l ∷ []) (x ∷ []) c n → items ≡ held ++ x ∷ [] → AreHeld old held → AreHeld new items
  held-with {l = l} {x = x} holds total b is are = held-pushed x b.graph (λ k. omega (arith, holds k, b.holds k, count-one k l, one_at-flip k l, count-one k x, one_at-flip k x)) (omega (arith, total, b.total)) is are

  -- a link went out of a row, or another came in its place
  pub held-out : {old new : Heap T} {held items : List ℕ} {x c n : ℕ} → Trades old new [] (x ∷ []) c n → items ≡ held ++ x ∷ [] → AreHeld old held → AreHeld new items
  held-out {x = x} t is are = held-pushed x t.graph (λ k. omega (arith, t.holds k, count-one k x, one_at-flip k x)) (omega (arith, t.total)) is are

  pub held-in-place : {old mid new : Heap T} {held items : List ℕ} {x y c n : ℕ} {v : T} → Adds old mid x (cell v) → hold_count mid ≡ hold_count old + 1 → Trades mid new (x ∷ []) (y ∷ []) c n → items ≡ held ++ y ∷ [] → AreHeld old held → AreHeld new items
  held-in-place {x = x} {y = y} adds total t is are = held-pushed y t.graph (λ k. omega (arith, adds.holds k, t.holds k, count-one k x, one_at-flip k x, count-one k y, one_at-flip k y)) (omega (arith, total, t.total)) is are

  pub held-in : {old mid new : Heap T} {held : List ℕ} {x c n : ℕ} {v : T} → Adds old mid x (cell v) → hold_count mid ≡ hold_count old + 1 → Trades mid new (x ∷ []) [] c n → AreHeld old held → AreHeld new held
  held-in {x = x} adds total t are = record { graph = t.graph; each = λ k. omega (arith, are.each k, adds.holds k, t.holds k, count-one k x, one_at-flip k x); total = omega (arith, are.total, total, t.total) }

  -- a link goes
  pub held-removed : {old new : Heap T} {held items : List ℕ} {x : ℕ} (at : ℕ) → IsGraph new → Releases old new x → at < length held → x ≡ get_or held at x → items ≡ remove held at → AreHeld old held → AreHeld new items
  held-removed {held = held} {x = x} at graph gone inside is rest are = record {
    graph = graph;
    each = λ k. omega (arith, are.each k, gone.holds k, ap (count k) rest, sum_by-remove (λ j. cond (eqb j k) 1 0) held at x inside, ap (λ j. one_at j k) is);
    total = omega (arith, are.total, gone.count, ap length rest, length-remove held at inside);
  }

  -- another link stands in its place
  pub held-set : {old new : Heap T} {held items : List ℕ} {x y c n : ℕ} (at : ℕ) → Builds old new (x ∷ []) (y ∷ []) c n → at < length held → x ≡ get_or held at x → items ≡ set held at y → AreHeld old held → AreHeld new items
  held-set {held = held} {x = x} {y} at b inside is all are = record {
    graph = b.graph;
    each = λ k. omega (arith, are.each k, b.holds k, count-one k x, one_at-flip k x, count-one k y, one_at-flip k y, ap (count k) all, sum_by-set (λ j. cond (eqb j k) 1 0) held at y x inside, ap (λ j. one_at j k) is);
    total = omega (arith, are.total, b.total, ap length all, length-set held at y);
  }

  -- of a list that was lent to be written
  pub held-written : {old new : Heap T} {held now : List ℕ} {x y c n : ℕ} (at : ℕ) → Builds old new (x ∷ []) (y ∷ []) c n → at < length held → x ≡ get_or held at x → now ≡ held → AreHeld old held → AreHeld new (refill (length held) held (set now at y))
  held-written {held = held} {now = now} {y = y} at b inside is lent are = held-set at b inside is (set-back held now at y lent) are

  -- a link of a row leads to a row
  pub child-live : {h : Heap T} (row : ℕ) (ls : List ℕ) (i x : ℕ) → IsGraph h → ls ≡ links_at h row → i < length ls → x ≡ get_or ls i x → IsSome (row_at h x)
  child-live row ls i x graph is inside read = graph.closed row x (subst (λ (ks : List ℕ). 0 < count x ks) is (count-at ls i x inside (sym (get_or_read ls i x inside read 0))))

  -- beside a new cell a row is as it was, with as many owners, and the cell doesn't reach it
  other-row : {old new : Heap T} {v : T} (l row : ℕ) → Adds old new l (cell v) → IsSome (row_at old row) → row ≢ l
  other-row {old} l row adds live same = absurd (let gone : row_at old row ≡ None = ap (row_at old) same ∙ adds.fresh in cc)

  pub sole-beside : {old new : Heap T} {v : T} (l row : ℕ) → Adds old new l (cell v) → AddsOwner old new l → IsSome (row_at old row) → owners_at old row ≡ 1 → owners_at new row ≡ 1
  sole-beside l row adds owners live one = omega (arith, owners row, one, test_other row l (other-row l row adds live))

  pub node-beside : {old new : Heap T} {v : T} (l row : ℕ) → Adds old new l (cell v) → IsSome (row_at old row) → is_node (row_at old row) ≡ 1 → is_node (row_at new row) ≡ 1
  node-beside l row adds live node = ap is_node (adds.others row (other-row l row adds live)) ∙ node

  pub new-apart : {old new : Heap T} {v : T} (l row : ℕ) → Adds old new l (cell v) → IsSome (row_at old row) → ¬ Reaches (links_at new) l row
  new-apart {new = new} {v = v} l row adds live way = absurd (other-row l row adds live (sym (cell-reaches new v l row adds.here way)))

  -- a row more in a list of rows that are there
  pub rows-live : (h : Heap T) (row : ℕ) (old new : List ℕ) → ((k : ℕ) → 0 < count k new → 0 < count k (row ∷ old)) → IsSome (row_at h row) → ((k : ℕ) → 0 < count k old → IsSome (row_at h k)) → (k : ℕ) → 0 < count k new → IsSome (row_at h k)
  rows-live h row old new more live all k some = elim (cases_eq k row) as (λ _. IsSome (row_at h k)) [
    | inl same ↦ subst (λ j. IsSome (row_at h j)) (sym same) live
    | inr other ↦ all k (omega (arith, more k some, count-cons k row old, test_other row k (λ e. other (sym e))))
  ]

-- what stands in a list at an index is counted in it
pub found-there : (xs : List ℕ) (i x : ℕ) → i < length xs → x ≡ get_or xs i x → 0 < count x xs
found-there xs i x inside read = count-at xs i x inside (sym (get_or_read xs i x inside read 0))
