-- What the slots say of a row that is made of another by one change: as if each link that stays had got an owner first.
use Rattle.std.proofs.Common.{◌≡◌, ◌≢◌, ℕ, ◌+◌, ◌^◌, ◌-◌, ◌<◌, ◌≤◌, List, [], ◌∷◌, length, get_or, min, refl, sym, ap, subst, ◌∙◌, arith, Option, Some, None, IsSome, cond, eqb, inl, inr}
use Rattle.std.specs.Prelude.{sum, sum_by, remove, IfSome}
use Rattle.std.proofs.lemmas.Bool.{cases_eq}
use Rattle.std.proofs.lemmas.List.Sums.{sum_by-insert, sum_by-cons}
use Rattle.std.proofs.lemmas.List.Edits.{length-insert, length-remove}
use Rattle.node_heap.specs.Links.{count, without, changed_links, came}
use Rattle.node_heap.specs.Forms.{Row, cell, node, links_of, is_cell, is_node}
use Rattle.node_heap.specs.Heap.{Heap, row_at, most_holds}
use Rattle.node_heap.specs.Calls.{AddsLike, Makes}
use Rattle.node_heap.specs.Layout.{Slot, Table, row_of_slot, owners_in, holds_in, slot_at, places_at, PutsIn, IsCounted, IsHeap, seen}
use Rattle.node_heap.specs.Pairs.{more, MakesOf}
use Rattle.node_heap.proofs.Counts.{test_same, test_other, one_at-flip}
use Rattle.node_heap.proofs.Slots.{row_at-slots, owners_at-slots}
use Rattle.node_heap.proofs.Stored.{IsGraph-stored, Makes-stored, kinds}
use Rattle.node_heap.proofs.Dying.{sum-add}
use Rattle.node_heap.proofs.Edited.{Extends-live}
use Rattle.node_heap.proofs.BuildLemmas.{Builds-made, count-one}
use Rattle.node_heap.proofs.Added.{Joins, counted-joined, adds-joined, count-joined, owners-joined}
use Rattle.node_heap.proofs.Copied.{AddsOwners, counted-added, holds-added, total-added}
use Rattle.node_heap.proofs.MoreOwners.{same-slot, more-none, graph-more, rows-more, places-more, filled-more, owners-all}

-- a row with a link at an index is a node
pub node-long : {T : Type 0} (r : Option (Row T)) (index : ℕ) → index < length (links_of r) → is_node r ≡ 1
node-long None index inside = absurd (omega (arith, inside))
node-long (Some (cell x)) index inside = absurd (omega (arith, inside))
node-long (Some (node h l)) index inside = refl

-- the links that came stand among all beside those that stayed
pub split-changed : (out : Option ℕ) (into : Option (ℕ × ℕ)) (xs : List ℕ) (l : ℕ) → count l (changed_links out into xs) ≡ count l (without out xs) + count l (came into)
split-changed out None xs l = omega arith
split-changed out (Some p) xs l = omega (arith, sum_by-insert (λ k. cond (eqb k l) 1 0) (without out xs) p.0 p.1, sum_by-cons (λ k. cond (eqb k l) 1 0) p.1 [])

pub long-changed : (out : Option ℕ) (into : Option (ℕ × ℕ)) (xs : List ℕ) → IfSome into (λ p. p.0 ≤ length (without out xs)) → length (changed_links out into xs) ≡ length (without out xs) + length (came into)
long-changed out None xs inside = omega arith
long-changed out (Some p) xs inside = length-insert (without out xs) p.0 p.1 inside

-- what came was held
pub count-came : (into : Option (ℕ × ℕ)) (holds : ℕ → ℕ) → IfSome into (λ p. 0 < holds p.1) → (l : ℕ) → count l (came into) ≤ holds l
count-came None holds held l = omega arith
count-came (Some p) holds held l = elim (cases_eq l p.1) as (λ _. count l (p.1 ∷ []) ≤ holds l) [
  | inl same ↦ omega (arith, held, ap holds same, count-one l p.1, test_same l p.1 same, one_at-flip l p.1)
  | inr other ↦ omega (arith, count-one l p.1, test_other l p.1 other)
]

-- the holds stay few, where what comes was held
pub few-changed : (into : Option (ℕ × ℕ)) (n : ℕ) → n ≤ most_holds → (into ≡ None → n < most_holds) → n < most_holds + length (came into)
few-changed None n le few = omega (arith, few refl)
few-changed (Some p) n le few = omega (arith, le)

pub short-changed : (out : Option ℕ) (into : Option (ℕ × ℕ)) (xs : List ℕ) → length xs ≤ 32 → IfSome out (λ i. i < length xs) → IfSome into (λ p. p.0 ≤ length (without out xs)) → (out ≡ None → IfSome into (λ _. length xs < 32)) → length (changed_links out into xs) ≤ 32
short-changed None None xs short inside at room = short
short-changed None (Some p) xs short inside at room = omega (arith, length-insert xs p.0 p.1 at, room refl)
short-changed (Some i) None xs short inside at room = omega (arith, length-remove xs i inside, short)
short-changed (Some i) (Some p) xs short inside at room = omega (arith, length-insert (remove xs i) p.0 p.1 at, length-remove xs i inside, short)

module _ {T : Type 0} {old new : Table T} {place : ℕ} {row : Row T} {kept : List ℕ} (gained : List ℕ) (m : MakesOf old new place row kept) (counted : IsCounted old.slots) (short : length (links_of (Some row)) ≤ 32)
    (split : (l : ℕ) → count l (links_of (Some row)) ≡ count l kept + count l gained) (long : length (links_of (Some row)) ≡ length kept + length gained)
    (linked : (l : ℕ) → 0 < count l kept → IsSome (slot_at old.slots l)) (held : (l : ℕ) → count l gained + places_at old.slots l ≤ owners_in (slot_at old.slots l)) where
  abbrev mid : List (Option (Slot T))
  mid = more (λ l. count l kept) 0 old.slots

  adds : AddsOwners old.slots mid kept
  adds = record { owners = owners-all (λ l. count l kept) old.slots linked; rows = rows-more (λ l. count l kept) old.slots }

  puts : PutsIn mid new.slots place row
  puts = record {
    was = more-none (λ l. count l kept) old.slots place m.was;
    now = same-slot (slot_at new.slots place) (Some (record { owners = 1; row = row })) m.here m.one;
    others = λ k other.
        same-slot (slot_at new.slots k) (slot_at mid k) (m.rows k other ∙ sym (graph-more (λ l. count l kept) old.slots k)) (omega (arith, m.owners k other, adds.owners k));
    low = m.low;
    len = omega (arith, m.len, filled-more (λ l. count l kept) old.slots);
  }

  mid-counted : IsCounted mid
  mid-counted = counted-added old.slots mid kept adds counted

  joins : Joins mid new.slots place row
  joins = record {
    puts = puts;
    short = short;
    held = λ l. omega (arith, split l, held l, adds.owners l, places-more (λ l. count l kept) old.slots l);
  }

  pub counted-changed : IsCounted new.slots
  counted-changed = counted-joined mid-counted joins

  pub total-changed : sum (holds_in new.slots) + length gained ≡ sum (holds_in old.slots) + 1
  total-changed = omega (arith, long, count-joined mid-counted joins, total-added old.slots mid kept adds counted)

  holds-changed : (k : ℕ) → get_or (holds_in new.slots) k 0 + count k gained ≡ get_or (holds_in old.slots) k 0 + count k (place ∷ [])
  holds-changed k = omega (arith, split k, (adds-joined mid-counted joins 0 0 0 0 0 0).holds k, holds-added old.slots mid kept adds counted k, count-one k place)

  pub heap-changed : {a b n a' b' n' : ℕ} → IsHeap old.slots a b n → a' ≡ a → b' + 1 ≡ b → is_node (Some row) ≡ 1 → sum (holds_in old.slots) < most_holds + length gained → n' < 2 ^ 64 → IsHeap new.slots a' b' n'
  heap-changed stored cells nodes is few fits = record {
    counted = counted-changed;
    few = omega (arith, stored.few, cells, nodes, m.len);
    few_holds = omega (arith, few, total-changed);
    fits = fits;
  }

  pub adds-changed : {a b n a' b' n' : ℕ} {heap : Heap T} → IsHeap old.slots a b n → seen old.slots a b n ≡ heap → IsHeap new.slots a' b' n' → a' ≡ a → b' + 1 ≡ b → is_node (Some row) ≡ 1 → n' ≡ min (n + 1) (2 ^ 64 - 1) → AddsLike heap (seen new.slots a' b' n') place row kept gained
  adds-changed {a} {b} {n} {a'} {b'} {n'} stored heap_is stored' cells nodes is made =
      let h : Heap T = seen old.slots a b n in
      let h' : Heap T = seen new.slots a' b' n' in
      let graph = IsGraph-stored _ _ _ _ stored in
      let came_to = owners-joined mid-counted joins 0 0 0 0 0 0 in
      let row_same : (k : ℕ) → k ≢ place → row_at h' k ≡ row_at h k = λ k other. row_at-slots new.slots k ∙ m.rows k other ∙ sym (row_at-slots old.slots k) in
      let makes : Makes h h' 0 1 =
      Makes-stored old.slots new.slots _ _ _ _ _ _ 0 1
      (omega (arith, sum-add is_cell refl mid new.slots place _ puts.was puts.now puts.others, ap (λ xs. sum_by is_cell xs) adds.rows, kinds row, is))
      (omega (arith, sum-add is_node refl mid new.slots place _ puts.was puts.now puts.others, ap (λ xs. sum_by is_node xs) adds.rows, is))
      (omega (arith, cells)) nodes stored.fits (omega (arith, made)) in
      let fresh : row_at h place ≡ None = row_at-slots old.slots place ∙ ap row_of_slot m.was in
      rw (← heap_is) (record {
        fresh = fresh;
        here = row_at-slots new.slots place ∙ m.here;
        others = row_same;
        owners = λ k. omega (arith, owners_at-slots new.slots counted-changed k, owners_at-slots mid mid-counted k, owners_at-slots old.slots counted k, came_to k, adds.owners k);
        sole = omega (arith, owners_at-slots new.slots counted-changed place, m.one);
        builds =
            Builds-made
            (Extends-live h h' graph (λ k live. row_same k (λ same. absurd (let there : IsSome (row_at h place) = subst (λ j. IsSome (row_at h j)) same live in let gone : IsSome {T = Row T} None = subst IsSome fresh there in cc))))
            (IsGraph-stored _ _ _ _ stored') holds-changed (omega (arith, total-changed)) makes;
        makes = makes;
      })
