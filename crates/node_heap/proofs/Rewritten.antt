-- What the slots say of a row that is written in place.
use Rattle.std.proofs.Common.{◌≡◌, ◌≢◌, ℕ, suc, ◌+◌, ◌<◌, ◌≤◌, List, [], ◌∷◌, length, get_or, set, insert, remove, take, drop, refl, sym, ap, subst, ◌∙◌, arith, Option, Some, None, IsSome, cond, eqb, inl, inr, zero, drop-cons}
use Rattle.std.specs.Prelude.{sum_by, sum}
use Rattle.std.proofs.lemmas.Bool.{cases_eq}
use Rattle.std.proofs.lemmas.Grind.{get_or_default_zero}
use Rattle.std.proofs.lemmas.List.{take-append-drop, length-set}
use Rattle.std.proofs.lemmas.List.Edits.{length-insert, length-remove}
use Rattle.std.proofs.lemmas.List.Sums.{sum_by-cons, sum_by-append, sum_by-set}
use Rattle.node_heap.specs.Links.{count, HasLink, Reaches}
use Rattle.node_heap.specs.Forms.{Row, links_of, head_of, links_in, is_cell, is_node}
use Rattle.node_heap.specs.Heap.{Heap, row_at, links_at, holds_at, owners_at, one_at, most_holds}
use Rattle.node_heap.specs.Calls.{KeepsOwners, Makes}
use Rattle.node_heap.specs.InPlace.{Writes, Changes}
use Rattle.node_heap.specs.Layout.{row_of_slot, owners_in, rows_of_slots, holds_in, slot_at, places_at, graph_of, nodes_in, cells_in, ApartAt, IsCounted, Rewrites, KeepsRoom, IsHeap, Table, seen}
use Rattle.node_heap.specs.declared.row.Head.{Head}
use Rattle.node_heap.specs.Layout.{Slot}
use Rattle.node_heap.proofs.Counts.{count-cons, one_at-flip, test_same, test_other, sum_by-apart, sum-exchanged}
use Rattle.node_heap.proofs.Reach.{acyclic-ranked, Reaches-by}
use Rattle.node_heap.proofs.Ways.{LeadsDown-lifted}
use Rattle.node_heap.proofs.Slots.{row_at-slots, holds_at-slots, owners_at-slots, places_at-apart, live-owned}
use Rattle.node_heap.proofs.Stored.{IsGraph-stored, Makes-stored, live_row, kinds-row, row-seen, owners-seen}
use Rattle.node_heap.proofs.Edited.{Changes-Writes}

-- how often links stand in a list after an edit of it
pub count-set : (k : ℕ) (xs : List ℕ) (i x : ℕ) → i < length xs → count k (set xs i x) + one_at (get_or xs i 0) k ≡ count k xs + one_at x k
count-set k xs i x inside = sum_by-set (λ j. cond (eqb j k) 1 0) xs i x 0 inside

count-both : (k i : ℕ) (xs : List ℕ) → count k xs ≡ count k (take i xs) + count k (drop i xs)
count-both k i xs = ap (count k) (sym (take-append-drop i xs)) ∙ sum_by-append (λ j. cond (eqb j k) 1 0) (take i xs) (drop i xs)

pub count-drop-le : (k i : ℕ) (xs : List ℕ) → count k (drop i xs) ≤ count k xs
count-drop-le k i xs = omega (arith, count-both k i xs)

pub count-listed : (k i : ℕ) (xs : List ℕ) → drop i xs ≡ k ∷ drop (i + 1) xs → 0 < count k xs
count-listed k i xs is = omega (arith, count-drop-le k i xs, ap (count k) is, count-cons k k (drop (i + 1) xs), test_same k k refl)

pub count-insert : (k : ℕ) (xs : List ℕ) (i x : ℕ) → count k (insert xs i x) ≡ count k xs + one_at x k
count-insert k xs i x =
    omega (arith, count-both k i xs, sum_by-append (λ j. cond (eqb j k) 1 0) (take i xs) (x ∷ drop i xs), sum_by-cons (λ j. cond (eqb j k) 1 0) x (drop i xs))

pub count-remove : (k : ℕ) (xs : List ℕ) (i : ℕ) → i < length xs → count k (remove xs i) + one_at (get_or xs i 0) k ≡ count k xs
count-remove k xs i inside =
    omega (arith, count-both k i xs, ap (count k) (drop-cons xs i 0 inside), sum_by-append (λ j. cond (eqb j k) 1 0) (take i xs) (drop (suc i) xs), sum_by-cons (λ j. cond (eqb j k) 1 0) (get_or xs i 0) (drop (suc i) xs))

module _ {T : Type 0} where
  -- a node gets these links for its own: a hold of each link of the first list is spent, and one of each of the second gained
  pub record Moves (old new : List (Option (Slot T))) (place : ℕ) (head : Option Head) (links spent gained : List ℕ) : Type 0 where
    pub rewrites : Rewrites old new place head links
    pub was : IsSome (slot_at old place)
    pub short : length links ≤ 32
    pub moved : (k : ℕ) → count k links + count k gained ≡ count k (links_of (graph_of old place)) + count k spent
    pub held : (k : ℕ) → count k spent + places_at old k ≤ owners_in (slot_at old k)
    pub apart : (k : ℕ) → 0 < count k spent → ¬ Reaches (links_in (graph_of old)) k place

  -- what contracts say of a node that was written in place
  pub record WritesNode (old new : Heap T) (parent : ℕ) (head : Option Head) (links spent gained : List ℕ) : Type 0 where
    pub writes : Writes old new parent head links
    pub owners : KeepsOwners old new
    pub changes : Changes parent old new spent gained 0 0
    pub makes : Makes old new 0 0

  -- a count of rows, where the row keeps its kind
  sum-kept : (f : Option (Row T) → ℕ) → f None ≡ 0 → (old new : List (Option (Slot T))) (place : ℕ) → ApartAt old new place → f (graph_of new place) ≡ f (graph_of old place) → sum_by f (rows_of_slots new) ≡ sum_by f (rows_of_slots old)
  sum-kept f none old new place apart same =
      let rows : (k : ℕ) → k ≢ place → get_or (rows_of_slots new) k None ≡ get_or (rows_of_slots old) k None =
      λ k other. row_at-slots new k ∙ ap row_of_slot (apart k other) ∙ sym (row_at-slots old k) in
      let sums = sum_by-apart f None none (rows_of_slots old) (rows_of_slots new) place rows in
      omega (arith, sums, same, ap f (row_at-slots old place), ap f (row_at-slots new place))

  module _ {old new : List (Option (Slot T))} {place : ℕ} {head : Option Head} {links spent gained : List ℕ} (m : Moves old new place head links spent gained) where
    pub places-moved : (k : ℕ) → places_at new k + count k gained ≡ places_at old k + count k spent
    places-moved k = omega (arith, places_at-apart old new place m.rewrites.others k, ap (count k) m.rewrites.new_links, m.moved k)

    pub owners-moved : (k : ℕ) → owners_in (slot_at new k) ≡ owners_in (slot_at old k)
    owners-moved k = elim (cases_eq k place) as (λ _. owners_in (slot_at new k) ≡ owners_in (slot_at old k)) [
      | inl same ↦ omega (arith, ap (λ j. owners_in (slot_at new j)) same, ap (λ j. owners_in (slot_at old j)) same, m.rewrites.same_owners)
      | inr other ↦ ap owners_in (m.rewrites.others k other)
    ]

    live-moved : (k : ℕ) → IsSome (slot_at new k) → IsSome (slot_at old k)
    live-moved k live = elim (cases_eq k place) as (λ _. IsSome (slot_at old k)) [
      | inl same ↦ subst (λ j. IsSome (slot_at old j)) (sym same) m.was
      | inr other ↦ rw (← m.rewrites.others k other) live
    ]

    pub nodes-moved : nodes_in new ≡ nodes_in old
    nodes-moved = sum-kept is_node refl old new place m.rewrites.others m.rewrites.is_same_kind

    pub cells-moved : cells_in new ≡ cells_in old
    cells-moved =
        sum-kept is_cell refl old new place m.rewrites.others (omega (arith, m.rewrites.is_same_kind, kinds-row (slot_at old place) m.was, kinds-row (slot_at new place) m.rewrites.live))

    writes-moved : (a b n a' b' n' : ℕ) → Writes (seen old a b n) (seen new a' b' n') place head links
    writes-moved a b n a' b' n' = record {
      new_head = ap head_of (row_at-slots new place) ∙ m.rewrites.new_head;
      new_links = ap links_of (row_at-slots new place) ∙ m.rewrites.new_links;
      others = λ k other. row_at-slots new k ∙ ap row_of_slot (m.rewrites.others k other) ∙ sym (row_at-slots old k);
    }

    module _ (counted : IsCounted old) where
      pub counted-moved : IsCounted new
      counted-moved =
          let lifted = LeadsDown-lifted (links_in (graph_of old)) (links_in (graph_of new)) counted.rank place counted.falls (λ l other. ap (λ o. links_of (row_of_slot o)) (m.rewrites.others l other)) off in
          record {
            places = λ l. omega (arith, places-moved l, owners-moved l, m.held l);
            owned = λ l live. omega (arith, owners-moved l, counted.owned l (live-moved l live));
            low = λ l live. counted.low l (live-moved l live);
            short = λ l. elim (cases_eq l place) as (λ _. length (links_of (graph_of new l)) ≤ 32) [
              | inl same ↦ omega (arith, ap (λ j. length (links_of (graph_of new j))) same, ap length m.rewrites.new_links, m.short)
              | inr other ↦ omega (arith, ap (λ o. length (links_of (row_of_slot o))) (m.rewrites.others l other), counted.short l)
            ];
            rank = lifted.0;
            falls = lifted.1;
          }
        where
          off : (k : ℕ) → HasLink (links_in (graph_of new)) place k → ¬ Reaches (links_in (graph_of old)) k place
          off k has = by_spent (count k spent) refl
            where
              by_spent : (n : ℕ) → count k spent ≡ n → ¬ Reaches (links_in (graph_of old)) k place
              by_spent zero none = acyclic-ranked (links_in (graph_of old)) counted.rank counted.falls place k (omega (arith, has, ap (count k) m.rewrites.new_links, m.moved k, none))
              by_spent (suc n) some = m.apart k (omega (arith, some))

      pub holds-moved : (k : ℕ) → get_or (holds_in new) k 0 + count k spent ≡ get_or (holds_in old) k 0 + count k gained
      holds-moved k = omega (arith, holds_at-slots old k, holds_at-slots new k, places-moved k, owners-moved k, m.held k, counted.places k)

      total-moved : sum (holds_in new) + length spent ≡ sum (holds_in old) + length gained
      total-moved = sum-exchanged spent gained (holds_in old) (holds_in new) holds-moved

      KeepsOwners-moved : (a b n a' b' n' : ℕ) → KeepsOwners (seen old a b n) (seen new a' b' n')
      KeepsOwners-moved a b n a' b' n' k = omega (arith, owners_at-slots old counted k, owners_at-slots new counted-moved k, owners-moved k)

  pub IsHeap-moved : {t t' : Table T} {place n : ℕ} {head : Option Head} {links spent gained : List ℕ} → KeepsRoom t t' → IsHeap t.slots t.spare_cells t.spare_nodes n → Moves t.slots t'.slots place head links spent gained
      → sum (holds_in t.slots) + length gained ≤ most_holds + length spent → IsHeap t'.slots t'.spare_cells t'.spare_nodes n
  IsHeap-moved room stored m few = record {
    counted = counted-moved m stored.counted;
    few = omega (arith, room.len, room.spare_cells, room.spare_nodes, stored.few);
    few_holds = omega (arith, total-moved m stored.counted, few);
    fits = stored.fits;
  }

  pub WritesNode-moved : {t t' : Table T} {place n parent : ℕ} {head : Option Head} {links spent gained : List ℕ} {heap : Heap T} → KeepsRoom t t' → IsHeap t.slots t.spare_cells t.spare_nodes n → seen t.slots t.spare_cells t.spare_nodes n ≡ heap → place ≡ parent
      → IsHeap t'.slots t'.spare_cells t'.spare_nodes n → Moves t.slots t'.slots place head links spent gained → WritesNode heap (seen t'.slots t'.spare_cells t'.spare_nodes n) parent head links spent gained
  WritesNode-moved {t} {t'} {place} {n} {spent = spent} {gained = gained} room stored heap_is parent_is stored' m =
      let a = t.spare_cells in
      let b = t.spare_nodes in
      let a' = t'.spare_cells in
      let b' = t'.spare_nodes in
      let counted = stored.counted in
      let writes = writes-moved m a b n a' b' n in
      let owners = KeepsOwners-moved m counted a b n a' b' n in
      let makes = Makes-stored t.slots t'.slots a b n a' b' n 0 0 (omega (arith, cells-moved m)) (omega (arith, nodes-moved m)) (omega (arith, room.spare_cells)) (omega (arith, room.spare_nodes)) stored.fits (omega (arith, stored.fits)) in
      rw (← heap_is, ← parent_is) (record {
        writes = writes;
        owners = owners;
        changes = Changes-Writes (seen t.slots a b n) (seen t'.slots a' b' n) place spent gained (IsGraph-stored _ _ _ _ stored) (IsGraph-stored _ _ _ _ stored') (rw (row_at-slots t'.slots place) (live_row (slot_at t'.slots place) m.rewrites.live)) writes.others owners
            (holds-moved m counted) (total-moved m counted) makes;
        makes = makes;
      })

  -- one link of which a hold is spent
  pub held-one : (h : Heap T) (x : ℕ) → 0 < holds_at h x → (k : ℕ) → count k (x ∷ []) ≤ holds_at h k
  held-one h x held k = elim (cases_eq k x) as (λ _. count k (x ∷ []) ≤ holds_at h k) [
    | inl same ↦ omega (arith, count-cons k x [], test_same x k (sym same), ap (holds_at h) same, held)
    | inr other ↦ omega (arith, count-cons k x [], test_other x k (λ e. other (sym e)))
  ]

  pub apart-one : (h : Heap T) (x place : ℕ) → ¬ Reaches (links_at h) x place → (k : ℕ) → 0 < count k (x ∷ []) → ¬ Reaches (links_at h) k place
  apart-one h x place off k some = elim (cases_eq k x) as (λ _. ¬ Reaches (links_at h) k place) [
    | inl same ↦ subst (λ j. ¬ Reaches (links_at h) j place) (sym same) off
    | inr other ↦ absurd (omega (arith, some, count-cons k x [], test_other x k (λ e. other (sym e))))
  ]

  -- a node with one owner, as contracts speak of it
  module _ {old : List (Option (Slot T))} {a b n place parent : ℕ} {heap : Heap T} (counted : IsCounted old) (heap_is : seen old a b n ≡ heap) (parent_is : place ≡ parent) where
    row : row_at heap parent ≡ graph_of old place
    row = row-seen counted heap_is parent_is

    few-links : length (links_at heap parent) ≤ 32
    few-links = omega (arith, ap (λ r. length (links_of r)) row, counted.short place)

    -- the child at an index
    pub child-seen : (index x : ℕ) → x ≡ get_or (links_of (graph_of old place)) index 0 → x ≡ get_or (links_at heap parent) index 0
    child-seen index x is = is ∙ sym (ap (λ r. get_or (links_of r) index 0) row)

    -- the child that a read of the links gives
    pub child-read : (index x y : ℕ) (ks : List ℕ) → ks ≡ links_of (graph_of old place) → x ≡ y → y ≡ get_or ks index y → index < length (links_at heap parent) → x ≡ get_or (links_at heap parent) index 0
    child-read index x y ks all same read within = same ∙ read ∙ ap (λ ys. get_or ys index y) (all ∙ sym (ap links_of row)) ∙ get_or_default_zero (links_at heap parent) index y within

    Moves-seen : {new : List (Option (Slot T))} {head : Option Head} {links : List ℕ} (spent gained : List ℕ) → owners_at heap parent ≡ 1 → Rewrites old new place head links → length links ≤ 32
        → ((k : ℕ) → count k links + count k gained ≡ count k (links_at heap parent) + count k spent)
        → ((k : ℕ) → count k spent ≤ holds_at heap k) → ((k : ℕ) → 0 < count k spent → ¬ Reaches (links_at heap) k parent) → Moves old new place head links spent gained
    Moves-seen spent gained sole rewrites short moved held apart = record {
      rewrites = rewrites;
      was = live-owned (slot_at old place) (omega (arith, owners-seen counted heap_is parent_is, sole));
      short = short;
      moved = λ k. omega (arith, moved k, ap (λ r. count k (links_of r)) row);
      held = λ k. omega (arith, held k, ap (λ h. holds_at h k) heap_is, holds_at-slots old k, counted.places k);
      apart = λ k some way. apart k some (subst (Reaches (links_at heap) k) parent_is (Reaches-by (links_in (graph_of old)) (links_at heap) (λ l. ap links_of (row-seen counted heap_is refl)) k place way));
    }

    pub Moves-replace : {new : List (Option (Slot T))} (index x y : ℕ) → owners_at heap parent ≡ 1 → index < length (links_at heap parent) → 0 < holds_at heap x → ¬ Reaches (links_at heap) x parent → y ≡ get_or (links_at heap parent) index 0
        → Rewrites old new place (head_of (graph_of old place)) (set (links_of (graph_of old place)) index x)
        → Moves old new place (head_of (row_at heap parent)) (set (links_at heap parent) index x) (x ∷ []) (y ∷ [])
    Moves-replace index x y sole inside held apart y_is rewrites =
        let ks = links_at heap parent in
        Moves-seen (x ∷ []) (y ∷ []) sole (rw row rewrites) (omega (arith, length-set ks index x, few-links))
        (λ k. omega (arith, count-set k ks index x inside, ap (λ l. one_at l k) y_is, count-cons k x [], count-cons k y [], one_at-flip x k, one_at-flip y k))
        (held-one heap x held) (apart-one heap x parent apart)

    pub Moves-insert : {new : List (Option (Slot T))} (index x : ℕ) → owners_at heap parent ≡ 1 → index ≤ length (links_at heap parent) → length (links_at heap parent) < 32 → 0 < holds_at heap x → ¬ Reaches (links_at heap) x parent
        → Rewrites old new place (head_of (graph_of old place)) (insert (links_of (graph_of old place)) index x)
        → Moves old new place (head_of (row_at heap parent)) (insert (links_at heap parent) index x) (x ∷ []) []
    Moves-insert index x sole inside room held apart rewrites =
        let ks = links_at heap parent in
        Moves-seen (x ∷ []) [] sole (rw row rewrites) (omega (arith, length-insert ks index x inside, room))
        (λ k. omega (arith, count-insert k ks index x, count-cons k x [], one_at-flip x k))
        (held-one heap x held) (apart-one heap x parent apart)

    pub Moves-remove : {new : List (Option (Slot T))} (index y : ℕ) → owners_at heap parent ≡ 1 → index < length (links_at heap parent) → y ≡ get_or (links_at heap parent) index 0
        → Rewrites old new place (head_of (graph_of old place)) (remove (links_of (graph_of old place)) index)
        → Moves old new place (head_of (row_at heap parent)) (remove (links_at heap parent) index) [] (y ∷ [])
    Moves-remove index y sole inside y_is rewrites =
        let ks = links_at heap parent in
        Moves-seen [] (y ∷ []) sole (rw row rewrites) (omega (arith, length-remove ks index inside, few-links))
        (λ k. omega (arith, count-remove k ks index inside, ap (λ l. one_at l k) y_is, count-cons k y [], one_at-flip y k))
        (λ k. omega arith) (λ k some. absurd (omega (arith, some)))

    pub Moves-head : {new : List (Option (Slot T))} (head : Head) → owners_at heap parent ≡ 1
        → Rewrites old new place (Some head) (links_of (graph_of old place)) → Moves old new place (Some head) (links_at heap parent) [] []
    Moves-head head sole rewrites = Moves-seen [] [] sole (rw row rewrites) few-links (λ k. omega arith) (λ k. omega arith) (λ k some. absurd (omega (arith, some)))
