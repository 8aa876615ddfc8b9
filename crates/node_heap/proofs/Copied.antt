-- What the slots say of a node that is copied.
use Rattle.std.proofs.Common.{◌≡◌, ◌≢◌, ℕ, zero, suc, ◌+◌, ◌<◌, List, [], length, get_or, refl, sym, ap, subst, ◌∙◌, arith, Option, Some, None, IsSome, inl, inr}
use Rattle.std.specs.Prelude.{sum_by, sum}
use Rattle.std.proofs.lemmas.Bool.{cases_eq}
use Rattle.std.proofs.lemmas.Bool.Decides.{nat_tests}
use Rattle.node_heap.specs.Links.{count}
use Rattle.node_heap.specs.Forms.{Row, links_of, is_cell, is_node}
use Rattle.node_heap.specs.Heap.{places_in, one_at}
use Rattle.node_heap.specs.InPlace.{other_at}
use Rattle.node_heap.specs.Layout.{row_of_slot, owners_in, rows_of_slots, holds_in, slot_at, places_at, graph_of, cells_in, nodes_in, IsCounted, PutsIn, Copies}
use Rattle.node_heap.specs.Layout.{Slot}
use Rattle.node_heap.proofs.Counts.{test_same, test_other, sum_by-apart, sum-exchanged}
use Rattle.node_heap.proofs.Slots.{row_at-slots, holds_at-slots, placed, live-owned}
use Rattle.node_heap.proofs.Stored.{live_row, live_slot, kinds}
use Rattle.node_heap.proofs.Dying.{sum-add}
use Rattle.node_heap.proofs.Added.{Joins}

pub other_at-other : (l k : ℕ) → l ≢ k → other_at l k ≡ 1
other_at-other l k other = grind (arith, nat_tests)

module _ {T : Type 0} where
  -- each of the links has an owner more for each of its places, and the rows stay
  pub record AddsOwners (old new : List (Option (Slot T))) (links : List ℕ) : Type 0 where
    pub owners : (l : ℕ) → owners_in (slot_at new l) ≡ owners_in (slot_at old l) + count l links
    pub rows : rows_of_slots new ≡ rows_of_slots old

  graph-added : (old new : List (Option (Slot T))) (links : List ℕ) → AddsOwners old new links → (l : ℕ) → graph_of new l ≡ graph_of old l
  graph-added old new links adds l = sym (row_at-slots new l) ∙ ap (λ xs. get_or xs l None) adds.rows ∙ row_at-slots old l

  pub counted-added : (old new : List (Option (Slot T))) (links : List ℕ) → AddsOwners old new links → IsCounted old → IsCounted new
  counted-added old new links adds counted =
      let graph : (l : ℕ) → graph_of new l ≡ graph_of old l = graph-added old new links adds in
      let was : (l : ℕ) → IsSome (slot_at new l) → IsSome (slot_at old l) = λ l live. live_slot (slot_at old l) (rw (← graph l) (live_row (slot_at new l) live)) in
      record {
        places = λ l. omega (arith, ap (λ xs. places_in xs l) adds.rows, counted.places l, adds.owners l);
        owned = λ l live. omega (arith, counted.owned l (was l live), adds.owners l);
        low = λ l live. counted.low l (was l live);
        short = λ l. omega (arith, ap (λ r. length (links_of r)) (graph l), counted.short l);
        rank = counted.rank;
        falls = λ l k has. counted.falls l k (omega (arith, ap (λ r. count k (links_of r)) (graph l), has));
      }

  -- each of the links is held once more for each of its places
  pub holds-added : (old new : List (Option (Slot T))) (links : List ℕ) → AddsOwners old new links → IsCounted old → (k : ℕ) → get_or (holds_in new) k 0 ≡ get_or (holds_in old) k 0 + count k links
  holds-added old new links adds counted k = omega (arith, holds_at-slots old k, holds_at-slots new k, ap (λ xs. places_in xs k) adds.rows, counted.places k, adds.owners k)

  pub total-added : (old new : List (Option (Slot T))) (links : List ℕ) → AddsOwners old new links → IsCounted old → sum (holds_in new) ≡ sum (holds_in old) + length links
  total-added old new links adds counted = omega (arith, sum-exchanged [] links (holds_in old) (holds_in new) (λ k. omega (arith, holds-added old new links adds counted k)))

  -- the links of a row are owned
  pub live-linked : (slots : List (Option (Slot T))) → IsCounted slots → (place l : ℕ) → 0 < count l (links_of (graph_of slots place)) → IsSome (slot_at slots l)
  live-linked slots counted place l has = live-owned (slot_at slots l) (omega (arith, placed slots place l has, counted.places l))

  pub joins-copied : (old mid new : List (Option (Slot T))) (place key : ℕ) (row : Row T) → IsCounted old → AddsOwners old mid (links_of (graph_of old place)) → PutsIn mid new key row → Some row ≡ graph_of old place → Joins mid new key row
  joins-copied old mid new place key row counted adds puts same = record {
    puts = puts;
    short = omega (arith, ap (λ r. length (links_of r)) same, counted.short place);
    held = λ l. omega (arith, ap (λ r. count l (links_of r)) same, adds.owners l, ap (λ xs. places_in xs l) adds.rows, counted.places l);
  }

  none_row : (e : Option (Slot T)) → row_of_slot e ≡ None → e ≡ None
  none_row None none = refl
  none_row (Some e) none = cc

  pub copies-joined : (old mid new : List (Option (Slot T))) (place key : ℕ) (row : Row T) → AddsOwners old mid (links_of (graph_of old place)) → PutsIn mid new key row → Some row ≡ graph_of old place → Copies old new place key
  copies-joined old mid new place key row adds puts same = record {
    fresh = none_row (slot_at old key) (sym (graph-added old mid _ adds key) ∙ ap row_of_slot puts.was);
    row = ap row_of_slot puts.now ∙ same;
    one = ap owners_in puts.now;
    others = λ k other. ap row_of_slot (puts.others k other) ∙ graph-added old mid _ adds k;
    owners = λ k other. ap owners_in (puts.others k other) ∙ adds.owners k;
  }

  -- a row that was there isn't the copy
  pub copy-apart : {old new : List (Option (Slot T))} {place key : ℕ} → Copies old new place key → (l : ℕ) → IsSome (slot_at old l) → l ≢ key
  copy-apart {old} copies l live same = absurd (let gone = subst (λ j. IsSome (slot_at old j)) same live in let dead : IsSome {T = Slot T} None = subst IsSome copies.fresh gone in cc)

  pub places-copied : (old new : List (Option (Slot T))) (place key : ℕ) → Copies old new place key → (k : ℕ) → places_at new k ≡ places_at old k + count k (links_of (graph_of old place))
  places-copied old new place key copies k =
      let f : Option (Row T) → ℕ = λ r. count k (links_of r) in
      let rows : (l : ℕ) → l ≢ key → get_or (rows_of_slots new) l None ≡ get_or (rows_of_slots old) l None =
      λ l other. row_at-slots new l ∙ copies.others l other ∙ sym (row_at-slots old l) in
      let sums = sum_by-apart f None refl (rows_of_slots old) (rows_of_slots new) key rows in
      omega (arith, sums, ap f (row_at-slots old key ∙ ap row_of_slot copies.fresh), ap f (row_at-slots new key ∙ copies.row))

  -- a key that is not in use is linked nowhere
  pub fresh-unlinked : (old new : List (Option (Slot T))) (place key : ℕ) → IsCounted old → Copies old new place key → count key (links_of (graph_of old place)) ≡ 0
  fresh-unlinked old new place key counted copies = by_count (count key (links_of (graph_of old place))) refl
    where
      by_count : (n : ℕ) → count key (links_of (graph_of old place)) ≡ n → count key (links_of (graph_of old place)) ≡ 0
      by_count zero e = e
      by_count (suc n) e = absurd (omega (arith, placed old place key (omega (arith, e)), counted.places key, ap owners_in copies.fresh))

  -- no row stands in itself
  pub self-unlinked : (old : List (Option (Slot T))) (place : ℕ) → IsCounted old → count place (links_of (graph_of old place)) ≡ 0
  self-unlinked old place counted = by_count (count place (links_of (graph_of old place))) refl
    where
      by_count : (n : ℕ) → count place (links_of (graph_of old place)) ≡ n → count place (links_of (graph_of old place)) ≡ 0
      by_count zero e = e
      by_count (suc n) e = absurd (omega (arith, counted.falls place place (omega (arith, e))))

  -- the copy is held once, and nothing else is
  pub holds-copied : (old new : List (Option (Slot T))) (place key : ℕ) → IsCounted old → Copies old new place key → (k : ℕ) → get_or (holds_in new) k 0 ≡ get_or (holds_in old) k 0 + one_at key k
  holds-copied old new place key counted copies k =
      let moved = places-copied old new place key copies k in
      elim (cases_eq k key) as (λ _. get_or (holds_in new) k 0 ≡ get_or (holds_in old) k 0 + one_at key k) [
        | inl same ↦
            omega (
              arith,
              holds_at-slots old k,
              holds_at-slots new k,
              moved,
              counted.places k,
              test_same k key same,
              copies.one,
              fresh-unlinked old new place key counted copies,
              ap (λ j. owners_in (slot_at new j)) same,
              ap (λ j. owners_in (slot_at old j)) same,
              ap owners_in copies.fresh,
              ap (λ j. count j (links_of (graph_of old place))) same,
            )
        | inr other ↦ omega (arith, holds_at-slots old k, holds_at-slots new k, moved, counted.places k, copies.owners k other, test_other k key other)
      ]

  pub nodes-copied : (old mid new : List (Option (Slot T))) (place key : ℕ) (row : Row T) → AddsOwners old mid (links_of (graph_of old place)) → PutsIn mid new key row → Some row ≡ graph_of old place → is_node (graph_of old place) ≡ 1 → nodes_in new ≡ nodes_in old + 1
  nodes-copied old mid new place key row adds puts same node =
      omega (arith, sum-add is_node refl mid new key _ puts.was puts.now puts.others, ap (λ xs. sum_by is_node xs) adds.rows, ap is_node same, node)

  pub cells-copied : (old mid new : List (Option (Slot T))) (place key : ℕ) (row : Row T) → AddsOwners old mid (links_of (graph_of old place)) → PutsIn mid new key row → Some row ≡ graph_of old place → is_node (graph_of old place) ≡ 1 → cells_in new ≡ cells_in old
  cells-copied old mid new place key row adds puts same node =
      omega (arith, sum-add is_cell refl mid new key _ puts.was puts.now puts.others, ap (λ xs. sum_by is_cell xs) adds.rows, ap is_node same, kinds row, node)
