-- What a contract's words say of the slots.
use Rattle.std.proofs.Common.{length, count_by, is_some, cond, ◌≡◌, ◌≢◌, ℕ, suc, ◌+◌, ◌-◌, ◌<◌, ◌≤◌, List, [], map, get_or, refl, sym, ap, ◌∙◌, arith, Option, Some, None, IsSome, cond}
use Rattle.std.specs.Prelude.{sum_by, Result, IsOk, OnOk, Ok, Err}
use Rattle.node_heap.specs.Links.{count, HasLink}
use Rattle.node_heap.specs.Forms.{Row, links_of, links_in}
use Rattle.node_heap.specs.Layout.{row_of_slot, owners_in, with_owners, reown, rows_of_slots, holds_in, slot_at, places_at, graph_of, IsCounted, ApartAt, SetsOwners, Table, KeepsRoom}
use Rattle.node_heap.specs.Heap.{places_in, row_at, holds_at, one_at, Heap}
use Rattle.node_heap.specs.Calls.{Adds}
use Rattle.node_heap.specs.Layout.{Slot}
use Rattle.node_heap.proofs.Counts.{get_or-map_default, get_or-less, sum_by-apart, le-sum_by, test_same, test_other, term-le-sum_by}
use Rattle.std.proofs.Common.{eqb, inl, inr}
use Rattle.std.proofs.lemmas.Bool.{cases_eq}
use Rattle.std.proofs.lemmas.List.Sums.{sum_by-cons, count_by-le-length}
use Rattle.std.proofs.lemmas.List.{map-set, set-get_or}
use Rattle.std.proofs.Common.{set, ◌^◌, ◌*◌, ◌∷◌}
use Rattle.std.proofs.lemmas.Bool.Decides.{nat_tests}

pub rank_same : (n : ℕ) (rank : ℕ → ℕ) (key l : ℕ) → l ≡ key → cond (eqb l key) n (rank l) ≡ n
rank_same n rank key l same = grind (arith, nat_tests)

pub rank_apart : (n : ℕ) (rank : ℕ → ℕ) (key l : ℕ) → l ≢ key → cond (eqb l key) n (rank l) ≡ rank l
rank_apart n rank key l other = grind (arith, nat_tests)

module _ {T : Type 0} where
  pub row_at-slots : (slots : List (Option (Slot T))) (l : ℕ) → get_or (rows_of_slots slots) l None ≡ row_of_slot (slot_at slots l)
  row_at-slots slots l = get_or-map_default row_of_slot slots l None

  pub holds_at-slots : (slots : List (Option (Slot T))) (l : ℕ) → get_or (holds_in slots) l 0 ≡ owners_in (slot_at slots l) - places_at slots l
  holds_at-slots slots l =
      get_or-less (places_in (rows_of_slots slots)) 0 (map owners_in slots) l
      ∙ ap (λ n. n - places_in (rows_of_slots slots) (0 + l)) (get_or-map_default owners_in slots l None)
      ∙ ap (λ j. owners_in (slot_at slots l) - places_in (rows_of_slots slots) j) (omega arith)

  pub owners_at-slots : (slots : List (Option (Slot T))) → IsCounted slots → (l : ℕ) → owners_in (slot_at slots l) ≡ get_or (holds_in slots) l 0 + places_at slots l
  owners_at-slots slots counted l = omega (arith, holds_at-slots slots l, counted.places l)

  pub IsCounted-empty : IsCounted {T = T} []
  IsCounted-empty = record {
    places = λ l. omega arith;
    owned = λ l h. cc;
    low = λ l h. cc;
    short = λ l. omega arith;
    rank = λ l. 0;
    falls = λ l k h. absurd (omega (arith, h));
  }

  pub KeepsRoom-trans : {a b c : Table T} → KeepsRoom a b → KeepsRoom b c → KeepsRoom a c
  KeepsRoom-trans p q = record {
    len = q.len ∙ p.len;
    spare_cells = q.spare_cells ∙ p.spare_cells;
    spare_nodes = q.spare_nodes ∙ p.spare_nodes;
  }

  -- an owned link names a row
  pub live-owned : (e : Option (Slot T)) → 0 < owners_in e → IsSome e
  live-owned None h = absurd (omega arith)
  live-owned (Some e) h = refl

  -- the places of a link, after the row at one place has changed
  pub places_at-apart : (old new : List (Option (Slot T))) (key : ℕ) → ApartAt old new key → (l : ℕ) → places_at new l + count l (links_of (graph_of old key)) ≡ places_at old l + count l (links_of (graph_of new key))
  places_at-apart old new key apart l =
      let f : Option (Row T) → ℕ = λ r. count l (links_of r) in
      let same : (k : ℕ) → k ≢ key → get_or (rows_of_slots new) k None ≡ get_or (rows_of_slots old) k None =
      λ k other. row_at-slots new k ∙ ap row_of_slot (apart k other) ∙ sym (row_at-slots old k) in
      let sums = sum_by-apart f None refl (rows_of_slots old) (rows_of_slots new) key same in
      rw (row_at-slots old key, row_at-slots new key) at sums

  -- a link that stands in a row is owned
  pub placed : (slots : List (Option (Slot T))) (l k : ℕ) → HasLink (links_in (graph_of slots)) l k → 0 < places_at slots k
  placed slots l k has =
      let f : Option (Row T) → ℕ = λ r. count k (links_of r) in
      let below = le-sum_by f None refl (rows_of_slots slots) l in
      let read = ap f (row_at-slots slots l) in
      omega (arith, below, read, has)

  pub IsCounted-add : (old new : List (Option (Slot T))) (key : ℕ) (e : Slot T) → IsCounted old → slot_at old key ≡ None → slot_at new key ≡ Some e → ApartAt old new key → e.owners ≡ 1 → key < 2 ^ 64 - 1 → length (links_of (Some e.row)) ≤ 32 → ((l : ℕ) → count l (links_of (Some e.row)) + places_at old l ≤ owners_in (slot_at old l)) → IsCounted new
  IsCounted-add old new key e counted was is apart one in_range brief held =
      let links = links_of (Some e.row) in
      let moved : (l : ℕ) → places_at new l ≡ places_at old l + count l links =
      λ l. let sums = places_at-apart old new key apart l in omega (arith, rw (was, is) at sums) in
      let gone : owners_in (slot_at old key) ≡ 0 = ap owners_in was in
      let now : owners_in (slot_at new key) ≡ 1 = ap owners_in is ∙ one in
      let apart_owners : (l : ℕ) → l ≢ key → owners_in (slot_at new l) ≡ owners_in (slot_at old l) = λ l other. ap owners_in (apart l other) in
      let rank : ℕ → ℕ = λ l. cond (eqb l key) (suc (sum_by counted.rank links)) (counted.rank l) in
      let rank_here : rank key ≡ suc (sum_by counted.rank links) = rank_same (suc (sum_by counted.rank links)) counted.rank key key refl in
      let rank_other : (l : ℕ) → l ≢ key → rank l ≡ counted.rank l = λ l other. rank_apart (suc (sum_by counted.rank links)) counted.rank key l other in
      let linked : (k : ℕ) → 0 < owners_in (slot_at old k) → k ≢ key = λ k owned same. let e = ap (λ j. owners_in (slot_at old j)) same in absurd (omega (arith, e, gone, owned)) in
      record {
        places = λ l. elim (cases_eq l key) as (λ _. places_at new l ≤ owners_in (slot_at new l)) [
          | inl same ↦ let e = ap (λ j. owners_in (slot_at new j)) same in let f = ap (λ j. owners_in (slot_at old j)) same in omega (arith, moved l, held l, e, f, gone, now)
          | inr other ↦ omega (arith, moved l, held l, apart_owners l other)
        ];
        owned = λ l live. elim (cases_eq l key) as (λ _. 0 < owners_in (slot_at new l)) [
          | inl same ↦ let e = ap (λ j. owners_in (slot_at new j)) same in omega (arith, e, now)
          | inr other ↦ let is_live : IsSome (slot_at old l) = rw (← apart l other) live in omega (arith, apart_owners l other, counted.owned l is_live)
        ];
        low = λ l live. elim (cases_eq l key) as (λ _. l < 2 ^ 64 - 1) [
          | inl same ↦ omega (arith, same, in_range)
          | inr other ↦ let is_live : IsSome (slot_at old l) = rw (← apart l other) live in counted.low l is_live
        ];
        short = λ l. elim (cases_eq l key) as (λ _. length (links_of (graph_of new l)) ≤ 32) [
          | inl same ↦ omega (arith, ap (λ j. length (links_of (graph_of new j))) same, ap (λ o. length (links_of (row_of_slot o))) is, brief)
          | inr other ↦ omega (arith, ap (λ o. length (links_of (row_of_slot o))) (apart l other), counted.short l)
        ];
        rank = rank;
        falls = λ l k has. elim (cases_eq l key) as (λ _. rank k < rank l) [
          | inl same ↦
              let there = ap (λ j. count k (links_of (graph_of new j))) same in
              let here = ap (λ o. count k (links_of (row_of_slot o))) is in
              let counted_once : 0 < count k links = omega (arith, there, here, has) in
              let apart_k = linked k (omega (arith, held k, counted_once)) in
              omega (arith, ap rank same, rank_here, rank_other k apart_k, term-le-sum_by counted.rank k links counted_once)
          | inr other ↦
              let there = ap (λ o. count k (links_of (row_of_slot o))) (apart l other) in
              let before : HasLink (links_in (graph_of old)) l k = omega (arith, there, has) in
              let apart_k = linked k (omega (arith, placed old l k before, counted.places k)) in
              omega (arith, rank_other l other, rank_other k apart_k, counted.falls l k before)
        ];
      }

  -- what `Adds` says, at the slots
  pub Adds-slots : (old new : List (Option (Slot T))) (key : ℕ) (e : Slot T) (h h' : Heap T) → h.rows ≡ rows_of_slots old → h.holds ≡ holds_in old → h'.rows ≡ rows_of_slots new → h'.holds ≡ holds_in new → IsCounted old → slot_at old key ≡ None → slot_at new key ≡ Some e → ApartAt old new key → e.owners ≡ 1 → ((l : ℕ) → count l (links_of (Some e.row)) + places_at old l ≤ owners_in (slot_at old l)) → Adds h h' key e.row
  Adds-slots old new key e h h' r s r' s' counted was is apart one held =
      let links = links_of (Some e.row) in
      let moved : (l : ℕ) → places_at new l ≡ places_at old l + count l links =
      λ l. let sums = places_at-apart old new key apart l in omega (arith, rw (was, is) at sums) in
      let row : (l : ℕ) → row_at h l ≡ graph_of old l = λ l. ap (λ xs. get_or xs l None) r ∙ row_at-slots old l in
      let row' : (l : ℕ) → row_at h' l ≡ graph_of new l = λ l. ap (λ xs. get_or xs l None) r' ∙ row_at-slots new l in
      let hold : (l : ℕ) → holds_at h l ≡ owners_in (slot_at old l) - places_at old l = λ l. ap (λ xs. get_or xs l 0) s ∙ holds_at-slots old l in
      let hold' : (l : ℕ) → holds_at h' l ≡ owners_in (slot_at new l) - places_at new l = λ l. ap (λ xs. get_or xs l 0) s' ∙ holds_at-slots new l in
      let gone : owners_in (slot_at old key) ≡ 0 = ap owners_in was in
      let now : owners_in (slot_at new key) ≡ 1 = ap owners_in is ∙ one in
      record {
        fresh = row key ∙ ap row_of_slot was;
        here = row' key ∙ ap row_of_slot is;
        unheld = omega (arith, hold key, gone);
        apart = omega (arith, held key, gone);
        others = λ k other. row' k ∙ ap row_of_slot (apart k other) ∙ sym (row k);
        holds = λ k. elim (cases_eq k key) as (λ _. holds_at h' k + count k links ≡ holds_at h k + one_at key k) [
          | inl same ↦ let e1 = ap (λ j. owners_in (slot_at new j)) same in let e2 = ap (λ j. owners_in (slot_at old j)) same in omega (arith, hold k, hold' k, moved k, held k, e1, e2, gone, now, test_same k key same)
          | inr other ↦ omega (arith, hold k, hold' k, moved k, held k, ap owners_in (apart k other), test_other k key other)
        ];
      }

  -- a hold that the caller has is an owner beside the places
  pub holds-room : (slots : List (Option (Slot T))) (hs : List ℕ) → hs ≡ holds_in slots → IsCounted slots → (l n : ℕ) → n ≤ get_or hs l 0 → n + places_at slots l ≤ owners_in (slot_at slots l)
  holds-room slots hs s counted l n below =
      let hold : get_or hs l 0 ≡ owners_in (slot_at slots l) - places_at slots l = ap (λ xs. get_or xs l 0) s ∙ holds_at-slots slots l in
      omega (arith, hold, counted.places l, below)

  -- a number of owners is no part of the rows
  pub reown_rows : (slots : List (Option (Slot T))) (place n : ℕ) → rows_of_slots (reown slots place n) ≡ rows_of_slots slots
  reown_rows slots place n =
      map-set row_of_slot slots place (with_owners (slot_at slots place) n)
      ∙ ap (set (rows_of_slots slots) place) (kept (slot_at slots place) ∙ sym (row_at-slots slots place))
      ∙ set-get_or (rows_of_slots slots) place None
    where
      kept : (o : Option (Slot T)) → row_of_slot (with_owners o n) ≡ row_of_slot o
      kept None = refl
      kept (Some s) = refl

  pub IsCounted-owners : (old new : List (Option (Slot T))) (place n : ℕ) → SetsOwners old new place n → rows_of_slots new ≡ rows_of_slots old → IsCounted old → IsSome (slot_at old place) → places_at old place ≤ n → 0 < n → IsCounted new
  IsCounted-owners old new place n sets rows counted live_old enough some =
      let graph : (l : ℕ) → graph_of new l ≡ graph_of old l = λ l. sym (row_at-slots new l) ∙ ap (λ xs. get_or xs l None) rows ∙ row_at-slots old l in
      let placed_in : (l : ℕ) → places_at new l ≡ places_at old l = λ l. ap (λ xs. places_in xs l) rows in
      record {
        places = λ l. elim (cases_eq l place) as (λ _. places_at new l ≤ owners_in (slot_at new l)) [
          | inl same ↦ omega (arith, placed_in l, ap (λ j. owners_in (slot_at new j)) same, sets.owners, ap (places_at old) same)
          | inr other ↦ omega (arith, placed_in l, ap owners_in (sets.others l other), counted.places l)
        ];
        owned = λ l live. elim (cases_eq l place) as (λ _. 0 < owners_in (slot_at new l)) [
          | inl same ↦ omega (arith, ap (λ j. owners_in (slot_at new j)) same, sets.owners)
          | inr other ↦ let was : IsSome (slot_at old l) = rw (← sets.others l other) live in omega (arith, ap owners_in (sets.others l other), counted.owned l was)
        ];
        low = λ l live. elim (cases_eq l place) as (λ _. l < 2 ^ 64 - 1) [
          | inl same ↦ omega (arith, same, counted.low place live_old)
          | inr other ↦ let was : IsSome (slot_at old l) = rw (← sets.others l other) live in counted.low l was
        ];
        short = λ l. omega (arith, ap (λ r. length (links_of r)) (graph l), counted.short l);
        rank = counted.rank;
        falls = λ l k has. let there = ap (λ r. count k (links_of r)) (graph l) in counted.falls l k (omega (arith, there, has));
      }

  -- one owner less is one hold less
  pub holds-less : (old new : List (Option (Slot T))) (place n : ℕ) (hs hs' : List ℕ) → hs ≡ holds_in old → hs' ≡ holds_in new → SetsOwners old new place n → rows_of_slots new ≡ rows_of_slots old → places_at old place ≤ n → n + 1 ≡ owners_in (slot_at old place) → (k : ℕ) → get_or hs' k 0 + one_at place k ≡ get_or hs k 0
  holds-less old new place n hs hs' s s' sets rows enough fewer k =
      let hold : get_or hs k 0 ≡ owners_in (slot_at old k) - places_at old k = ap (λ xs. get_or xs k 0) s ∙ holds_at-slots old k in
      let hold' : get_or hs' k 0 ≡ owners_in (slot_at new k) - places_at new k = ap (λ xs. get_or xs k 0) s' ∙ holds_at-slots new k in
      let placed_in : places_at new k ≡ places_at old k = ap (λ xs. places_in xs k) rows in
      elim (cases_eq k place) as (λ _. get_or hs' k 0 + one_at place k ≡ get_or hs k 0) [
        | inl same ↦ omega (arith, test_same k place same, hold, hold', placed_in, ap (λ j. owners_in (slot_at new j)) same, ap (λ j. owners_in (slot_at old j)) same, ap (places_at old) same, sets.owners, enough, fewer)
        | inr other ↦ omega (arith, test_other k place other, hold, hold', placed_in, ap owners_in (sets.others k other))
      ]

  -- so many rows have at most so many places
  pub places_at-le : (slots : List (Option (Slot T))) → ((l : ℕ) → length (links_of (graph_of slots l)) ≤ 32) → (k : ℕ) → places_at slots k ≤ 32 * count_by is_some slots
  places_at-le [] short k = omega arith
  places_at-le (o ∷ os) short k =
      let first = short 0 in
      let few = count_by-le-length (λ x. eqb x k) (links_of (row_of_slot o)) in
      let rest = places_at-le os (λ l. short (suc l)) k in
      let head : count k (links_of (row_of_slot o)) ≤ 32 * cond (is_some o) 1 0 = at_one o k (omega (arith, first, few)) in
      omega (arith, head, rest, sum_by-cons (λ r. count k (links_of r)) (row_of_slot o) (rows_of_slots os), sum_by-cons (λ x. cond (is_some x) 1 0) o os)
    where
      at_one : (o : Option (Slot T)) (k : ℕ) → count k (links_of (row_of_slot o)) ≤ 32 → count k (links_of (row_of_slot o)) ≤ 32 * cond (is_some o) 1 0
      at_one None k h = omega arith
      at_one (Some e) k h = omega (arith, h)

pub on_ok : {X E : Type 0} (r : Result X E) (P : Type 0) → IsOk r → OnOk r P → P
on_ok (Ok x) P ok h = h
on_ok (Err e) P ok h = cc
