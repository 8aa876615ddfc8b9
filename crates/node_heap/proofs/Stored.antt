-- What the fields of a heap say of the heap that contracts see.
use Rattle.std.proofs.Common.{◌≡◌, ℕ, ◌+◌, ◌-◌, ◌^◌, ◌<◌, ◌≤◌, List, [], ◌∷◌, length, get_or, refl, sym, ap, ◌∙◌, arith, Option, Some, None, IsSome, is_some, count_by, cond, min}
use Rattle.std.specs.Prelude.{option_map, sum_by, sum}
use Rattle.std.proofs.lemmas.List.Sums.{sum_by-cons}
use Rattle.node_heap.specs.Links.{count, HasLink}
use Rattle.node_heap.specs.Forms.{Row, cell, node, trie, links_of, links_in, head_of, kind_of, form_of, is_cell, is_node}
use Rattle.node_heap.specs.Layout.{row_of_slot, owners_in, rows_of_slots, holds_in, slot_at, places_at, graph_of, cells_in, nodes_in, IsCounted, IsHeap, seen}
use Rattle.node_heap.specs.Heap.{Heap, row_at, links_at, holds_at, owners_at, IsGraph, row_limit}
use Rattle.node_heap.specs.Calls.{Makes, Unchanged}
use Rattle.node_heap.specs.Layout.{Slot}
use Rattle.node_heap.specs.declared.row.Head.{Head}
use Rattle.node_heap.specs.declared.row.Head.TheVariants.{Leaf, Inner, Trie, Chain, Pair, State}
use Rattle.node_heap.proofs.Slots.{row_at-slots, holds_at-slots, owners_at-slots, placed, live-owned}
use Rattle.node_heap.proofs.Reached.{under-held}
use Rattle.node_heap.proofs.Reach.{Reaches-by}
use Rattle.node_heap.proofs.GraphLemmas.{rows-kinds}

-- 1 where there is a value, and else 0
abbrev pub one_if_some : {X : Type 0} → Option X → ℕ
one_if_some o = cond (is_some o) 1 0

-- the head of a row of a trie, by its kind
trie-head : (head : Head) (d e n : ℕ) → kind_of head ≡ trie d e n → head ≡ Trie d e n
trie-head Leaf d e n is = absurd cc
trie-head (Inner height sums) d e n is = absurd cc
trie-head (Trie depth entries nodes) d e n is = cc
trie-head Chain d e n is = absurd cc
trie-head Pair d e n is = absurd cc
trie-head State d e n is = absurd cc

module _ {T : Type 0} where
  pub trie-headed : (r : Option (Row T)) (d e n : ℕ) (links : List ℕ) → option_map form_of r ≡ Some (node (trie d e n) links) → head_of r ≡ Some (Trie d e n)
  trie-headed None d e n links is = absurd cc
  trie-headed (Some (cell x)) d e n links is = absurd cc
  trie-headed (Some (node head items)) d e n links is = let kind : kind_of head ≡ trie d e n = cc in ap Some (trie-head head d e n kind)

  pub live_slot : (e : Option (Slot T)) → IsSome (row_of_slot e) → IsSome e
  live_slot None some = cc
  live_slot (Some e) some = refl

  pub live_row : (e : Option (Slot T)) → IsSome e → IsSome (row_of_slot e)
  live_row None some = cc
  live_row (Some e) some = refl

  -- a row is a cell or a node
  pub kinds : (r : Row T) → is_cell (Some r) + is_node (Some r) ≡ 1
  kinds (cell x) = refl
  kinds (node head links) = refl

  pub kinds-row : (e : Option (Slot T)) → IsSome e → is_cell (row_of_slot e) + is_node (row_of_slot e) ≡ 1
  kinds-row None some = cc
  kinds-row (Some e) some = kinds e.row

  pub live-rows : (old new : List (Option (Slot T))) (place : ℕ) → rows_of_slots new ≡ rows_of_slots old → IsSome (slot_at old place) → IsSome (slot_at new place)
  live-rows old new place rows live =
      let same : graph_of new place ≡ graph_of old place = sym (row_at-slots new place) ∙ ap (λ xs. get_or xs place None) rows ∙ row_at-slots old place in
      live_slot (slot_at new place) (rw same (live_row (slot_at old place) live))

  -- so many rows as slots in use
  pub live_slots : (slots : List (Option (Slot T))) → count_by is_some (rows_of_slots slots) ≡ count_by is_some slots
  live_slots [] = refl
  live_slots (o ∷ os) =
      omega (arith, live_slots os, at_one o, sum_by-cons (λ x. cond (is_some x) 1 0) (row_of_slot o) (rows_of_slots os), sum_by-cons (λ x. cond (is_some x) 1 0) o os)
    where
      at_one : (o : Option (Slot T)) → one_if_some (row_of_slot o) ≡ one_if_some o
      at_one None = refl
      at_one (Some e) = refl

  pub IsGraph-stored : (slots : List (Option (Slot T))) (cells nodes number : ℕ) → IsHeap slots cells nodes number → IsGraph (seen slots cells nodes number)
  IsGraph-stored slots cells nodes number stored = record {
    closed = λ l k has. live k (live-owned (slot_at slots k) (omega (arith, placed slots l k (linked l k has), counted.places k)));
    held = λ l some. live l (live-owned (slot_at slots l) (omega (arith, hold l, some)));
    reached = λ l some.
        let up = under-held slots counted l (live_slot (slot_at slots l) (rw (← row l) some)) in
        (up.0, omega (arith, hold up.0, up.1), Reaches-by (links_in (graph_of slots)) (links_at h) (λ l. ap links_of (row l)) up.0 l up.2);
    rank = counted.rank;
    falls = λ l k has. counted.falls l k (linked l k has);
    short = λ l. omega (arith, ap (λ r. length (links_of r)) (row l), counted.short l);
    few_holds = stored.few_holds;
    few_rows = omega (arith, stored.few, live_slots slots);
    few_made = stored.fits;
  }
    where
      h : Heap T
      h = seen slots cells nodes number

      counted : IsCounted slots
      counted = stored.counted

      row : (l : ℕ) → row_at h l ≡ graph_of slots l
      row l = row_at-slots slots l

      hold : (l : ℕ) → holds_at h l ≡ owners_in (slot_at slots l) - places_at slots l
      hold l = holds_at-slots slots l

      linked : (l k : ℕ) → HasLink (links_at h) l k → HasLink (links_in (graph_of slots)) l k
      linked l k has = omega (arith, ap (λ o. count k (links_of o)) (row l), has)

      live : (l : ℕ) → IsSome (slot_at slots l) → IsSome (row_at h l)
      live l some = rw (row l) (live_row (slot_at slots l) some)

  -- what a heap shows of a link
  module _ {slots : List (Option (Slot T))} {a b n place link : ℕ} {heap : Heap T} (counted : IsCounted slots) (heap_is : seen slots a b n ≡ heap) (link_is : place ≡ link) where
    pub row-seen : row_at heap link ≡ graph_of slots place
    row-seen = rw (← heap_is, ← link_is) (row_at-slots slots place)

    pub owners-seen : owners_in (slot_at slots place) ≡ owners_at heap link
    owners-seen = rw (← heap_is, ← link_is) (owners_at-slots slots counted place)

    pub live-seen : 0 < owners_at heap link → IsSome (row_at heap link)
    live-seen some = rw row-seen (live_row (slot_at slots place) (live-owned (slot_at slots place) (omega (arith, owners-seen, some))))

  -- so many rows of each kind were made of spares
  pub Makes-stored : (old new : List (Option (Slot T))) (a b m a' b' m' c n : ℕ) → cells_in new ≡ cells_in old + c → nodes_in new ≡ nodes_in old + n → a' + c ≡ a → b' + n ≡ b → m < 2 ^ 64 → m' ≡ min (m + (c + n)) (2 ^ 64 - 1) → Makes (seen old a b m) (seen new a' b' m') c n
  Makes-stored old new a b m a' b' m' c n cells nodes spare_cells spare_nodes fits made = record {
    spare_cells = spare_cells;
    spare_nodes = spare_nodes;
    cells = cells;
    nodes = nodes;
    live = omega (arith, cells, nodes, rows-kinds (rows_of_slots old), rows-kinds (rows_of_slots new));
    made = made;
    no_fewer = omega (arith, made, fits);
  }

  -- the slots are the same, and no spare is lost
  pub Unchanged-stored : (slots slots' : List (Option (Slot T))) (a b m a' b' : ℕ) → slots' ≡ slots → IsHeap slots' a' b' m → a ≤ a' → b ≤ b' → Unchanged (seen slots a b m) (seen slots' a' b' m)
  Unchanged-stored slots slots' a b m a' b' same stored at_a at_b = record {
    rows = λ k. ap (λ xs. get_or (rows_of_slots xs) k None) same;
    holds = λ k. ap (λ xs. get_or (holds_in xs) k 0) same;
    count = ap (λ xs. sum (holds_in xs)) same;
    cells = ap (λ xs. sum_by is_cell (rows_of_slots xs)) same;
    nodes = ap (λ xs. sum_by is_node (rows_of_slots xs)) same;
    live = ap (λ xs. count_by is_some (rows_of_slots xs)) same;
    made = refl;
    spare_cells = at_a;
    spare_nodes = at_b;
    graph = IsGraph-stored slots' a' b' m stored;
  }

  -- the slots are the same, with more spares
  pub IsHeap-reserved : (slots slots' : List (Option (Slot T))) (a b m a' b' : ℕ) → slots' ≡ slots → IsHeap slots a b m → count_by is_some slots + (a' + b') < row_limit → IsHeap slots' a' b' m
  IsHeap-reserved slots slots' a b m a' b' same stored few = record {
    counted = rw same stored.counted;
    few = omega (arith, few, ap (λ xs. count_by is_some xs) same);
    few_holds = omega (arith, stored.few_holds, ap (λ xs. sum (holds_in xs)) same);
    fits = stored.fits;
  }
