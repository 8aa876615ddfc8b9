-- What is said of slots with more owners, as a function says at each place.
use Rattle.std.proofs.Common.{◌≡◌, ℕ, zero, suc, ◌+◌, ◌<◌, List, [], ◌∷◌, count_by, is_some, get_or, refl, ap, sym, ◌∙◌, arith, Option, Some, None, IsSome}
use Rattle.node_heap.specs.Layout.{Slot, row_of_slot, owners_in, rows_of_slots, slot_at, places_at, graph_of, filled_count, SetsOwners, Rewrites, PutsIn}
use Rattle.node_heap.specs.Forms.{Row, links_of, head_of, is_node}
use Rattle.node_heap.specs.declared.row.Head.{Head}
use Rattle.node_heap.specs.Heap.{places_in}
use Rattle.node_heap.specs.Pairs.{more, more_owned}
use Rattle.node_heap.proofs.Stored.{live_slots}

module _ {T : Type 0} where
  -- a slot by its row and its owners
  pub same-slot : (a b : Option (Slot T)) → row_of_slot a ≡ row_of_slot b → owners_in a ≡ owners_in b → a ≡ b
  same-slot None None rows owner = refl
  same-slot None (Some b) rows owner = absurd cc
  same-slot (Some a) None rows owner = absurd cc
  same-slot (Some a) (Some b) rows owner = let same : a.row ≡ b.row = cc in λ j. Some (record { owners = owner j; row = same j })

  row-owned : (n : ℕ) (s : Option (Slot T)) → row_of_slot (more_owned n s) ≡ row_of_slot s
  row-owned n None = refl
  row-owned n (Some s) = refl

  live-owned : (n : ℕ) (s : Option (Slot T)) → IsSome s → IsSome (more_owned n s)
  live-owned n None some = cc
  live-owned n (Some s) some = refl

  was-live : (n : ℕ) (s : Option (Slot T)) → IsSome (more_owned n s) → IsSome s
  was-live n None some = cc
  was-live n (Some s) some = refl

  was-none : (n : ℕ) (s : Option (Slot T)) → more_owned n s ≡ None → s ≡ None
  was-none n None is = refl
  was-none n (Some s) is = absurd cc

  owned-by : (n : ℕ) (s : Option (Slot T)) → IsSome s → owners_in (more_owned n s) ≡ owners_in s + n
  owned-by n None some = absurd cc
  owned-by n (Some s) some = refl

  -- nothing is added where there is no row
  owned-all : (n : ℕ) (s : Option (Slot T)) → (0 < n → IsSome s) → owners_in (more_owned n s) ≡ owners_in s + n
  owned-all zero None live = refl
  owned-all (suc n) None live = absurd (let some = live (omega arith) in cc)
  owned-all n (Some s) live = refl

  owned-none : (s : Option (Slot T)) → more_owned 0 s ≡ s
  owned-none None = refl
  owned-none (Some s) = let same : s.owners + 0 ≡ s.owners = omega arith in λ j. Some (record { owners = same j; row = s.row })

  slot-from : (f : ℕ → ℕ) (i : ℕ) (slots : List (Option (Slot T))) (l : ℕ) → get_or (more f i slots) l None ≡ more_owned (f (i + l)) (get_or slots l None)
  slot-from f i [] l = refl
  slot-from f i (s ∷ ss) zero = ap (λ j. more_owned (f j) s) (omega arith)
  slot-from f i (s ∷ ss) (suc l) = slot-from f (suc i) ss l ∙ ap (λ j. more_owned (f j) (get_or ss l None)) (omega arith)

  pub at-more : (f : ℕ → ℕ) (slots : List (Option (Slot T))) (l : ℕ) → slot_at (more f 0 slots) l ≡ more_owned (f l) (slot_at slots l)
  at-more f slots l = slot-from f 0 slots l ∙ ap (λ j. more_owned (f j) (slot_at slots l)) (omega arith)

  pub graph-more : (f : ℕ → ℕ) (slots : List (Option (Slot T))) (l : ℕ) → graph_of (more f 0 slots) l ≡ graph_of slots l
  graph-more f slots l = ap row_of_slot (at-more f slots l) ∙ row-owned (f l) (slot_at slots l)

  rows-from : (f : ℕ → ℕ) (i : ℕ) (slots : List (Option (Slot T))) → rows_of_slots (more f i slots) ≡ rows_of_slots slots
  rows-from f i [] = refl
  rows-from f i (s ∷ ss) = λ j. row-owned (f i) s j ∷ rows-from f (suc i) ss j

  pub rows-more : (f : ℕ → ℕ) (slots : List (Option (Slot T))) → rows_of_slots (more f 0 slots) ≡ rows_of_slots slots
  rows-more f slots = rows-from f 0 slots

  pub places-more : (f : ℕ → ℕ) (slots : List (Option (Slot T))) (l : ℕ) → places_at (more f 0 slots) l ≡ places_at slots l
  places-more f slots l = ap (λ xs. places_in xs l) (rows-more f slots)

  pub filled-more : (f : ℕ → ℕ) (slots : List (Option (Slot T))) → filled_count (more f 0 slots) ≡ filled_count slots
  filled-more f slots = sym (live_slots (more f 0 slots)) ∙ ap (λ xs. count_by is_some xs) (rows-more f slots) ∙ live_slots slots

  pub more-live : (f : ℕ → ℕ) (slots : List (Option (Slot T))) (l : ℕ) → IsSome (slot_at slots l) → IsSome (slot_at (more f 0 slots) l)
  more-live f slots l live = rw (at-more f slots l) (live-owned (f l) (slot_at slots l) live)

  pub live-more : (f : ℕ → ℕ) (slots : List (Option (Slot T))) (l : ℕ) → IsSome (slot_at (more f 0 slots) l) → IsSome (slot_at slots l)
  live-more f slots l live = was-live (f l) (slot_at slots l) (rw (← at-more f slots l) live)

  pub none-more : (f : ℕ → ℕ) (slots : List (Option (Slot T))) (l : ℕ) → slot_at (more f 0 slots) l ≡ None → slot_at slots l ≡ None
  none-more f slots l none = was-none (f l) (slot_at slots l) (sym (at-more f slots l) ∙ none)

  pub more-none : (f : ℕ → ℕ) (slots : List (Option (Slot T))) (l : ℕ) → slot_at slots l ≡ None → slot_at (more f 0 slots) l ≡ None
  more-none f slots l none = at-more f slots l ∙ ap (more_owned (f l)) none

  pub owners-more : (f : ℕ → ℕ) (slots : List (Option (Slot T))) (l : ℕ) → IsSome (slot_at slots l) → owners_in (slot_at (more f 0 slots) l) ≡ owners_in (slot_at slots l) + f l
  owners-more f slots l live = ap owners_in (at-more f slots l) ∙ owned-by (f l) (slot_at slots l) live

  -- of each place, where rows alone have more
  pub owners-all : (f : ℕ → ℕ) (slots : List (Option (Slot T))) → ((l : ℕ) → 0 < f l → IsSome (slot_at slots l)) → (l : ℕ) → owners_in (slot_at (more f 0 slots) l) ≡ owners_in (slot_at slots l) + f l
  owners-all f slots live l = ap owners_in (at-more f slots l) ∙ owned-all (f l) (slot_at slots l) (live l)

  -- nothing is added
  pub at-none : (f : ℕ → ℕ) (slots : List (Option (Slot T))) (l : ℕ) → f l ≡ 0 → slot_at (more f 0 slots) l ≡ slot_at slots l
  at-none f slots l none = at-more f slots l ∙ ap (λ n. more_owned n (slot_at slots l)) none ∙ owned-none (slot_at slots l)

  pub more-same : (f g : ℕ → ℕ) (slots : List (Option (Slot T))) → ((l : ℕ) → f l ≡ g l) → more f 0 slots ≡ more g 0 slots
  more-same f g slots same = λ j. more (λ l. same l j) 0 slots

  -- the same slot, with as many more
  pub slot-same : (f g : ℕ → ℕ) (old new : List (Option (Slot T))) (l : ℕ) → slot_at new l ≡ slot_at old l → g l ≡ f l → slot_at (more g 0 new) l ≡ slot_at (more f 0 old) l
  slot-same f g old new l same count = at-more g new l ∙ (λ j. more_owned (count j) (same j)) ∙ sym (at-more f old l)

  pub sets-more : (f g : ℕ → ℕ) (old new : List (Option (Slot T))) (place n : ℕ) → ((l : ℕ) → g l ≡ f l) → SetsOwners old new place n → SetsOwners (more f 0 old) (more g 0 new) place (n + f place)
  sets-more f g old new place n same sets = record {
    row = graph-more g new place ∙ sets.row ∙ sym (graph-more f old place);
    owners = omega (arith, owners-more g new place sets.live, sets.owners, same place);
    live = more-live g new place sets.live;
    others = λ k other. slot-same f g old new k (sets.others k other) (same k);
  }

  pub rewrites-more : (f g : ℕ → ℕ) (old new : List (Option (Slot T))) (place : ℕ) (head : Option Head) (links : List ℕ) → ((l : ℕ) → g l ≡ f l) → IsSome (slot_at old place) → Rewrites old new place head links → Rewrites (more f 0 old) (more g 0 new) place head links
  rewrites-more f g old new place head links same live wrote = record {
    new_head = ap head_of (graph-more g new place) ∙ wrote.new_head;
    new_links = ap links_of (graph-more g new place) ∙ wrote.new_links;
    is_same_kind = ap is_node (graph-more g new place) ∙ wrote.is_same_kind ∙ ap is_node (sym (graph-more f old place));
    same_owners = omega (arith, owners-more g new place wrote.live, owners-more f old place live, wrote.same_owners, same place);
    live = more-live g new place wrote.live;
    others = λ k other. slot-same f g old new k (wrote.others k other) (same k);
  }

  pub puts-more : (f g : ℕ → ℕ) (old new : List (Option (Slot T))) (place : ℕ) (row : Row T) → ((l : ℕ) → g l ≡ f l) → f place ≡ 0 → PutsIn old new place row → PutsIn (more f 0 old) (more g 0 new) place row
  puts-more f g old new place row same none puts = record {
    was = more-none f old place puts.was;
    now = at-none g new place (same place ∙ none) ∙ puts.now;
    others = λ k other. slot-same f g old new k (puts.others k other) (same k);
    low = puts.low;
    len = filled-more g new ∙ puts.len ∙ ap (λ n. n + 1) (sym (filled-more f old));
  }
