-- What the slots say of a row that is added.
use Rattle.std.proofs.Common.{◌≡◌, ℕ, ◌+◌, ◌-◌, ◌^◌, ◌<◌, ◌≤◌, List, length, refl, sym, ap, arith, Option, Some, min, inl, inr}
use Rattle.std.specs.Prelude.{sum}
use Rattle.std.proofs.lemmas.Bool.{cases_eq}
use Rattle.node_heap.specs.Links.{count}
use Rattle.node_heap.specs.Forms.{Row, links_of, is_cell, is_node}
use Rattle.node_heap.specs.Heap.{Heap, holds_at, owners_at, hold_count, one_at, IsGraph, most_holds}
use Rattle.node_heap.specs.Calls.{Adds, AddsOwner, Makes, Extends, KeepsHeld, KeepsTrees}
use Rattle.node_heap.specs.Layout.{Slot, owners_in, holds_in, slot_at, places_at, PutsIn, IsCounted, IsHeap, seen}
use Rattle.node_heap.proofs.Counts.{sum-moved, test_same, test_other}
use Rattle.node_heap.proofs.Slots.{IsCounted-add, Adds-slots, holds_at-slots, owners_at-slots, holds-room}
use Rattle.node_heap.proofs.Dying.{sum-add}
use Rattle.node_heap.proofs.Frames.{Extends-Adds, KeepsHeld-Extends, KeepsTrees-Extends}
use Rattle.node_heap.proofs.Stored.{IsGraph-stored, Makes-stored, kinds}

module _ {T : Type 0} where
  -- the new slots have this row besides, and its links were held
  pub record Joins (old new : List (Option (Slot T))) (key : ℕ) (row : Row T) : Type 0 where
    pub puts : PutsIn old new key row
    pub short : length (links_of (Some row)) ≤ 32
    pub held : (l : ℕ) → count l (links_of (Some row)) + places_at old l ≤ owners_in (slot_at old l)

  -- what contracts say of a row that was made of a spare
  pub record MakesRow (old new : Heap T) (key : ℕ) (row : Row T) : Type 0 where
    pub adds : Adds old new key row
    pub owners : AddsOwner old new key
    pub sole : owners_at new key ≡ 1
    pub makes : Makes old new (is_cell (Some row)) (is_node (Some row))
    pub graph : IsGraph new
    pub extends : Extends old new
    pub keeps : KeepsHeld (λ l. count l (links_of (Some row))) old new
    pub trees : KeepsTrees old new
    pub count : hold_count new + length (links_of (Some row)) ≡ hold_count old + 1

  module _ {old new : List (Option (Slot T))} {key : ℕ} {row : Row T} (counted : IsCounted old) (j : Joins old new key row) where
    pub counted-joined : IsCounted new
    counted-joined = IsCounted-add old new key _ counted j.puts.was j.puts.now j.puts.others refl j.puts.low j.short j.held

    pub adds-joined : (a b m a' b' m' : ℕ) → Adds (seen old a b m) (seen new a' b' m') key row
    adds-joined a b m a' b' m' = Adds-slots old new key _ (seen old a b m) (seen new a' b' m') refl refl refl refl counted j.puts.was j.puts.now j.puts.others refl j.held

    pub count-joined : sum (holds_in new) + length (links_of (Some row)) ≡ sum (holds_in old) + 1
    count-joined = sum-moved (links_of (Some row)) (holds_in old) (holds_in new) key (omega (arith, holds_at-slots old key, j.held key)) (adds-joined 0 0 0 0 0 0).holds

    pub owners-joined : (a b m a' b' m' : ℕ) → AddsOwner (seen old a b m) (seen new a' b' m') key
    owners-joined a b m a' b' m' k =
        let at_old = owners_at-slots old counted k in
        let at_new = owners_at-slots new counted-joined k in
        elim (cases_eq k key) as (λ _. owners_at (seen new a' b' m') k ≡ owners_at (seen old a b m) k + one_at key k) [
          | inl same ↦ omega (arith, at_old, at_new, ap (λ i. owners_in (slot_at old i)) same, ap (λ i. owners_in (slot_at new i)) same, ap owners_in j.puts.was, ap owners_in j.puts.now, test_same k key same)
          | inr other ↦ omega (arith, at_old, at_new, ap owners_in (j.puts.others k other), test_other k key other)
        ]

  -- a row that the table has put, with links that the caller held
  pub Joins-held : {old new : List (Option (Slot T))} {a b m key : ℕ} {row : Row T} {heap : Heap T} → IsHeap old a b m → seen old a b m ≡ heap → PutsIn old new key row → length (links_of (Some row)) ≤ 32 → ((l : ℕ) → count l (links_of (Some row)) ≤ holds_at heap l) → Joins old new key row
  Joins-held {old} {heap = heap} stored heap_is puts short held = record {
    puts = puts;
    short = short;
    held = λ l. holds-room old heap.holds (sym (ap (λ h. h.holds) heap_is)) stored.counted l _ (held l);
  }

  pub IsHeap-joined : {old new : List (Option (Slot T))} {a b m a' b' m' key : ℕ} {row : Row T} {heap : Heap T} → IsHeap old a b m → seen old a b m ≡ heap → Joins old new key row → a' + is_cell (Some row) ≡ a → b' + is_node (Some row) ≡ b → hold_count heap < most_holds → m' < 2 ^ 64 → IsHeap new a' b' m'
  IsHeap-joined {row = row} stored heap_is j spare_cells spare_nodes few fits = record {
    counted = counted-joined stored.counted j;
    few = omega (arith, spare_cells, spare_nodes, kinds row, j.puts.len, stored.few);
    few_holds = omega (arith, few, ap hold_count heap_is, count-joined stored.counted j);
    fits = fits;
  }

  pub MakesRow-joined : {old new : List (Option (Slot T))} {a b m a' b' m' key : ℕ} {row : Row T} {heap : Heap T} → IsHeap old a b m → seen old a b m ≡ heap → IsHeap new a' b' m' → Joins old new key row → a' + is_cell (Some row) ≡ a → b' + is_node (Some row) ≡ b → m' ≡ min (m + (is_cell (Some row) + is_node (Some row))) (2 ^ 64 - 1)
      → MakesRow heap (seen new a' b' m') key row
  MakesRow-joined {old} {new} {a} {b} {m} {a'} {b'} {m'} {key} {row} stored heap_is stored' j spare_cells spare_nodes made =
      let h = seen old a b m in
      let h' = seen new a' b' m' in
      let adds = adds-joined stored.counted j a b m a' b' m' in
      let graph = IsGraph-stored _ _ _ _ stored in
      let extends = Extends-Adds h h' key row graph adds in
      rw (← heap_is) (record {
        adds = adds;
        owners = owners-joined stored.counted j a b m a' b' m';
        sole = omega (arith, owners_at-slots new stored'.counted key, ap owners_in j.puts.now);
        makes = Makes-stored old new _ _ _ _ _ _ _ _ (sum-add is_cell refl old new key _ j.puts.was j.puts.now j.puts.others) (sum-add is_node refl old new key _ j.puts.was j.puts.now j.puts.others) spare_cells spare_nodes stored.fits made;
        count = count-joined stored.counted j;
        graph = IsGraph-stored _ _ _ _ stored';
        extends = extends;
        keeps = KeepsHeld-Extends _ h h' graph extends (λ l. omega (arith, adds.holds l));
        trees = KeepsTrees-Extends h h' extends;
      })
