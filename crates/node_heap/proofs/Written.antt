-- What becomes of a table where one slot is written.
use Rattle.std.proofs.Common.{◌≡◌, ℕ, ◌+◌, List, get_or, set, refl, sym, ap, ◌∙◌, arith, Option, Some, None, IsSome, is_some, count_by}
use Rattle.std.proofs.Common.{inl, inr}
use Rattle.std.proofs.lemmas.Bool.{cases_eq}
use Rattle.std.proofs.lemmas.List.{get_or-set_same, get_or-set_other}
use Rattle.std.proofs.lemmas.List.Sums.{sum_by-set}
use Rattle.node_heap.specs.Forms.{is_cell, is_node}
use Rattle.node_heap.specs.Layout.{Slot, Table, row_of_slot, owners_in, with_owners, reown, rows_of_slots, slot_at, SetsOwners, TakesOut, KeepsRoom}
use Rattle.node_heap.specs.Heap.{one_at}
use Rattle.node_heap.proofs.Counts.{test_same, test_other}
use Rattle.node_heap.proofs.Slots.{reown_rows}
use Rattle.node_heap.proofs.Stored.{one_if_some}
use Rattle.node_heap.proofs.Woven.{slot-inside}

-- a write where there is a value
pub count-written : {X : Type 0} (xs : List (Option X)) (i : ℕ) (x : X) (o : Option X) → get_or xs i None ≡ Some x → count_by is_some (set xs i o) + 1 ≡ count_by is_some xs + one_if_some o
count-written xs i x o is = omega (arith, sum_by-set one_if_some xs i o None (slot-inside xs i (rw is refl)), ap one_if_some is)

module _ {T : Type 0} where
  at : (slots : List (Option (Slot T))) (place : ℕ) (s : Slot T) (o : Option (Slot T)) → slot_at slots place ≡ Some s → slot_at (set slots place o) place ≡ o
  at slots place s o is = get_or-set_same slots place o None (slot-inside slots place (rw is refl))

  -- the owners of a row are written
  pub record Reowned (t : Table T) (place n : ℕ) : Type 0 where
    pub sets : SetsOwners t.slots (reown t.slots place n) place n
    pub rows : rows_of_slots (reown t.slots place n) ≡ rows_of_slots t.slots
    pub room : KeepsRoom t (record t { slots = reown t.slots place n })

  pub reowned : (t : Table T) (place n : ℕ) → IsSome (slot_at t.slots place) → Reowned t place n
  reowned t place n live =
      let now = of_slot (slot_at t.slots place) refl live in
      record { sets = now.0; rows = reown_rows t.slots place n; room = now.1 }
    where
      Written : Option (Slot T) → Type 0
      Written o = SetsOwners t.slots (set t.slots place o) place n × KeepsRoom t (record t { slots = set t.slots place o })

      of_slot : (o : Option (Slot T)) → slot_at t.slots place ≡ o → IsSome o → Written (with_owners o n)
      of_slot None is some = absurd cc
      of_slot (Some s) is some =
          let s' : Slot T = record { owners = n; row = s.row } in
          let now = at t.slots place s (Some s') is in (
            record {
              row = ap row_of_slot now ∙ sym (ap row_of_slot is);
              owners = ap owners_in now;
              live = rw now refl;
              others = λ k other. get_or-set_other t.slots place k (Some s') None other;
            },
            record {
              len = omega (arith, count-written t.slots place s (Some s') is);
              spare_cells = refl;
              spare_nodes = refl;
            },
          )

  -- one owner more
  pub reowned-more : (t : Table T) (place n : ℕ) → n ≡ owners_in (slot_at t.slots place) → Reowned t place (n + 1) → (k : ℕ) → owners_in (slot_at (reown t.slots place (n + 1)) k) ≡ owners_in (slot_at t.slots k) + one_at k place
  reowned-more t place n read done k =
      let new = reown t.slots place (n + 1) in
      elim (cases_eq k place) as (λ _. owners_in (slot_at new k) ≡ owners_in (slot_at t.slots k) + one_at k place) [
        | inl same ↦ omega (arith, read, done.sets.owners, ap (λ j. owners_in (slot_at new j)) same, ap (λ j. owners_in (slot_at t.slots j)) same, test_same place k (sym same))
        | inr other ↦ omega (arith, ap owners_in (done.sets.others k other), test_other place k (λ e. other (sym e)))
      ]

  -- the row at a place is taken out
  pub taken : (slots : List (Option (Slot T))) (place a b a' b' : ℕ) (s : Slot T) → slot_at slots place ≡ Some s → a' ≡ a + is_cell (Some s.row) → b' ≡ b + is_node (Some s.row)
      → TakesOut (record { slots = slots; spare_cells = a; spare_nodes = b }) (record { slots = set slots place None; spare_cells = a'; spare_nodes = b' }) place
  taken slots place a b a' b' s is cells nodes = record {
    gone = at slots place s None is;
    others = λ k other. get_or-set_other slots place k None None other;
    len = omega (arith, count-written slots place s None is);
    spare_cells = omega (arith, cells, ap (λ o. is_cell (row_of_slot o)) is);
    spare_nodes = omega (arith, nodes, ap (λ o. is_node (row_of_slot o)) is);
  }
