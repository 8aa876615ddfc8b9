-- What the pairs of a table say after its rows have changed.
use Rattle.std.proofs.Common.{◌≡◌, ◌≢◌, ℕ, ◌<◌, List, length, refl, ap, sym, subst, ◌∙◌, arith, Option, Some, None, IsSome, inl, inr}
use Rattle.std.specs.Prelude.{Result, Ok, Err, OnErr}
use Rattle.std.proofs.lemmas.Bool.{cases_eq}
use Rattle.node_heap.specs.Links.{count}
use Rattle.node_heap.specs.Forms.{Row, links_of, is_node}
use Rattle.node_heap.specs.Layout.{Slot, Table, row_of_slot, owners_in, slot_at, graph_of, PutsIn, Rewrites, KeepsRoom}
use Rattle.node_heap.specs.Pairs.{common_at, paired, more, counted_too, IsSharing, CountsAlike}
use Rattle.node_heap.specs.declared.pairs.Pair.{Pair}
use Rattle.node_heap.specs.declared.row.Head.{Head}
use Rattle.node_heap.proofs.MoreOwners.{same-slot, puts-more, rewrites-more, graph-more, filled-more, owners-all}
use Rattle.node_heap.proofs.PairLemmas.{Stay, common-apart, sharing-apart, paired-live, common-none, graph-rows}

pub not-there : {T : Type 0} (slots : List (Option (Slot T))) (k place : ℕ) → IsSome (slot_at slots k) → slot_at slots place ≡ None → k ≢ place
not-there {T} slots k place live none same = absurd (let there : IsSome (slot_at slots place) = subst (λ j. IsSome (slot_at slots j)) same live in let gone : IsSome {T = Slot T} None = subst IsSome none there in cc)

module _ {T : Type 0} {old new : List (Option (Slot T))} {ps : List Pair} where
  -- a row that comes is in no pair
  module _ {place : ℕ} {row : Row T} (puts : PutsIn old new place row) (sharing : IsSharing old ps) where
    pub put-stay : Stay old new ps
    put-stay k some =
        let same = puts.others k (not-there old k place (paired-live old ps sharing.each k some) puts.was) in
        (ap (λ s. links_of (row_of_slot s)) same, λ live. rw same live)

    pub sharing-put : IsSharing new ps
    sharing-put = sharing-apart old new ps put-stay (λ l some live. rw (puts.others l (not-there old l place live puts.was)) live) sharing

    pub puts-shared : PutsIn (more (common_at old ps) 0 old) (more (common_at new ps) 0 new) place row
    puts-shared = puts-more (common_at old ps) (common_at new ps) old new place row (common-apart old new ps put-stay) (common-none old ps sharing place puts.was) puts

  -- a row that is written and is in no pair
  module _ {place : ℕ} {head : Option Head} {links : List ℕ} (wrote : Rewrites old new place head links) (live : IsSome (slot_at old place)) (sharing : IsSharing old ps) (off : count place (paired ps) ≡ 0) where
    wrote-stay : Stay old new ps
    wrote-stay k some =
        let same = wrote.others k (λ e. absurd (omega (arith, ap (λ j. count j (paired ps)) e, off, some))) in
        (ap (λ s. links_of (row_of_slot s)) same, λ live. rw same live)

    pub sharing-wrote : IsSharing new ps
    sharing-wrote = sharing-apart old new ps wrote-stay (λ l some there. still l there) sharing
      where
        still : (l : ℕ) → IsSome (slot_at old l) → IsSome (slot_at new l)
        still l there = elim (cases_eq l place) as (λ _. IsSome (slot_at new l)) [
          | inl same ↦ subst (λ j. IsSome (slot_at new j)) (sym same) wrote.live
          | inr other ↦ rw (wrote.others l other) there
        ]

    pub wrote-shared : Rewrites (more (common_at old ps) 0 old) (more (common_at new ps) 0 new) place head links
    wrote-shared = rewrites-more (common_at old ps) (common_at new ps) old new place head links (common-apart old new ps wrote-stay) live wrote

  -- a row that gets another head alone
  module _ {place : ℕ} {head : Option Head} (wrote : Rewrites old new place head (links_of (graph_of old place))) (live : IsSome (slot_at old place)) (sharing : IsSharing old ps) where
    still-there : (l : ℕ) → IsSome (slot_at old l) → IsSome (slot_at new l)
    still-there l there = elim (cases_eq l place) as (λ _. IsSome (slot_at new l)) [
      | inl same ↦ subst (λ j. IsSome (slot_at new j)) (sym same) wrote.live
      | inr other ↦ rw (wrote.others l other) there
    ]

    head-stay : Stay old new ps
    head-stay k some = elim (cases_eq k place) as (λ _. (links_of (graph_of new k) ≡ links_of (graph_of old k)) × (IsSome (slot_at old k) → IsSome (slot_at new k))) [
      | inl same ↦ (ap (λ j. links_of (graph_of new j)) same ∙ wrote.new_links ∙ ap (λ j. links_of (graph_of old j)) (sym same), still-there k)
      | inr other ↦ (ap (λ s. links_of (row_of_slot s)) (wrote.others k other), still-there k)
    ]

    pub sharing-headed : IsSharing new ps
    sharing-headed = sharing-apart old new ps head-stay (λ l some there. still-there l there) sharing

    pub headed-shared : Rewrites (more (common_at old ps) 0 old) (more (common_at new ps) 0 new) place head (links_of (graph_of old place))
    headed-shared = rewrites-more (common_at old ps) (common_at new ps) old new place head _ (common-apart old new ps head-stay) live wrote

-- the rows are the same, and each has as many owners: what contracts see of each is the same
module _ {T : Type 0} {old new : Table T} {ps qs : List Pair} (alike : CountsAlike old ps new qs) (was : IsSharing old.slots ps) (is : IsSharing new.slots qs) where
  pub slot-alike : (l : ℕ) → slot_at (more (common_at new.slots qs) 0 new.slots) l ≡ slot_at (more (common_at old.slots ps) 0 old.slots) l
  slot-alike l = same-slot (slot_at (more (common_at new.slots qs) 0 new.slots) l) (slot_at (more (common_at old.slots ps) 0 old.slots) l) rows owners
    where
      rows : graph_of (more (common_at new.slots qs) 0 new.slots) l ≡ graph_of (more (common_at old.slots ps) 0 old.slots) l
      rows = graph-more (common_at new.slots qs) new.slots l ∙ graph-rows old.slots new.slots alike.rows l ∙ sym (graph-more (common_at old.slots ps) old.slots l)

      owners : owners_in (slot_at (more (common_at new.slots qs) 0 new.slots) l) ≡ owners_in (slot_at (more (common_at old.slots ps) 0 old.slots) l)
      owners = omega (arith, owners-all (common_at new.slots qs) new.slots is.linked l, owners-all (common_at old.slots ps) old.slots was.linked l, alike.owners l)

-- the slots were others, of which contracts say the same
module _ {T : Type 0} {mid old new : List (Option (Slot T))} (same : (l : ℕ) → slot_at mid l ≡ slot_at old l) where
  pub rewrites-alike : {place : ℕ} {head : Option Head} {links : List ℕ} → Rewrites mid new place head links → Rewrites old new place head links
  rewrites-alike {place} wrote = record {
    new_head = wrote.new_head;
    new_links = wrote.new_links;
    is_same_kind = wrote.is_same_kind ∙ ap (λ s. is_node (row_of_slot s)) (same place);
    same_owners = wrote.same_owners ∙ ap owners_in (same place);
    live = wrote.live;
    others = λ k other. wrote.others k other ∙ same k;
  }

-- a row with a link is there
pub live-long : {T : Type 0} (s : Option (Slot T)) (i : ℕ) → i < length (links_of (row_of_slot s)) → IsSome s
live-long None i inside = absurd (omega (arith, inside))
live-long (Some s) i inside = refl

pub live-node : {T : Type 0} (s : Option (Slot T)) → is_node (row_of_slot s) ≡ 1 → IsSome s
live-node None is = absurd (omega (arith, is))
live-node (Some s) is = refl

-- the room of a table is that of what contracts see of it
pub room-shared : {T : Type 0} {old new : Table T} (ps qs : List Pair) → KeepsRoom old new → KeepsRoom (counted_too old ps) (counted_too new qs)
room-shared {old = old} {new} ps qs room = record {
  len = filled-more (common_at new.slots qs) new.slots ∙ room.len ∙ sym (filled-more (common_at old.slots ps) old.slots);
  spare_cells = room.spare_cells;
  spare_nodes = room.spare_nodes;
}

-- what is said of a refusal
pub err-then : {X E A B : Type 0} (r : Result X E) → (A → B) → OnErr r A → OnErr r B
err-then (Ok x) f h = h
err-then (Err e) f h = f h
