-- What becomes of pairs where a row is taken out to which no row leads.
use Rattle.std.proofs.Common.{◌≡◌, ◌≢◌, ◌⊎◌, ℕ, ◌+◌, ◌<◌, ◌≤◌, List, length, refl, ap, sym, subst, ◌∙◌, arith, Option, None, Bool, true, false, inl, inr}
use Rattle.std.specs.Prelude.{remove, ◌==◌, if◌then◌else◌, IfSome}
use Rattle.std.proofs.lemmas.Bool.{cases_eq}
use Rattle.std.proofs.lemmas.Bool.Decides.{nat_tests}
use Rattle.node_heap.specs.Links.{count}
use Rattle.node_heap.specs.Forms.{Row, links_of}
use Rattle.node_heap.specs.Heap.{one_at}
use Rattle.node_heap.specs.Layout.{Slot, Table, row_of_slot, owners_in, rows_of_slots, slot_at, places_at, graph_of, TakesOut}
use Rattle.node_heap.specs.Pairs.{only, common, common_at, paired, no_pair, own_in, IsOf, HasNoPair, LeavesPair, more, counted_too, IsPair, IsSharing, GivesUp}
use Rattle.node_heap.specs.declared.pairs.Pair.{Pair}
use Rattle.node_heap.proofs.Counts.{le-sum_by, test_same}
use Rattle.node_heap.proofs.Slots.{row_at-slots}
use Rattle.node_heap.proofs.MoreOwners.{more-none, graph-more, places-more, filled-more, owners-all}
use Rattle.node_heap.proofs.PairLemmas.{if-some, count-own, count-without, paired-removed, twice, Stay, common-apart, sharing-apart, common-removed, sharing-removed, off-removed}

module _ {T : Type 0} {old new : Table T} {place : ℕ} (taken : TakesOut old new place) (unplaced : places_at old.slots place ≡ 0) where
  abbrev pub own_row : List ℕ
  own_row = links_of (graph_of old.slots place)

  module _ {ps : List Pair} (sharing : IsSharing old.slots ps) (off : count place (paired ps) ≡ 0) where
    taken-stay : Stay old.slots new.slots ps
    taken-stay k some =
        let same = taken.others k (λ e. absurd (omega (arith, ap (λ j. count j (paired ps)) e, off, some))) in
        (ap (λ s. links_of (row_of_slot s)) same, λ live. rw same live)

    common-place : common_at old.slots ps place ≡ 0
    common-place = omega (arith, twice old.slots ps sharing place, unplaced)

    pub sharing-taken : IsSharing new.slots ps
    sharing-taken = sharing-apart old.slots new.slots ps taken-stay (λ l some live. rw (taken.others l (λ e. absurd (omega (arith, some, ap (common_at old.slots ps) e, common-place)))) live) sharing

    -- the exact owners of the others
    pub owners-taken : (k : ℕ) → k ≢ place → owners_in (slot_at (more (common_at new.slots ps) 0 new.slots) k) ≡ owners_in (slot_at old.slots k) + common_at old.slots ps k
    owners-taken k other = omega (arith, owners-all (common_at new.slots ps) new.slots sharing-taken.linked k, common-apart old.slots new.slots ps taken-stay k, ap owners_in (taken.others k other))

  -- a row in no pair gives up all its links
  pub gives-alone : {ps qs : List Pair} {links : List ℕ} → IsSharing old.slots ps → HasNoPair place ps own_row qs links → IsSharing new.slots qs × GivesUp (counted_too old ps) (counted_too new qs) place links
  gives-alone {ps} {qs} {links} sharing none =
      let result : IsSharing new.slots ps × GivesUp (counted_too old ps) (counted_too new ps) place own_row = (
        sharing-taken sharing none.off,
        record {
          gone = more-none (common_at new.slots ps) new.slots place taken.gone;
          rows = λ k other. graph-more (common_at new.slots ps) new.slots k ∙ ap row_of_slot (taken.others k other) ∙ sym (graph-more (common_at old.slots ps) old.slots k);
          owners = λ k other.
              omega (arith, owners-taken sharing none.off k other, owners-all (common_at old.slots ps) old.slots sharing.linked k, ap (λ r. count k (links_of r)) (graph-more (common_at old.slots ps) old.slots place));
          own = λ k. omega (arith, ap (λ r. count k (links_of r)) (graph-more (common_at old.slots ps) old.slots place));
          shared = λ k. omega (arith, ap (λ r. count k (links_of r)) (graph-more (common_at old.slots ps) old.slots place));
          len = omega (arith, filled-more (common_at new.slots ps) new.slots, filled-more (common_at old.slots ps) old.slots, taken.len);
          spare_cells = rw (graph-more (common_at old.slots ps) old.slots place) taken.spare_cells;
          spare_nodes = rw (graph-more (common_at old.slots ps) old.slots place) taken.spare_nodes;
        },
      ) in
      rw (none.same, none.all) result

  -- a row of a pair gives up its own link alone
  module _ {ps qs : List Pair} {links : List ℕ} (sharing : IsSharing old.slots ps) (leaves : LeavesPair place ps own_row qs links) where
    abbrev p : Pair
    p = leaves.pair

    is : IsPair old.slots p
    is = subst (IsPair old.slots) leaves.found (sharing.each leaves.index no_pair leaves.inside)

    abbrev rest : List Pair
    rest = remove ps leaves.index

    sharing-rest : IsSharing old.slots rest
    sharing-rest = sharing-removed old.slots ps leaves.index no_pair leaves.inside sharing

    split-common : (k : ℕ) → common_at old.slots rest k + count k (common old.slots p) ≡ common_at old.slots ps k
    split-common k = subst (λ (q : Pair). common_at old.slots rest k + count k (common old.slots q) ≡ common_at old.slots ps k) leaves.found (common-removed old.slots ps leaves.index no_pair leaves.inside k)

    off-rest : count place (paired rest) ≡ 0
    off-rest =
        let offs = subst (λ (q : Pair). (count q.before (paired rest) ≡ 0) × (count q.after (paired rest) ≡ 0)) leaves.found (off-removed old.slots ps leaves.index no_pair leaves.inside sharing) in
        elim leaves.is_of as (λ _. count place (paired rest) ≡ 0) [ inl before ↦ ap (λ j. count j (paired rest)) before ∙ offs.0 | inr after ↦ ap (λ j. count j (paired rest)) after ∙ offs.1 ]

    apart : p.before ≢ p.after
    apart same =
        let twice_in = subst (λ (q : Pair). count p.before (paired rest) + (one_at p.before q.before + one_at p.before q.after) ≡ count p.before (paired ps)) leaves.found (paired-removed p.before ps leaves.index no_pair leaves.inside) in
        absurd (omega (arith, twice_in, sharing.apart p.before, test_same p.before p.before refl, test_same p.after p.before (sym same)))

    -- the other row, which stays
    record Other : Type 0 where
      beside : ℕ
      away : beside ≢ place
      split : (k : ℕ) → count k (common old.slots p) + count k (only (own_in place p) own_row) ≡ count k own_row
      has : (k : ℕ) → count k (common old.slots p) ≤ count k (links_of (graph_of old.slots beside))

    other : Other
    other = elim (cases_eq p.before place) as (λ _. Other) [
      | inl same ↦
          let own : own_in place p ≡ p.out = ap (λ (t : Bool). if t then p.out else p.into) (test-yes same) in
          record {
            beside = p.after;
            away = λ e. apart (same ∙ sym e);
            split = λ k.
                omega (
                  arith,
                  count-own p.out (links_of (graph_of old.slots p.before)) k is.out_inside,
                  ap (λ o. count k (only o own_row)) own,
                  ap (λ j. count k (only p.out (links_of (graph_of old.slots j)))) same,
                  ap (λ j. count k (links_of (graph_of old.slots j))) same,
                );
            has = λ k. omega (arith, ap (count k) is.agree, count-without p.into (links_of (graph_of old.slots p.after)) k);
          }
      | inr off ↦
          let after : place ≡ p.after = elim leaves.is_of as (λ _. place ≡ p.after) [ inl before ↦ absurd (off (sym before)) | inr is ↦ is ] in
          let own : own_in place p ≡ p.into = ap (λ (t : Bool). if t then p.out else p.into) (test-no off) in
          record {
            beside = p.before;
            away = off;
            split = λ k.
                omega (
                  arith,
                  ap (count k) is.agree,
                  count-own p.into (links_of (graph_of old.slots p.after)) k is.into_inside,
                  ap (λ o. count k (only o own_row)) own,
                  ap (λ j. count k (only p.into (links_of (graph_of old.slots j)))) after,
                  ap (λ j. count k (links_of (graph_of old.slots j))) after,
                );
            has = λ k. count-without p.out (links_of (graph_of old.slots p.before)) k;
          }
    ]
      where
        test-yes : p.before ≡ place → (p.before == place) ≡ true
        test-yes same = grind (arith, nat_tests, same)

        test-no : p.before ≢ place → (p.before == place) ≡ false
        test-no off = grind (arith, nat_tests, off)

    stays-linked : (k : ℕ) → count k (common old.slots p) ≤ places_at new.slots k
    stays-linked k =
        let f : Option (Row T) → ℕ = λ r. count k (links_of r) in
        omega (arith, other.has k, ap (λ s. f (row_of_slot s)) (taken.others other.beside other.away), ap f (row_at-slots new.slots other.beside), le-sum_by f None refl (rows_of_slots new.slots) other.beside)

    pub gives-own : IsSharing new.slots qs × GivesUp (counted_too old ps) (counted_too new qs) place links
    gives-own =
        let result : IsSharing new.slots rest × GivesUp (counted_too old ps) (counted_too new rest) place (only (own_in place p) own_row) = (
          sharing-taken sharing-rest off-rest,
          record {
            gone = more-none (common_at new.slots rest) new.slots place taken.gone;
            rows = λ k away. graph-more (common_at new.slots rest) new.slots k ∙ ap row_of_slot (taken.others k away) ∙ sym (graph-more (common_at old.slots ps) old.slots k);
            owners = λ k away.
                omega (
                  arith,
                  owners-taken sharing-rest off-rest k away,
                  owners-all (common_at old.slots ps) old.slots sharing.linked k,
                  split-common k,
                  other.split k,
                  ap (λ r. count k (links_of r)) (graph-more (common_at old.slots ps) old.slots place),
                );
            own = λ k. omega (arith, other.split k, ap (λ r. count k (links_of r)) (graph-more (common_at old.slots ps) old.slots place));
            shared = λ k.
                omega (arith, other.split k, stays-linked k, places-more (common_at new.slots rest) new.slots k, ap (λ r. count k (links_of r)) (graph-more (common_at old.slots ps) old.slots place));
            len = omega (arith, filled-more (common_at new.slots rest) new.slots, filled-more (common_at old.slots ps) old.slots, taken.len);
            spare_cells = rw (graph-more (common_at old.slots ps) old.slots place) taken.spare_cells;
            spare_nodes = rw (graph-more (common_at old.slots ps) old.slots place) taken.spare_nodes;
          },
        ) in
        rw (leaves.left, leaves.own) result

  pub gives : {ps qs : List Pair} {links : List ℕ} → IsSharing old.slots ps → HasNoPair place ps own_row qs links ⊎ LeavesPair place ps own_row qs links → IsSharing new.slots qs × GivesUp (counted_too old ps) (counted_too new qs) place links
  gives {ps} {qs} {links} sharing either = elim either as (λ _. IsSharing new.slots qs × GivesUp (counted_too old ps) (counted_too new qs) place links) [
    | inl none ↦ gives-alone sharing none
    | inr leaves ↦ gives-own sharing leaves
  ]

-- the own link of a row in a pair is one of its links
pub own-inside : {T : Type 0} (slots : List (Option (Slot T))) (place : ℕ) (p : Pair) → IsPair slots p → IsOf place p → IfSome (own_in place p) (λ i. i < length (links_of (graph_of slots place)))
own-inside slots place p is one_of = elim (cases_eq p.before place) as (λ _. IfSome (own_in place p) (λ i. i < length (links_of (graph_of slots place)))) [
  | inl same ↦
      let test : (p.before == place) ≡ true = grind (arith, nat_tests, same) in
      let own : own_in place p ≡ p.out = ap (λ (t : Bool). if t then p.out else p.into) test in
      rw (own) (if-some p.out (λ i at. subst (λ j. i < length (links_of (graph_of slots j))) same (is.out_inside i at)))
  | inr off ↦
      let test : (p.before == place) ≡ false = grind (arith, nat_tests, off) in
      let own : own_in place p ≡ p.into = ap (λ (t : Bool). if t then p.out else p.into) test in
      let after : p.after ≡ place = elim one_of as (λ _. p.after ≡ place) [ inl before ↦ absurd (off (sym before)) | inr is ↦ sym is ] in
      rw (own) (if-some p.into (λ i at. subst (λ j. i < length (links_of (graph_of slots j))) after (is.into_inside i at)))
]
