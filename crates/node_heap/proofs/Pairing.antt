-- What becomes of a table where a row is made of another by one change, and the two are a pair.
use Rattle.std.proofs.Common.{◌≡◌, ◌≢◌, ℕ, zero, suc, ◌+◌, ◌-◌, ◌<◌, ◌≤◌, List, [], ◌∷◌, ◌++◌, length, refl, ap, sym, ◌∙◌, arith, Option, Some, None, IsSome, option_map, inl, inr}
use Rattle.std.specs.Prelude.{insert, remove, IfSome}
use Rattle.std.specs.List.{All}
use Rattle.std.proofs.lemmas.Bool.{cases_eq, cases_lt}
use Rattle.std.proofs.lemmas.List.Edits.{length-insert}
use Rattle.std.proofs.lemmas.List.Sums.{sum_by-append, sum_by-cons}
use Rattle.node_heap.specs.Links.{count, without, with_link, changed_links}
use Rattle.node_heap.specs.Forms.{node, links_of}
use Rattle.node_heap.specs.Layout.{Table, row_of_slot, owners_in, slot_at, graph_of, PutsIn, KeepsRoom}
use Rattle.node_heap.specs.Pairs.{common, common_at, paired, more, counted_too, IsPair, IsSharing, MakesOf}
use Rattle.node_heap.specs.declared.pairs.Pair.{Pair}
use Rattle.node_heap.specs.declared.row.Head.{Head}
use Rattle.node_heap.proofs.Counts.{test_same, test_other}
use Rattle.node_heap.proofs.MoreOwners.{graph-more, more-none, filled-more, owners-all}
use Rattle.node_heap.proofs.PairLemmas.{all-cons, paired-last, paired-live, common-none, pairs-apart, common-apart}
use Rattle.node_heap.proofs.SharedTable.{not-there, put-stay}

remove-inserted : (xs : List ℕ) (i y : ℕ) → i ≤ length xs → remove (insert xs i y) i ≡ xs
remove-inserted [] zero y le = refl
remove-inserted [] (suc i) y le = absurd (omega (arith, le))
remove-inserted (x ∷ xs) zero y le = refl
remove-inserted (x ∷ xs) (suc i) y le = ap (λ (zs : List ℕ). x ∷ zs) (remove-inserted xs i y (omega (arith, le)))

without-came : (into : Option (ℕ × ℕ)) (xs : List ℕ) → ((p : ℕ × ℕ) → into ≡ Some p → p.0 ≤ length xs) → without (option_map (λ (p : ℕ × ℕ). p.0) into) (with_link into xs) ≡ xs
without-came None xs inside = refl
without-came (Some p) xs inside = remove-inserted xs p.0 p.1 (inside p refl)

came-inside : (into : Option (ℕ × ℕ)) (xs : List ℕ) → ((p : ℕ × ℕ) → into ≡ Some p → p.0 ≤ length xs) → (i : ℕ) → option_map (λ (p : ℕ × ℕ). p.0) into ≡ Some i → i < length (with_link into xs)
came-inside None xs inside i is = absurd cc
came-inside (Some p) xs inside i is =
    let le = inside p refl in
    let same : p.0 ≡ i = cc in
    omega (arith, le, same, length-insert xs p.0 p.1 le)

-- there is room for what comes
pub room-for : (out : Option ℕ) (into : Option (ℕ × ℕ)) (xs : List ℕ) → IfSome into (λ p. p.0 ≤ length (without out xs)) → length (changed_links out into xs) ≤ 32 → IfSome into (λ _. length (without out xs) < 32)
room-for out None xs inside short = tt
room-for out (Some p) xs inside short = omega (arith, short, length-insert (without out xs) p.0 p.1 inside)

all-last : {X : Type 0} (P : X → Type 0) (xs : List X) (y : X) → All P xs → P y → All P (xs ++ y ∷ [])
all-last P [] y all is = all-cons P y [] is (λ j d lt. absurd (omega (arith, lt)))
all-last P (x ∷ xs) y all is = all-cons P x (xs ++ y ∷ []) (all 0 x (omega arith)) (all-last P xs y (λ j e b. all (suc j) e (omega (arith, b))) is)

-- the row made stands at a place that was free, beside one that is in no pair
module _ {T : Type 0} {start old : Table T} (new : Table T) (ps : List Pair) {qs : List Pair} (place : ℕ) {made : ℕ} {head : Head} {links : List ℕ} (out : Option ℕ) (into : Option (ℕ × ℕ))
    (alike : (l : ℕ) → slot_at (more (common_at old.slots qs) 0 old.slots) l ≡ slot_at (more (common_at start.slots ps) 0 start.slots) l) (room : KeepsRoom start old)
    (sharing : IsSharing old.slots qs) (puts : PutsIn old.slots new.slots made (node head links)) (spare_cells : new.spare_cells ≡ old.spare_cells) (spare_nodes : new.spare_nodes + 1 ≡ old.spare_nodes)
    (row_is : links ≡ changed_links out into (links_of (graph_of old.slots place)))
    (out_inside : (i : ℕ) → out ≡ Some i → i < length (links_of (graph_of old.slots place))) (into_inside : (p : ℕ × ℕ) → into ≡ Some p → p.0 ≤ length (without out (links_of (graph_of old.slots place))))
    (live : IsSome (slot_at old.slots place)) (linked : (l : ℕ) → 0 < count l (without out (links_of (graph_of old.slots place))) → IsSome (slot_at old.slots l)) (off : count place (paired qs) ≡ 0) where
  abbrev pub made_pair : Pair
  made_pair = record { before = place; after = made; out = out; into = option_map (λ (p : ℕ × ℕ). p.0) into }

  abbrev pub kept_links : List ℕ
  kept_links = without out (links_of (graph_of old.slots place))

  away : place ≢ made
  away = not-there old.slots place made live puts.was

  place-same : graph_of new.slots place ≡ graph_of old.slots place
  place-same = ap row_of_slot (puts.others place away)

  made-links : links_of (graph_of new.slots made) ≡ with_link into kept_links
  made-links = ap (λ s. links_of (row_of_slot s)) puts.now ∙ row_is

  is-pair : IsPair new.slots made_pair
  is-pair = record {
    agree = ap (λ r. without out (links_of r)) place-same ∙ sym (ap (without (option_map (λ (p : ℕ × ℕ). p.0) into)) made-links ∙ without-came into kept_links into_inside);
    out_inside = λ i is. rw place-same (out_inside i is);
    into_inside = λ i is. rw made-links (came-inside into kept_links into_inside i is);
    before_live = rw (puts.others place away) live;
    after_live = rw puts.now refl;
  }

  common-last : (l : ℕ) → common_at new.slots (qs ++ made_pair ∷ []) l ≡ common_at old.slots qs l + count l kept_links
  common-last l =
      omega (
        arith,
        sum_by-append (λ p. count l (common new.slots p)) qs (made_pair ∷ []),
        sum_by-cons (λ p. count l (common new.slots p)) made_pair [],
        ap (λ r. count l (without out (links_of r))) place-same,
        common-apart old.slots new.slots qs (put-stay puts sharing) l,
      )

  pub sharing-paired : IsSharing new.slots (qs ++ made_pair ∷ [])
  sharing-paired = record {
    each = all-last (IsPair new.slots) qs made_pair (pairs-apart old.slots new.slots qs (put-stay puts sharing) sharing.each) is-pair;
    apart = λ k. elim (cases_eq k place) as (λ _. count k (paired (qs ++ made_pair ∷ [])) ≤ 1) [
      | inl same ↦ omega (arith, paired-last k qs made_pair, ap (λ j. count j (paired qs)) same, off, test_same place k (sym same), test_other made k (λ e. away (sym same ∙ sym e)))
      | inr other ↦ elim (cases_eq k made) as (λ _. count k (paired (qs ++ made_pair ∷ [])) ≤ 1) [
        | inl same ↦
            elim (cases_lt 0 (count k (paired qs))) as (λ _. count k (paired (qs ++ made_pair ∷ [])) ≤ 1) [
              | inl some ↦ absurd (not-there old.slots k made (paired-live old.slots qs sharing.each k some) puts.was same)
              | inr none ↦ omega (arith, paired-last k qs made_pair, none, test_other place k (λ e. other (sym e)), test_same made k (sym same))
            ]
        | inr apart ↦ omega (arith, paired-last k qs made_pair, sharing.apart k, test_other place k (λ e. other (sym e)), test_other made k (λ e. apart (sym e)))
      ]
    ];
    linked = λ l some. elim (cases_lt 0 (common_at old.slots qs l)) as (λ _. IsSome (slot_at new.slots l)) [
      | inl was ↦ let there = sharing.linked l was in rw (puts.others l (not-there old.slots l made there puts.was)) there
      | inr none ↦ let there = linked l (omega (arith, some, common-last l, none)) in rw (puts.others l (not-there old.slots l made there puts.was)) there
    ];
  }

  kept-made : count made kept_links ≡ 0
  kept-made = elim (cases_lt 0 (count made kept_links)) as (λ _. count made kept_links ≡ 0) [
    | inl some ↦ absurd (not-there old.slots made made (linked made some) puts.was refl)
    | inr none ↦ omega (arith, none)
  ]

  pub makes-paired : MakesOf (counted_too start ps) (counted_too new (qs ++ made_pair ∷ [])) made (node head (changed_links out into (links_of (graph_of old.slots place)))) kept_links
  makes-paired = record {
    was = sym (alike made) ∙ more-none (common_at old.slots qs) old.slots made puts.was;
    here = graph-more (common_at new.slots (qs ++ made_pair ∷ [])) new.slots made ∙ ap row_of_slot puts.now ∙ ap (λ xs. Some (node head xs)) row_is;
    one = omega (arith, owners-all (common_at new.slots (qs ++ made_pair ∷ [])) new.slots sharing-paired.linked made, ap owners_in puts.now, common-last made, kept-made, common-none old.slots qs sharing made puts.was);
    rows = λ k other. graph-more (common_at new.slots (qs ++ made_pair ∷ [])) new.slots k ∙ ap row_of_slot (puts.others k other) ∙ sym (graph-more (common_at old.slots qs) old.slots k) ∙ ap row_of_slot (alike k);
    owners = λ k other.
        omega (
          arith,
          owners-all (common_at new.slots (qs ++ made_pair ∷ [])) new.slots sharing-paired.linked k,
          ap owners_in (puts.others k other),
          common-last k,
          owners-all (common_at old.slots qs) old.slots sharing.linked k,
          ap owners_in (alike k),
        );
    low = puts.low;
    len = omega (arith, filled-more (common_at new.slots (qs ++ made_pair ∷ [])) new.slots, filled-more (common_at start.slots ps) start.slots, puts.len, room.len);
    spare_cells = spare_cells ∙ room.spare_cells;
    spare_nodes = spare_nodes ∙ room.spare_nodes;
  }
