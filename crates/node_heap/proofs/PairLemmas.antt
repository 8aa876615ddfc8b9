-- Pairs of rows: how often a link is common to both rows of one, and what becomes of pairs where rows change.
use Rattle.std.proofs.Common.{◌≡◌, ◌≢◌, ℕ, zero, suc, ◌+◌, ◌*◌, ◌<◌, ◌≤◌, List, [], ◌∷◌, ◌++◌, length, get_or, set, take, refl, ap, sym, subst, ◌∙◌, arith, Option, Some, None, IsSome, Bool, true, false, cond, eqb, inl, inr}
use Rattle.std.specs.Prelude.{sum_by, remove, IfSome, ◌==◌}
use Rattle.std.specs.List.{All}
use Rattle.std.proofs.lemmas.Bool.{cases_eq, cases_lt}
use Rattle.std.proofs.lemmas.Bool.Decides.{nat_tests}
use Rattle.std.proofs.lemmas.List.{drop_more, get_or-set_other, get_or_read}
use Rattle.std.proofs.lemmas.List.Sums.{sum_by-cons, sum_by-set, sum_by-remove}
use Rattle.node_heap.specs.Links.{count, without}
use Rattle.node_heap.specs.Forms.{Row, links_of}
use Rattle.node_heap.specs.Heap.{one_at}
use Rattle.node_heap.specs.Layout.{Slot, rows_of_slots, slot_at, places_at, graph_of}
use Rattle.node_heap.specs.Pairs.{only, common, common_at, paired, no_pair, IsOf, IsPair, IsSharing}
use Rattle.node_heap.specs.declared.pairs.Pair.{Pair}
use Rattle.node_heap.proofs.Counts.{count-cons, test_same, test_other}
use Rattle.node_heap.proofs.Slots.{row_at-slots}
use Rattle.node_heap.proofs.Stored.{live_slot, live_row}

-- what holds of what is there
pub if-some : {P : ℕ → Type 0} (o : Option ℕ) → ((i : ℕ) → o ≡ Some i → P i) → IfSome o P
if-some None h = tt
if-some (Some i) h = h i refl

pub some-if : {X : Type 0} (P : X → Type 0) (o : Option X) → IfSome o P → (x : X) → o ≡ Some x → P x
some-if P None h x is = absurd cc
some-if P (Some y) h x is = let same : y ≡ x = cc in subst P same h

-- the pair that was found in the list that was seen
pub found-read : (seen items : List Pair) (i place : ℕ) (p : Pair) → seen ≡ items → i < length seen → IsOf place (get_or seen i no_pair) → p ≡ get_or items i p → (i < length items) × (p ≡ get_or items i no_pair) × IsOf place (get_or items i no_pair)
found-read seen items i place p same there found read =
    let inside : i < length items = subst (λ (ps : List Pair). i < length ps) same there in
    (inside, get_or_read items i p inside read no_pair, subst (λ (ps : List Pair). IsOf place (get_or ps i no_pair)) same found)

-- a list with as many elements as it may have has one
pub full-some : (b : Bool) (n : ℕ) → b ≡ (n == 16) → b ≡ true → 0 < n
full-some b n is so = let test : (n == 16) ≡ true = sym is ∙ so in grind (arith, nat_tests, test)

-- of numbers that are tested
pub test-true : (n k : ℕ) → n ≡ k → (n == k) ≡ true
test-true n k is = grind (arith, nat_tests, is)

pub test-false : (n k : ℕ) → n ≢ k → (n == k) ≡ false
test-false n k off = grind (arith, nat_tests, off)

pub same-test : (n k m j : ℕ) → (n ≡ k → m ≡ j) → (m ≡ j → n ≡ k) → (n == k) ≡ (m == j)
same-test n k m j there back = elim (cases_eq n k) as (λ _. (n == k) ≡ (m == j)) [
  | inl is ↦ test-true n k is ∙ sym (test-true m j (there is))
  | inr off ↦ test-false n k off ∙ sym (test-false m j (λ e. off (back e)))
]

pub is-one : (b : Bool) (n : ℕ) → b ≡ (n == 1) → b ≡ true → n ≡ 1
is-one b n is so = let test : (n == 1) ≡ true = sym is ∙ so in grind (arith, nat_tests, test)

pub not-one : (b : Bool) (n : ℕ) → b ≡ (n == 1) → b ≡ false → n ≢ 1
not-one b n is off = let test : (n == 1) ≡ false = sym is ∙ off in grind (arith, nat_tests, test)

-- of a list without one of its links, and of that link
count-remove : (l : ℕ) (xs : List ℕ) (i : ℕ) → count l (remove xs i) ≤ count l xs
count-remove l [] zero = omega arith
count-remove l [] (suc i) = omega arith
count-remove l (x ∷ xs) zero = omega (arith, count-cons l x xs)
count-remove l (x ∷ xs) (suc i) = omega (arith, count-cons l x xs, count-cons l x (remove xs i), count-remove l xs i)

pub count-without : (o : Option ℕ) (xs : List ℕ) (l : ℕ) → count l (without o xs) ≤ count l xs
count-without None xs l = omega arith
count-without (Some i) xs l = count-remove l xs i

-- where the link was read
pub count-removed : (l : ℕ) (xs : List ℕ) (i x own : ℕ) → i < length xs → own ≡ x → x ≡ get_or xs i x → count l (remove xs i) + one_at own l ≡ count l xs
count-removed l xs i x own lt is read =
    let same : one_at own l ≡ cond (eqb (get_or xs i x) l) 1 0 = ap (λ k. one_at k l) (is ∙ read) in
    omega (arith, sum_by-remove (λ k. cond (eqb k l) 1 0) xs i x lt, same)

pub count-own : (o : Option ℕ) (xs : List ℕ) (l : ℕ) → ((i : ℕ) → o ≡ Some i → i < length xs) → count l (without o xs) + count l (only o xs) ≡ count l xs
count-own None xs l inside = omega arith
count-own (Some i) xs l inside =
    let lt = inside i refl in
    let one : only (Some i) xs ≡ get_or xs i 0 ∷ [] = ap (take 1) (drop_more xs i 0 lt) in
    omega (arith, sum_by-remove (λ k. cond (eqb k l) 1 0) xs i 0 lt, ap (count l) one, sum_by-cons (λ k. cond (eqb k l) 1 0) (get_or xs i 0) [])

-- a sum over different places of a list is at most the sum of all
past : {X : Type 0} (d : X) (xs : List X) (k : ℕ) → length xs ≤ k → get_or xs k d ≡ d
past d [] k far = refl
past d (x ∷ xs) zero far = absurd (omega (arith, far))
past d (x ∷ xs) (suc k) far = past d xs k (omega (arith, far))

sum-off : (h h' : ℕ → ℕ) (k : ℕ) (ks : List ℕ) → count k ks ≡ 0 → ((j : ℕ) → j ≢ k → h j ≡ h' j) → sum_by h ks ≡ sum_by h' ks
sum-off h h' k [] off same = refl
sum-off h h' k (j ∷ ks) off same =
    let split = count-cons k j ks in
    let other : j ≢ k = λ e. absurd (omega (arith, split, off, test_same j k e)) in
    omega (arith, sum_by-cons h j ks, sum_by-cons h' j ks, same j other, sum-off h h' k ks (omega (arith, split, off)) same)

sum-apart : {X : Type 0} (g : X → ℕ) (d : X) → g d ≡ 0 → (ks : List ℕ) (xs : List X) → ((k : ℕ) → count k ks ≤ 1) → sum_by (λ k. g (get_or xs k d)) ks ≤ sum_by g xs
sum-apart g d none [] xs once = omega arith
sum-apart {X} g d none (k ∷ ks) xs once =
    let cons = sum_by-cons (λ j. g (get_or xs j d)) k ks in
    let off : count k ks ≡ 0 = omega (arith, once k, count-cons k k ks, test_same k k refl) in
    let fewer : (j : ℕ) → count j ks ≤ 1 = λ j. omega (arith, once j, count-cons j k ks) in
    elim (cases_lt k (length xs)) as (λ _. sum_by (λ j. g (get_or xs j d)) (k ∷ ks) ≤ sum_by g xs) [
      | inl inside ↦
          let xs' : List X = set xs k d in
          let same = sum-off (λ j. g (get_or xs j d)) (λ j. g (get_or xs' j d)) k ks off (λ j other. ap g (sym (get_or-set_other xs k j d d other))) in
          omega (arith, cons, same, none, sum_by-set g xs k d d inside, sum-apart g d none ks xs' fewer)
      | inr far ↦ omega (arith, cons, none, ap g (past d xs k far), sum-apart g d none ks xs fewer)
    ]

pub all-cons : {X : Type 0} (P : X → Type 0) (x : X) (xs : List X) → P x → All P xs → All P (x ∷ xs)
all-cons {X} P x xs first rest = each
  where
    each : (j : ℕ) (d : X) → j < length (x ∷ xs) → P (get_or (x ∷ xs) j d)
    each zero d lt = first
    each (suc j) d lt = rest j d (omega (arith, lt))

all-remove : {X : Type 0} (P : X → Type 0) (xs : List X) (i : ℕ) → All P xs → All P (remove xs i)
all-remove P [] zero all = λ j d lt. absurd (omega (arith, lt))
all-remove P [] (suc i) all = λ j d lt. absurd (omega (arith, lt))
all-remove P (x ∷ xs) zero all = λ j d lt. all (suc j) d (omega (arith, lt))
all-remove P (x ∷ xs) (suc i) all = all-cons P x (remove xs i) (all 0 x (omega arith)) (all-remove P xs i (λ k e b. all (suc k) e (omega (arith, b))))

-- the rows of a pair
pub count-paired : (k : ℕ) (p : Pair) (ps : List Pair) → count k (paired (p ∷ ps)) ≡ (one_at k p.before + one_at k p.after) + count k (paired ps)
count-paired k p ps = omega (arith, count-cons k p.before (p.after ∷ paired ps), count-cons k p.after (paired ps))

pub paired-last : (k : ℕ) (ps : List Pair) (p : Pair) → count k (paired (ps ++ p ∷ [])) ≡ count k (paired ps) + (one_at k p.before + one_at k p.after)
paired-last k [] p = omega (arith, count-paired k p [])
paired-last k (q ∷ ps) p = omega (arith, count-paired k q ps, count-paired k q (ps ++ p ∷ []), paired-last k ps p)

pub paired-removed : (k : ℕ) (ps : List Pair) (i : ℕ) (d : Pair) → i < length ps → count k (paired (remove ps i)) + (one_at k (get_or ps i d).before + one_at k (get_or ps i d).after) ≡ count k (paired ps)
paired-removed k [] i d lt = absurd (omega (arith, lt))
paired-removed k (p ∷ ps) zero d lt = omega (arith, count-paired k p ps)
paired-removed k (p ∷ ps) (suc i) d lt = omega (arith, count-paired k p ps, count-paired k p (remove ps i), paired-removed k ps i d (omega (arith, lt)))

-- fewer pairs have fewer rows
pub fewer-paired : (ps : List Pair) (i k : ℕ) → i < length ps → count k (paired ps) ≡ 0 → count k (paired (remove ps i)) ≡ 0
fewer-paired ps i k inside none = omega (arith, none, paired-removed k ps i no_pair inside)

module _ {T : Type 0} where
  module _ (slots : List (Option (Slot T))) (l : ℕ) where
    abbrev in-row : Option (Row T) → ℕ
    in-row r = count l (links_of r)

    abbrev at-place : ℕ → ℕ
    at-place k = in-row (get_or (rows_of_slots slots) k None)

    in-both : (ps : List Pair) → All (IsPair slots) ps → 2 * common_at slots ps l ≤ sum_by at-place (paired ps)
    in-both [] all = omega arith
    in-both (p ∷ ps) all =
        let is = all 0 p (omega arith) in
        omega (
          arith,
          sum_by-cons (λ (q : Pair). count l (common slots q)) p ps,
          sum_by-cons at-place p.before (p.after ∷ paired ps),
          sum_by-cons at-place p.after (paired ps),
          count-without p.out (links_of (graph_of slots p.before)) l,
          count-without p.into (links_of (graph_of slots p.after)) l,
          ap (count l) is.agree,
          ap in-row (row_at-slots slots p.before),
          ap in-row (row_at-slots slots p.after),
          in-both ps (λ i d b. all (suc i) d (omega (arith, b))),
        )

  -- the links that are common to a pair stand in both of its rows, and no row is in two pairs
  pub twice : (slots : List (Option (Slot T))) (pairs : List Pair) → IsSharing slots pairs → (l : ℕ) → 2 * common_at slots pairs l ≤ places_at slots l
  twice slots pairs sharing l = omega (arith, in-both slots l pairs sharing.each, sum-apart (in-row slots l) None refl (paired pairs) (rows_of_slots slots) sharing.apart)

  -- and beside them in a row of no pair
  pub twice-beside : (slots : List (Option (Slot T))) (pairs : List Pair) → IsSharing slots pairs → (place : ℕ) → count place (paired pairs) ≡ 0 → (l : ℕ) → count l (links_of (graph_of slots place)) + 2 * common_at slots pairs l ≤ places_at slots l
  twice-beside slots pairs sharing place off l =
      omega (arith, in-both slots l pairs sharing.each, sum_by-cons (at-place slots l) place (paired pairs), ap (in-row slots l) (row_at-slots slots place), sum-apart (in-row slots l) None refl (place ∷ paired pairs) (rows_of_slots slots) apart)
    where
      apart : (k : ℕ) → count k (place ∷ paired pairs) ≤ 1
      apart k = elim (cases_eq k place) as (λ _. count k (place ∷ paired pairs) ≤ 1) [
        | inl same ↦ omega (arith, count-cons k place (paired pairs), test_same place k (sym same), ap (λ j. count j (paired pairs)) same, off)
        | inr other ↦ omega (arith, count-cons k place (paired pairs), test_other place k (λ e. other (sym e)), sharing.apart k)
      ]

  -- where the links of the rows of pairs stay
  module _ (old new : List (Option (Slot T))) where
    -- the rows of these pairs have the same links
    abbrev pub Stay : List Pair → Type 0
    Stay ps = (k : ℕ) → 0 < count k (paired ps) → (links_of (graph_of new k) ≡ links_of (graph_of old k)) × (IsSome (slot_at old k) → IsSome (slot_at new k))

    first-stays : (p : Pair) (ps : List Pair) → Stay (p ∷ ps) → (links_of (graph_of new p.before) ≡ links_of (graph_of old p.before)) × (IsSome (slot_at old p.before) → IsSome (slot_at new p.before))
    first-stays p ps stay = stay p.before (omega (arith, count-paired p.before p ps, test_same p.before p.before refl))

    second-stays : (p : Pair) (ps : List Pair) → Stay (p ∷ ps) → (links_of (graph_of new p.after) ≡ links_of (graph_of old p.after)) × (IsSome (slot_at old p.after) → IsSome (slot_at new p.after))
    second-stays p ps stay = stay p.after (omega (arith, count-paired p.after p ps, test_same p.after p.after refl))

    rest-stays : (p : Pair) (ps : List Pair) → Stay (p ∷ ps) → Stay ps
    rest-stays p ps stay k some = stay k (omega (arith, count-paired k p ps, some))

    pub common-apart : (ps : List Pair) → Stay ps → (l : ℕ) → common_at new ps l ≡ common_at old ps l
    common-apart [] stay l = refl
    common-apart (p ∷ ps) stay l =
        omega (
          arith,
          sum_by-cons (λ (q : Pair). count l (common new q)) p ps,
          sum_by-cons (λ (q : Pair). count l (common old q)) p ps,
          ap (λ xs. count l (without p.out xs)) (first-stays p ps stay).0,
          common-apart ps (rest-stays p ps stay) l,
        )

    pair-apart : (p : Pair) (ps : List Pair) → Stay (p ∷ ps) → IsPair old p → IsPair new p
    pair-apart p ps stay is =
        let one = first-stays p ps stay in
        let two = second-stays p ps stay in
        record {
          agree = rw (one.0, two.0) is.agree;
          out_inside = λ i at. rw one.0 (is.out_inside i at);
          into_inside = λ i at. rw two.0 (is.into_inside i at);
          before_live = one.1 is.before_live;
          after_live = two.1 is.after_live;
        }

    pub pairs-apart : (ps : List Pair) → Stay ps → All (IsPair old) ps → All (IsPair new) ps
    pairs-apart [] stay all = λ i d lt. absurd (omega (arith, lt))
    pairs-apart (p ∷ ps) stay all = all-cons (IsPair new) p ps (pair-apart p ps stay (all 0 p (omega arith))) (pairs-apart ps (rest-stays p ps stay) (λ j e b. all (suc j) e (omega (arith, b))))

    -- and what is linked stays too
    pub sharing-apart : (ps : List Pair) → Stay ps → ((l : ℕ) → 0 < common_at old ps l → IsSome (slot_at old l) → IsSome (slot_at new l)) → IsSharing old ps → IsSharing new ps
    sharing-apart ps stay stays sharing = record {
      each = pairs-apart ps stay sharing.each;
      apart = sharing.apart;
      linked = λ l some. let was : 0 < common_at old ps l = omega (arith, some, common-apart ps stay l) in stays l was (sharing.linked l was);
    }

    -- all rows stay
    pub graph-rows : rows_of_slots new ≡ rows_of_slots old → (l : ℕ) → graph_of new l ≡ graph_of old l
    graph-rows rows l = sym (row_at-slots new l) ∙ ap (λ xs. get_or xs l None) rows ∙ row_at-slots old l

    pub live-rows : rows_of_slots new ≡ rows_of_slots old → (l : ℕ) → IsSome (slot_at old l) → IsSome (slot_at new l)
    live-rows rows l live = live_slot _ (rw (graph-rows rows l) (live_row _ live))

    pub all-stay : rows_of_slots new ≡ rows_of_slots old → (ps : List Pair) → Stay ps
    all-stay rows ps k some = (ap links_of (graph-rows rows k), live-rows rows k)

    pub common-rows : (ps : List Pair) → rows_of_slots new ≡ rows_of_slots old → (l : ℕ) → common_at new ps l ≡ common_at old ps l
    common-rows ps rows l = common-apart ps (all-stay rows ps) l

    pub sharing-rows : (ps : List Pair) → rows_of_slots new ≡ rows_of_slots old → IsSharing old ps → IsSharing new ps
    sharing-rows ps rows sharing = sharing-apart ps (all-stay rows ps) (λ l some live. live-rows rows l live) sharing

  -- where a pair goes
  module _ (slots : List (Option (Slot T))) (ps : List Pair) (i : ℕ) (d : Pair) (inside : i < length ps) where
    pub common-removed : (l : ℕ) → common_at slots (remove ps i) l + count l (common slots (get_or ps i d)) ≡ common_at slots ps l
    common-removed l = sum_by-remove (λ (q : Pair). count l (common slots q)) ps i d inside

    pub sharing-removed : IsSharing slots ps → IsSharing slots (remove ps i)
    sharing-removed sharing = record {
      each = all-remove (IsPair slots) ps i sharing.each;
      apart = λ k. omega (arith, sharing.apart k, paired-removed k ps i d inside);
      linked = λ l some. sharing.linked l (omega (arith, some, common-removed l));
    }

    -- the rows of the pair are in none then
    pub off-removed : IsSharing slots ps → (count (get_or ps i d).before (paired (remove ps i)) ≡ 0) × (count (get_or ps i d).after (paired (remove ps i)) ≡ 0)
    off-removed sharing =
        let p : Pair = get_or ps i d in (
          omega (arith, sharing.apart p.before, paired-removed p.before ps i d inside, test_same p.before p.before refl),
          omega (arith, sharing.apart p.after, paired-removed p.after ps i d inside, test_same p.after p.after refl),
        )

  -- a row of the pair is in none then
  pub off-of : (slots : List (Option (Slot T))) (ps : List Pair) (i place : ℕ) → i < length ps → IsSharing slots ps → IsOf place (get_or ps i no_pair) → count place (paired (remove ps i)) ≡ 0
  off-of slots ps i place inside sharing one_of =
      let offs = off-removed slots ps i no_pair inside sharing in
      elim one_of as (λ _. count place (paired (remove ps i)) ≡ 0) [ inl before ↦ ap (λ j. count j (paired (remove ps i))) before ∙ offs.0 | inr after ↦ ap (λ j. count j (paired (remove ps i))) after ∙ offs.1 ]

  -- the rows of pairs are there
  pub paired-live : (slots : List (Option (Slot T))) (ps : List Pair) → All (IsPair slots) ps → (k : ℕ) → 0 < count k (paired ps) → IsSome (slot_at slots k)
  paired-live slots [] all k some = absurd (omega (arith, some))
  paired-live slots (p ∷ ps) all k some = elim (cases_eq k p.before) as (λ _. IsSome (slot_at slots k)) [
    | inl same ↦ subst (λ j. IsSome (slot_at slots j)) (sym same) (all 0 p (omega arith)).before_live
    | inr other ↦ elim (cases_eq k p.after) as (λ _. IsSome (slot_at slots k)) [
      | inl same ↦ subst (λ j. IsSome (slot_at slots j)) (sym same) (all 0 p (omega arith)).after_live
      | inr apart ↦
          paired-live slots ps (λ i d b. all (suc i) d (omega (arith, b))) k
          (omega (arith, count-paired k p ps, some, at-other k p.before other, at-other k p.after apart))
    ]
  ]
    where
      at-other : (k j : ℕ) → k ≢ j → one_at k j ≡ 0
      at-other k j other = test_other j k (λ e. other (sym e))

  -- there are no pairs
  pub sharing-none : (slots : List (Option (Slot T))) → IsSharing slots []
  sharing-none slots = record { each = λ i d lt. absurd (omega (arith, lt)); apart = λ k. omega arith; linked = λ l some. absurd (omega (arith, some)) }

  -- what isn't there isn't common
  pub common-none : (slots : List (Option (Slot T))) (ps : List Pair) → IsSharing slots ps → (l : ℕ) → slot_at slots l ≡ None → common_at slots ps l ≡ 0
  common-none slots ps sharing l none = by (common_at slots ps l) refl
    where
      by : (n : ℕ) → common_at slots ps l ≡ n → common_at slots ps l ≡ 0
      by zero e = e
      by (suc n) e = absurd (let live : IsSome (slot_at slots l) = sharing.linked l (omega (arith, e)) in let gone : IsSome {T = Slot T} None = subst IsSome none live in cc)
