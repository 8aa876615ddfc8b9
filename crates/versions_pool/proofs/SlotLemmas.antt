-- Roots by their numbers, in slots and in lists.
use Rattle.std.proofs.Common.{◌≡◌, ◌≢◌, ℕ, zero, suc, ◌+◌, ◌<◌, ◌≤◌, Bool, true, false, ◌&&◌, cond, List, [], ◌∷◌, length, map, drop, get_or, Option, Some, None, refl, ap, sym, subst, ◌∙◌, arith, inl, inr}
use Rattle.std.specs.Prelude.{option_map, nat_lt, is_some, sum_by, count_by, IsSome}
use Rattle.std.specs.List.{All, zip}
use Rattle.std.specs.Ordering.{nat_cmp, eq_by_cmp}
use Rattle.std.specs.Cmp.{nat_cmp_total}
use Rattle.std.specs.FinMap.{find, from_entries, get-from_entries, same_map, nat_cmp-IsAntisymmetric}
use Rattle.std.proofs.lemmas.Bool.{cases_eq, both_ways, ltb-true}
use Rattle.std.proofs.lemmas.Bool.Decides.{nat_tests}
use Rattle.std.proofs.lemmas.List.{drop_more, drop_all, length-map}
use Rattle.std.proofs.lemmas.List.Sums.{sum_by-cons}
use Rattle.std.proofs.lemmas.List.Elements.{All-nil, All-cons, All-head, All-tail, All-weaker}
use Rattle.node_heap.specs.Links.{count}
use Rattle.node_heap.specs.Heap.{Heap, one_at}
use Rattle.node_heap.proofs.Counts.{count-cons}
use Rattle.slab.specs.Slab.{entries_from}
use Rattle.versions.specs.Roots.{root_at, values_in}
use Rattle.versions.proofs.RootLemmas.{tied-same, tied-other, listed-at}
use Rattle.versions_pool.specs.Saved.{rise, rise_after}
use Rattle.versions_pool.specs.Slots.{AreNamed, IsAt}
use Rattle.versions_pool.specs.Loading.{names_in, roots_in}

and-left : (a b : Bool) → (a && b) ≡ true → a ≡ true
and-left true b h = refl
and-left false b h = absurd (both_ways false refl h)

and-right : (a b : Bool) → (a && b) ≡ true → b ≡ true
and-right true b h = h
and-right false b h = absurd (both_ways false refl h)

-- ## Values by names

pub find-first : {V : Type 0} (q n : ℕ) (x : V) (es : List (ℕ × V)) → q ≡ n → find nat_cmp q ((n, x) ∷ es) ≡ Some x
find-first q n x es is = ap (λ b. cond b (Some x) (find nat_cmp q es)) (ap (λ y. eq_by_cmp nat_cmp y n) is ∙ tied-same n)

pub find-later : {V : Type 0} (q n : ℕ) (x : V) (es : List (ℕ × V)) → q ≢ n → find nat_cmp q ((n, x) ∷ es) ≡ find nat_cmp q es
find-later q n x es other = ap (λ b. cond b (Some x) (find nat_cmp q es)) (tied-other q n other)

module _ {V : Type 0} (f : ℕ → V) where
  find-mapped : (names roots : List ℕ) (q : ℕ) → find nat_cmp q (zip names (map f roots)) ≡ option_map f (find nat_cmp q (zip names roots))
  find-mapped [] roots q = refl
  find-mapped (n ∷ names) [] q = refl
  find-mapped (n ∷ names) (l ∷ roots) q = elim (cases_eq q n) as (λ _. find nat_cmp q (zip (n ∷ names) (map f (l ∷ roots))) ≡ option_map f (find nat_cmp q (zip (n ∷ names) (l ∷ roots)))) [
    | inl same ↦ find-first q n (f l) (zip names (map f roots)) same ∙ ap (option_map f) (sym (find-first q n l (zip names roots) same))
    | inr other ↦ find-later q n (f l) (zip names (map f roots)) other ∙ find-mapped names roots q ∙ ap (option_map f) (sym (find-later q n l (zip names roots) other))
  ]

-- the values of slots are those of the roots by their names
pub named-values : {T V : Type 0} (read : Heap T → ℕ → V) (h : Heap T) (names roots : List ℕ) (slots : List (Option ℕ)) → AreNamed names roots slots → values_in read h slots ≡ from_entries (zip names (map (read h) roots))
named-values read h names roots slots named = same_map nat_cmp_total nat_cmp-IsAntisymmetric (values_in read h slots) (from_entries (zip names (map (read h) roots))) (λ q.
    listed-at read h slots q ∙ ap (option_map (read h)) (named q) ∙ sym (find-mapped (read h) names roots q) ∙ sym (get-from_entries nat_cmp_total (zip names (map (read h) roots)) q))

-- ## The entries of slots

zip-back : (es : List (ℕ × ℕ)) → zip (map (λ (e : ℕ × ℕ). e.0) es) (map (λ (e : ℕ × ℕ). e.1) es) ≡ es
zip-back [] = refl
zip-back (e ∷ es) = ap (λ (ds : List (ℕ × ℕ)). e ∷ ds) (zip-back es)

find-low : (slots : List (Option ℕ)) (k q : ℕ) → q < k → find nat_cmp q (entries_from k slots) ≡ None
find-low [] k q low = refl
find-low (None ∷ slots) k q low = find-low slots (k + 1) q (omega (arith, low))
find-low (Some l ∷ slots) k q low = find-later q k l (entries_from (k + 1) slots) (λ e. absurd (omega (arith, low, e))) ∙ find-low slots (k + 1) q (omega (arith, low))

find-at : (slots : List (Option ℕ)) (k i q : ℕ) → q ≡ k + i → find nat_cmp q (entries_from k slots) ≡ get_or slots i None
find-at [] k i q is = refl
find-at (None ∷ slots) k zero q is = find-low slots (k + 1) q (omega (arith, is))
find-at (None ∷ slots) k (suc i) q is = find-at slots (k + 1) i q (omega (arith, is))
find-at (Some l ∷ slots) k zero q is = find-first q k l (entries_from (k + 1) slots) (omega (arith, is))
find-at (Some l ∷ slots) k (suc i) q is = find-later q k l (entries_from (k + 1) slots) (λ e. absurd (omega (arith, e, is))) ∙ find-at slots (k + 1) i q (omega (arith, is))

pub entries-named : (slots : List (Option ℕ)) → AreNamed (names_in slots) (roots_in slots) slots
entries-named slots v = sym (find-at slots 0 v v (omega arith)) ∙ ap (find nat_cmp v) (sym (zip-back (entries_from 0 slots)))

less-is : (a b : ℕ) → a < b → nat_lt a b ≡ true
less-is a b low = grind (arith, nat_tests)

rise-behind : (slots : List (Option ℕ)) (n k : ℕ) → n < k → rise_after n (map (λ (e : ℕ × ℕ). e.0) (entries_from k slots)) ≡ true
rise-behind [] n k low = refl
rise-behind (None ∷ slots) n k low = rise-behind slots n (k + 1) (omega (arith, low))
rise-behind (Some l ∷ slots) n k low = ap (λ b. b && rise_after k (map (λ (e : ℕ × ℕ). e.0) (entries_from (k + 1) slots))) (less-is n k low) ∙ rise-behind slots k (k + 1) (omega arith)

rise-from : (slots : List (Option ℕ)) (k : ℕ) → rise (map (λ (e : ℕ × ℕ). e.0) (entries_from k slots)) ≡ true
rise-from [] k = refl
rise-from (None ∷ slots) k = rise-from slots (k + 1)
rise-from (Some l ∷ slots) k = rise-behind slots k (k + 1) (omega arith)

pub entries-rise : (slots : List (Option ℕ)) → rise (names_in slots) ≡ true
entries-rise slots = rise-from slots 0

pub entries-many : (slots : List (Option ℕ)) → length (names_in slots) ≡ length (roots_in slots)
entries-many slots = length-map (entries_from 0 slots) (λ (e : ℕ × ℕ). e.0) ∙ sym (length-map (entries_from 0 slots) (λ (e : ℕ × ℕ). e.1))

count-from : (slots : List (Option ℕ)) (k : ℕ) → length (entries_from k slots) ≡ count_by is_some slots
count-from [] k = refl
count-from (None ∷ slots) k = omega (arith, count-from slots (k + 1), sum_by-cons (λ (o : Option ℕ). cond (is_some o) 1 0) None slots)
count-from (Some l ∷ slots) k = omega (arith, count-from slots (k + 1), sum_by-cons (λ (o : Option ℕ). cond (is_some o) 1 0) (Some l) slots)

pub entries-count : (slots : List (Option ℕ)) → length (names_in slots) ≡ count_by is_some slots
entries-count slots = length-map (entries_from 0 slots) (λ (e : ℕ × ℕ). e.0) ∙ count-from slots 0

-- ## Sums over named slots

rise-rest : (n : ℕ) (ns : List ℕ) → rise_after n ns ≡ true → rise ns ≡ true
rise-rest n [] h = refl
rise-rest n (m ∷ ns) h = and-right (nat_lt n m) (rise_after m ns) h

-- what is named is greater than what is before it
find-before : (q n : ℕ) (ns ls : List ℕ) → q ≤ n → rise_after n ns ≡ true → find nat_cmp q (zip ns ls) ≡ None
find-before q n [] ls low h = refl
find-before q n (m ∷ ns) [] low h = refl
find-before q n (m ∷ ns) (l ∷ ls) low h =
    let more : n < m = ltb-true n m (and-left (nat_lt n m) (rise_after m ns) h) in
    find-later q m l (zip ns ls) (λ e. absurd (omega (arith, low, more, e))) ∙ find-before q m ns ls (omega (arith, low, more)) (and-right (nat_lt n m) (rise_after m ns) h)

-- the slots without what stands at a number
cleared : List (Option ℕ) → ℕ → List (Option ℕ)
cleared [] n = []
cleared (x ∷ xs) zero = None ∷ xs
cleared (x ∷ xs) (suc n) = x ∷ cleared xs n

cleared-here : (xs : List (Option ℕ)) (n : ℕ) → get_or (cleared xs n) n None ≡ None
unfolding cleared
cleared-here [] n = refl
cleared-here (x ∷ xs) zero = refl
cleared-here (x ∷ xs) (suc n) = cleared-here xs n

cleared-other : (xs : List (Option ℕ)) (n i : ℕ) → i ≢ n → get_or (cleared xs n) i None ≡ get_or xs i None
unfolding cleared
cleared-other [] n i other = refl
cleared-other (x ∷ xs) zero zero other = absurd (other refl)
cleared-other (x ∷ xs) zero (suc i) other = refl
cleared-other (x ∷ xs) (suc n) zero other = refl
cleared-other (x ∷ xs) (suc n) (suc i) other = cleared-other xs n i (λ e. other (ap suc e))

module _ (w : Option ℕ → ℕ) (empty : w None ≡ 0) where
  sum-none : (xs : List (Option ℕ)) → ((i : ℕ) → get_or xs i None ≡ None) → sum_by w xs ≡ 0
  sum-none [] none = refl
  sum-none (x ∷ xs) none = sum_by-cons w x xs ∙ omega (arith, ap w (none 0), empty, sum-none xs (λ i. none (suc i)))

  cleared-sum : (xs : List (Option ℕ)) (n l : ℕ) → get_or xs n None ≡ Some l → sum_by w xs ≡ sum_by w (cleared xs n) + w (Some l)
  unfolding cleared
  cleared-sum [] n l is = absurd (let e : None ≡ Some l = is in cc)
  cleared-sum (x ∷ xs) zero l is = omega (arith, sum_by-cons w x xs, sum_by-cons w None xs, ap w is, empty)
  cleared-sum (x ∷ xs) (suc n) l is = omega (arith, sum_by-cons w x xs, sum_by-cons w x (cleared xs n), cleared-sum xs n l is)

  pub sum-named : (names roots : List ℕ) (slots : List (Option ℕ)) → rise names ≡ true → length names ≡ length roots → AreNamed names roots slots → sum_by w slots ≡ sum_by (λ l. w (Some l)) roots
  sum-named [] [] slots h many named = sum-none slots named
  sum-named [] (l ∷ roots) slots h many named = absurd (omega (arith, many))
  sum-named (n ∷ names) [] slots h many named = absurd (omega (arith, many))
  sum-named (n ∷ names) (l ∷ roots) slots h many named =
      let without : AreNamed names roots (cleared slots n) = (λ v. elim (cases_eq v n) as (λ _. get_or (cleared slots n) v None ≡ find nat_cmp v (zip names roots)) [
        | inl same ↦ ap (λ i. get_or (cleared slots n) i None) same ∙ cleared-here slots n ∙ sym (find-before v n names roots (omega (arith, same)) h)
        | inr other ↦ cleared-other slots n v other ∙ named v ∙ find-later v n l (zip names roots) other
      ]) in
      omega (
        arith,
        cleared-sum slots n l (named n ∙ find-first n n l (zip names roots) refl),
        sum-named names roots (cleared slots n) (rise-rest n names h) (omega (arith, many)) without,
        sum_by-cons (λ k. w (Some k)) l roots,
      )

module _ (names roots : List ℕ) (slots : List (Option ℕ)) (rises : rise names ≡ true) (many : length names ≡ length roots) (named : AreNamed names roots slots) where
  count-is : (k : ℕ) (ls : List ℕ) → sum_by (λ l. one_at l k) ls ≡ count k ls
  count-is k [] = refl
  count-is k (l ∷ ls) = omega (arith, sum_by-cons (λ j. one_at j k) l ls, count-cons k l ls, count-is k ls)

  ones-are : (ls : List ℕ) → sum_by (λ (l : ℕ). 1) ls ≡ length ls
  ones-are [] = refl
  ones-are (l ∷ ls) = omega (arith, sum_by-cons (λ (j : ℕ). 1) l ls, ones-are ls)

  -- each root is held in the slots as often as it is named
  pub named-holds : (k : ℕ) → sum_by (root_at k) slots ≡ count k roots
  named-holds k = sum-named (root_at k) refl names roots slots rises many named ∙ count-is k roots

  pub named-count : count_by is_some slots ≡ length roots
  named-count = sum-named (λ (o : Option ℕ). cond (is_some o) 1 0) refl names roots slots rises many named ∙ ones-are roots

-- ## What is named from a number on

pub at-start : (names roots : List ℕ) → rise names ≡ true → IsAt names roots 0 0
at-start names roots h = record { inside = omega arith; from = λ i d low. omega arith; rise = h; later = λ v high. refl }

all-later : (q n : ℕ) (ns : List ℕ) → q ≤ n → rise_after n ns ≡ true → All (λ m. q < m) ns
all-later q n [] low h = All-nil (λ m. q < m)
all-later q n (m ∷ ns) low h =
    let more : n < m = ltb-true n m (and-left (nat_lt n m) (rise_after m ns) h) in
    All-cons (λ m. q < m) m ns (omega (arith, low, more)) (all-later q m ns (omega (arith, low, more)) (and-right (nat_lt n m) (rise_after m ns) h))

module _ (names roots : List ℕ) (number next : ℕ) (many : length names ≡ length roots) (at : IsAt names roots number next) where
  -- nothing is left
  pub at-end : length names ≤ next → find nat_cmp number (zip names roots) ≡ None
  at-end past = at.later number (omega arith) ∙ ap (λ ns. find nat_cmp number (zip ns (drop next roots))) (drop_all next names past)

  pub at-end-next : length names ≤ next → IsAt names roots (number + 1) next
  at-end-next past = record {
    inside = at.inside;
    from = subst (All (λ n. number + 1 ≤ n)) (sym (drop_all next names past)) (All-nil (λ n. number + 1 ≤ n));
    rise = at.rise;
    later = λ v high. at.later v (omega (arith, high));
  }

  module _ (low : next < length names) where
    abbrev n : ℕ
    n = get_or names next 0

    abbrev l : ℕ
    l = get_or roots next 0

    names-are : drop next names ≡ n ∷ drop (next + 1) names
    names-are = drop_more names next 0 low

    roots-are : drop next roots ≡ l ∷ drop (next + 1) roots
    roots-are = drop_more roots next 0 (omega (arith, low, many))

    behind : rise_after n (drop (next + 1) names) ≡ true
    behind = ap rise (sym names-are) ∙ at.rise

    no-less : number ≤ n
    no-less = All-head (λ m. number ≤ m) n (drop (next + 1) names) (subst (All (λ m. number ≤ m)) names-are at.from)

    found-here : (v : ℕ) → number ≤ v → find nat_cmp v (zip names roots) ≡ find nat_cmp v ((n, l) ∷ zip (drop (next + 1) names) (drop (next + 1) roots))
    found-here v high = at.later v high ∙ ap (λ ns. find nat_cmp v (zip ns (drop next roots))) names-are ∙ ap (λ ls. find nat_cmp v (zip (n ∷ drop (next + 1) names) ls)) roots-are

    -- the next that is named is another
    pub at-other : n ≢ number → find nat_cmp number (zip names roots) ≡ None
    at-other other =
        found-here number (omega arith) ∙ find-later number n l (zip (drop (next + 1) names) (drop (next + 1) roots)) (λ e. other (sym e))
        ∙ find-before number n (drop (next + 1) names) (drop (next + 1) roots) no-less behind

    pub at-other-next : n ≢ number → IsAt names roots (number + 1) next
    at-other-next other = record {
      inside = at.inside;
      from = subst (All (λ m. number + 1 ≤ m)) (sym names-are) (All-cons (λ m. number + 1 ≤ m) n (drop (next + 1) names) (omega (arith, no-less, other)) (All-weaker (λ m. number < m) (λ m. number + 1 ≤ m) (λ m more. omega (arith, more)) (drop (next + 1) names) (all-later number n (drop (next + 1) names) no-less behind)));
      rise = at.rise;
      later = λ v high. at.later v (omega (arith, high));
    }

    -- and where it is this one
    pub at-same : n ≡ number → find nat_cmp number (zip names roots) ≡ Some l
    at-same same = found-here number (omega arith) ∙ find-first number n l (zip (drop (next + 1) names) (drop (next + 1) roots)) (sym same)

    pub at-same-next : n ≡ number → IsAt names roots (number + 1) (next + 1)
    at-same-next same = record {
      inside = omega (arith, low);
      from = All-weaker (λ m. number < m) (λ m. number + 1 ≤ m) (λ m more. omega (arith, more)) (drop (next + 1) names) (all-later number n (drop (next + 1) names) no-less behind);
      rise = rise-rest n (drop (next + 1) names) behind;
      later = λ v high. found-here v (omega (arith, high)) ∙ find-later v n l (zip (drop (next + 1) names) (drop (next + 1) roots)) (λ e. absurd (omega (arith, high, e, same)));
    }

-- ## Full slots

count-few : (xs : List (Option ℕ)) (n : ℕ) → ((v : ℕ) → n ≤ v → get_or xs v None ≡ None) → count_by is_some xs ≤ n
count-few [] n none = omega arith
count-few (None ∷ xs) zero none = omega (arith, sum_by-cons (λ (o : Option ℕ). cond (is_some o) 1 0) None xs, count-few xs zero (λ v high. none (suc v) (omega arith)))
count-few (Some l ∷ xs) zero none = absurd (let e : Some l ≡ None = none 0 (omega arith) in cc)
count-few (x ∷ xs) (suc n) none = omega (arith, sum_by-cons (λ (o : Option ℕ). cond (is_some o) 1 0) x xs, one x, count-few xs n (λ v high. none (suc v) (omega (arith, high))))
  where
    one : (o : Option ℕ) → cond (is_some o) 1 0 ≤ 1
    one None = omega arith
    one (Some l) = omega arith

-- as many as fit are all
pub all-full : (xs : List (Option ℕ)) (n : ℕ) → n ≤ count_by is_some xs → ((v : ℕ) → n ≤ v → get_or xs v None ≡ None) → (v : ℕ) → v < n → IsSome (get_or xs v None)
all-full [] n many none v low = absurd (omega (arith, many, low))
all-full (x ∷ xs) zero many none v low = absurd (omega (arith, low))
all-full (None ∷ xs) (suc n) many none v low =
    absurd (omega (arith, many, sum_by-cons (λ (o : Option ℕ). cond (is_some o) 1 0) None xs, count-few xs n (λ i high. none (suc i) (omega (arith, high)))))
all-full (Some l ∷ xs) (suc n) many none zero low = refl
all-full (Some l ∷ xs) (suc n) many none (suc v) low =
    all-full xs n (omega (arith, many, sum_by-cons (λ (o : Option ℕ). cond (is_some o) 1 0) (Some l) xs)) (λ i high. none (suc i) (omega (arith, high))) v (omega (arith, low))

-- ## The last name

rise-below : (n : ℕ) (ns : List ℕ) → rise_after n ns ≡ true → n ≤ get_or (n ∷ ns) (length ns) 0
rise-below n [] h = omega arith
rise-below n (m ∷ ns) h =
    let more : n < m = ltb-true n m (and-left (nat_lt n m) (rise_after m ns) h) in
    omega (arith, more, rise-below m ns (and-right (nat_lt n m) (rise_after m ns) h))

-- no name is greater than the last
pub rise-all : (n : ℕ) (ns : List ℕ) → rise_after n ns ≡ true → All (λ k. k ≤ get_or (n ∷ ns) (length ns) 0) (n ∷ ns)
rise-all n [] h = All-cons (λ k. k ≤ n) n [] (omega arith) (All-nil (λ k. k ≤ n))
rise-all n (m ∷ ns) h =
    All-cons (λ k. k ≤ get_or (m ∷ ns) (length ns) 0) n (m ∷ ns) (rise-below n (m ∷ ns) h) (rise-all m ns (and-right (nat_lt n m) (rise_after m ns) h))

-- what is past all names isn't named
pub find-past : (names roots : List ℕ) (bound v : ℕ) → All (λ n. n < bound) names → bound ≤ v → find nat_cmp v (zip names roots) ≡ None
find-past [] roots bound v all high = refl
find-past (n ∷ names) [] bound v all high = refl
find-past (n ∷ names) (l ∷ roots) bound v all high =
    let low : n < bound = All-head (λ k. k < bound) n names all in
    find-later v n l (zip names roots) (λ e. absurd (omega (arith, low, high, e))) ∙ find-past names roots bound v (All-tail (λ k. k < bound) n names all) high
