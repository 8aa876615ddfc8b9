-- What stands in listings, and that they are in order.
use Rattle.std.proofs.Common.{T, ◌≡◌, ℕ, zero, suc, ◌<◌, ◌≤◌, Bool, true, false, cond, ◌&&◌, ◌||◌, List, [], ◌∷◌, Option, Some, None, option_map, is_some, map, length, get_or, refl, ap, sym, subst, ◌∙◌, arith, IsPermutation}
use Rattle.std.specs.List.{All, AllZip, IsDistinct, AllByRecursion}
use Rattle.std.specs.List.Sorted.{IsSortedBy}
use Rattle.std.specs.Ordering.{eq_by_cmp, is_eq, is_lt, ordering_reverse, ordering_then}
use Rattle.std.specs.declared.cmp.Ordering.{Ordering}
use Rattle.std.specs.declared.cmp.Ordering.TheVariants.{Less, Equal, Greater}
use Rattle.std.specs.Cmp.Lexicographic.{nat_list_cmp_total}
use Rattle.std.specs.FinMap as finite
use Rattle.std.specs.FinMap.Entries as sorted
use Rattle.std.specs.FinMap.{nat_cmp-IsAntisymmetric, slice_cmp-IsAntisymmetric}
use Rattle.std.proofs.lemmas.List.Elements.{All-nil, All-cons, All-head, All-tail, All-map}
use Rattle.std.proofs.lemmas.List.Sorted.{ranks_by, sorted_far, All-permutation, list_any-IsPermutation, IsPermutation-refl, IsPermutation-cons, IsPermutation-swap, IsPermutation-trans, IsPermutation-map}
use Rattle.std.proofs.lemmas.Map.Keys.{IsDistinct-IsPermutation}
use Rattle.node_heap.specs.Forms.{Row, Kind, cell, node, pair, links_of, value_of, form_of}
use Rattle.node_heap.specs.Heap.{Heap, row_at, form_at}
use Rattle.rrb_core.specs.Vector.{elements, IsGoodVector}
use Rattle.rrb_core.proofs.Stays.{links-form}
use Rattle.champ_chain.specs.Entry.{Entry, SameSet, same_none, same_first, same_turned, same_through}
use Rattle.champ_chain.proofs.SetLemmas.{same-sym}
use Rattle.champ_trie.proofs.GatherLemmas.{same-map}
use Rattle.champ_kinds.proofs.ZipLemmas.{all-turned, zip-follows, zip-length}
use Rattle.shell_terms.specs.Edit.{Bytes}
use Rattle.plain_space.specs.Workspace.{Named}
use Rattle.state_rows.specs.Reading.{IsText, IsNamed}
use Rattle.state_rows.specs.InHeap.{AreLinesIn, AreBuffersIn}
use Rattle.state_rows.specs.Listing.{IsEntryAt, IsSizeAt}
use Rattle.state_rows.proofs.CoverSpace.{entries-bound}
use Rattle.state_rows.proofs.Keys.{by_bytes, same-name, own-name, among, AreApart, with_values, sorted-values, find-values, gathered, gathered-find, gathered-same}

module _ {T : Type 0} where
  form-value : (r : Option (Row T)) → value_of (option_map form_of r) ≡ value_of r
  form-value None = refl
  form-value (Some (cell x)) = refl
  form-value (Some (node head links)) = refl

  -- a cell's row has its value
  pub cell-value : (h : Heap T) (l : ℕ) (x : T) → form_at h l ≡ Some (cell x) → value_of (row_at h l) ≡ Some x
  cell-value h l x is = sym (form-value (row_at h l)) ∙ ap value_of is

  -- a node's row has its links
  pub node-links : (h : Heap T) (l : ℕ) (kind : Kind) (links : List ℕ) → form_at h l ≡ Some (node kind links) → links_of (row_at h l) ≡ links
  node-links h l kind links is = sym (links-form h l) ∙ ap links_of is

-- what holds of all holds of the one at this place
pub at-turn : (P : ℕ → Type 0) (ks : List ℕ) (n x : ℕ) → All P ks → (n < length ks) × (x ≡ get_or ks n x) → P x
at-turn P ks n x all turn = subst P (sym turn.1) (all n x turn.0)

-- ## In whatever order

-- the same elements in another order are a permutation
pub permuted : {X : Type 0} (xs ys : List X) → SameSet xs ys → IsPermutation xs ys
permuted _ _ same_none = IsPermutation-refl []
permuted _ _ (same_first x xs ys s) = IsPermutation-cons x xs ys (permuted xs ys s)
permuted _ _ (same_turned x y xs) = IsPermutation-swap (x ∷ y ∷ xs) (y ∷ x ∷ xs) 0 1 (omega arith) (omega arith) refl
permuted _ _ (same_through xs ys zs s t) = IsPermutation-trans xs ys zs (permuted xs ys s) (permuted ys zs t)

-- different names
differ : (k : Bytes) (ks : List Bytes) → among k ks ≡ false → AllByRecursion (λ j. eq_by_cmp by_bytes k j ≡ false) ks
differ k [] none = tt
differ k (j ∷ ks) none = by_test (eq_by_cmp by_bytes k j) refl none (differ k ks)
  where
    by_test : (t : Bool) → eq_by_cmp by_bytes k j ≡ t → (t || among k ks) ≡ false → (among k ks ≡ false → AllByRecursion (λ i. eq_by_cmp by_bytes k i ≡ false) ks)
        → (eq_by_cmp by_bytes k j ≡ false) × AllByRecursion (λ i. eq_by_cmp by_bytes k i ≡ false) ks
    by_test true same none later = absurd cc
    by_test false other none later = (other, later none)

undiffer : (k : Bytes) (ks : List Bytes) → AllByRecursion (λ j. eq_by_cmp by_bytes k j ≡ false) ks → among k ks ≡ false
undiffer k [] each = refl
undiffer k (j ∷ ks) each = ap (λ t. t || among k ks) each.0 ∙ undiffer k ks each.1

distinct : (ks : List Bytes) → AreApart ks → IsDistinct (eq_by_cmp by_bytes) ks
unfolding IsDistinct
distinct [] apart = tt
distinct (k ∷ ks) apart = (differ k ks apart.0, distinct ks apart.1)

apart : (ks : List Bytes) → IsDistinct (eq_by_cmp by_bytes) ks → AreApart ks
unfolding IsDistinct
apart [] is = tt
apart (k ∷ ks) is = (undiffer k ks is.0, apart ks is.1)

turned : (r : Ordering) → is_eq (ordering_reverse r) ≡ is_eq r
turned Less = refl
turned Equal = refl
turned Greater = refl

flips : (j k : Bytes) → eq_by_cmp by_bytes j k ≡ eq_by_cmp by_bytes k j
flips j k = ap is_eq (nat_list_cmp_total.antisymm j k) ∙ turned (by_bytes k j)

apart-permuted : (js ks : List Bytes) → IsPermutation js ks → AreApart js → AreApart ks
apart-permuted js ks p is = apart ks (IsDistinct-IsPermutation (eq_by_cmp by_bytes) flips js ks p (distinct js is))

-- ## In order

rises : (j k : Bytes) → is_lt (by_bytes k j) ≡ false → eq_by_cmp by_bytes j k ≡ false → is_lt (by_bytes j k) ≡ true
rises j k down other = ap is_lt (nat_list_cmp_total.antisymm j k) ∙ by_order (by_bytes k j) down (sym (turned (by_bytes k j)) ∙ ap is_eq (sym (nat_list_cmp_total.antisymm j k)) ∙ other)
  where
    by_order : (r : Ordering) → is_lt r ≡ false → is_eq r ≡ false → is_lt (ordering_reverse r) ≡ true
    by_order Less down other = absurd cc
    by_order Equal down other = absurd cc
    by_order Greater down other = refl

module _ {X N : Type 0} (name : X → Bytes) (value : X → N) where
  -- the things as names with values
  abbrev pub pairs_of : List X → List (Bytes × N)
  pairs_of xs = map (λ x. (name x, value x)) xs

  pub names-of-pairs : (xs : List X) → map (λ e. e.0) (pairs_of xs) ≡ map name xs
  names-of-pairs [] = refl
  names-of-pairs (x ∷ xs) = ap (λ ks. name x ∷ ks) (names-of-pairs xs)

  -- none is below one before it
  IsFar : List X → Type 0
  IsFar xs = (i j : ℕ) (d : X) → i ≤ j → j < length xs → is_lt (by_bytes (name (get_or xs j d)) (name (get_or xs i d))) ≡ false

  all-above : (x : X) (xs : List X) → ((j : ℕ) (d : X) → j < length xs → is_lt (by_bytes (name (get_or xs j d)) (name x)) ≡ false) → among (name x) (map name xs) ≡ false
      → sorted.below_all by_bytes (name x) (pairs_of xs) ≡ true
  all-above x [] far other = refl
  all-above x (y ∷ ys) far other =
      let differs = differ (name x) (map name (y ∷ ys)) other in
      ap (λ t. t && sorted.below_all by_bytes (name x) (pairs_of ys)) (rises (name x) (name y) (far 0 y (omega arith)) differs.0)
      ∙ all-above x ys (λ j d low. far (suc j) d (omega (arith, low))) (undiffer (name x) (map name ys) differs.1)

  rising : (xs : List X) → IsFar xs → AreApart (map name xs) → sorted.is_sorted by_bytes (pairs_of xs) ≡ true
  unfolding IsFar
  rising [] far is = refl
  rising (x ∷ xs) far is =
      ap (λ t. t && sorted.is_sorted by_bytes (pairs_of xs)) (all-above x xs (λ j d low. far 0 (suc j) d (omega arith) (omega (arith, low))) is.0)
      ∙ rising xs (λ i j d order low. far (suc i) (suc j) d (omega (arith, order)) (omega (arith, low))) is.1

  -- what is sorted by different names rises
  sorted-rising : (xs : List X) → IsSortedBy (λ x y. is_lt (by_bytes (name x) (name y))) xs → AreApart (map name xs) → T (sorted.is_sorted by_bytes (pairs_of xs))
  unfolding IsFar
  sorted-rising xs up is = subst T (sym (rising xs (λ i j d order low. sorted_far (λ x y. is_lt (by_bytes (name x) (name y))) (ranks_by nat_list_cmp_total name) xs up i j d order low) is)) tt

  -- names with the values that a function has there are found with them
  found-valued : (g : Bytes → Option N) (xs : List X) → All (λ x. g (name x) ≡ Some (value x)) xs → (q : Bytes) → among q (map name xs) ≡ is_some (g q) → sorted.find by_bytes q (pairs_of xs) ≡ g q
  found-valued g [] all q has = sym (nothing (g q) (sym has))
    where
      nothing : (o : Option N) → is_some o ≡ false → o ≡ None
      nothing None e = refl
      nothing (Some x) e = absurd cc
  found-valued g (x ∷ xs) all q has =
      by_test (eq_by_cmp by_bytes q (name x)) refl has (λ rest. found-valued g xs (All-tail (λ y. g (name y) ≡ Some (value y)) x xs all) q rest)
    where
      by_test : (t : Bool) → eq_by_cmp by_bytes q (name x) ≡ t → (t || among q (map name xs)) ≡ is_some (g q) → (among q (map name xs) ≡ is_some (g q) → sorted.find by_bytes q (pairs_of xs) ≡ g q)
          → cond t (Some (value x)) (sorted.find by_bytes q (pairs_of xs)) ≡ g q
      by_test true same has later = sym (ap g (same-name q (name x) same) ∙ All-head (λ y. g (name y) ≡ Some (value y)) x xs all)
      by_test false other has later = later has

  module _ {Y : Type 0} (m : Named Y) (of : Y → N) where
    -- where a finite map's names are listed, each with its value, the values are found as in the map
    found-there : (ks : List Bytes) (us : List X) → IsPermutation ks (map name us) → ((q : Bytes) → among q ks ≡ finite.contains_key m q)
        → All (λ x. option_map of (finite.get m (name x)) ≡ Some (value x)) us → (q : Bytes) → sorted.find by_bytes q (pairs_of us) ≡ sorted.find by_bytes q (with_values of (finite.entries m))
    found-there ks us turn there all q =
        let g : Bytes → Option N = λ j. option_map of (finite.get m j) in
        found-valued g us all q (sym (list_any-IsPermutation (eq_by_cmp by_bytes q) ks (map name us) turn) ∙ there q ∙ sym (kept of (finite.get m q)))
        ∙ ap (option_map of) (finite.get-entries m q) ∙ sym (find-values of q (finite.entries m))
      where
        kept : (f : Y → N) (o : Option Y) → is_some (option_map f o) ≡ is_some o
        kept f None = refl
        kept f (Some y) = refl

    -- a sorted listing of a finite map's names, each with its value, is the list of the map's entries
    pub listing-same : (ks : List Bytes) (us vs : List X) → SameSet (map name us) ks → AreApart ks → ((q : Bytes) → among q ks ≡ finite.contains_key m q)
        → All (λ x. option_map of (finite.get m (name x)) ≡ Some (value x)) us → IsPermutation us vs → IsSortedBy (λ x y. is_lt (by_bytes (name x) (name y))) vs → pairs_of vs ≡ with_values of (finite.entries m)
    listing-same ks us vs names is_apart there all moved up =
        let turn = IsPermutation-trans ks (map name us) (map name vs) (permuted ks (map name us) (same-sym (map name us) ks names)) (IsPermutation-map name us vs moved) in
        let found = found-there ks vs turn there (All-permutation (λ x. option_map of (finite.get m (name x)) ≡ Some (value x)) us vs moved all) in
        sorted.same_entries by_bytes nat_list_cmp_total (slice_cmp-IsAntisymmetric nat_cmp-IsAntisymmetric) (pairs_of vs) (with_values of (finite.entries m))
        (sorted-rising vs up (apart-permuted ks (map name vs) turn is_apart)) (subst T (sym (sorted-values of (finite.entries m))) (finite.entries_sorted m)) found

    -- and a listing in any order has the same entries
    pub listing-turned : (ks : List Bytes) (us : List X) → SameSet (map name us) ks → AreApart ks → ((q : Bytes) → among q ks ≡ finite.contains_key m q)
        → All (λ x. option_map of (finite.get m (name x)) ≡ Some (value x)) us → SameSet (pairs_of us) (with_values of (finite.entries m))
    listing-turned ks us names is_apart there all =
        let turn = permuted ks (map name us) (same-sym (map name us) ks names) in
        let es = pairs_of us in
        let fs = with_values of (finite.entries m) in
        let found : (q : Bytes) → sorted.find by_bytes q (finite.entries (gathered es)) ≡ sorted.find by_bytes q fs =
        λ q. gathered-find q es ∙ found-there ks us turn there all q in
        let same : finite.entries (gathered es) ≡ fs =
        sorted.same_entries by_bytes nat_list_cmp_total (slice_cmp-IsAntisymmetric nat_cmp-IsAntisymmetric) (finite.entries (gathered es)) fs
        (finite.entries_sorted (gathered es)) (subst T (sym (sorted-values of (finite.entries m))) (finite.entries_sorted m)) found in
        subst (SameSet es) same (gathered-same es (subst AreApart (sym (names-of-pairs us)) (apart-permuted ks (map name us) turn is_apart)))

-- nothing besides that it is there
unit-of : {Y : Type 0} → Y → Unit {0}
unit-of y = tt

some-unit : {X Y : Type 0} (x : X) (o : Option Y) → is_some o ≡ true → option_map unit-of o ≡ Some (unit-of x)
unfolding unit-of
some-unit x None some = absurd cc
some-unit x (Some y) some = refl

names-of-values : {X Y : Type 0} (of : X → Y) (es : List (Bytes × X)) → map (λ e. e.0) (with_values of es) ≡ map (λ e. e.0) es
names-of-values of [] = refl
names-of-values of (e ∷ es) = ap (λ ks. e.0 ∷ ks) (names-of-values of es)

either : (a b : Bool) → b ≡ true → (a || b) ≡ true
either true b e = refl
either false b e = e

-- a name that is listed is among those that are
among-themselves : {X : Type 0} (name : X → Bytes) (xs : List X) (i : ℕ) (d : X) → i < length xs → among (name (get_or xs i d)) (map name xs) ≡ true
among-themselves name [] i d low = absurd (omega (arith, low))
among-themselves name (x ∷ xs) zero d low = ap (λ t. t || among (name x) (map name xs)) (own-name (name x))
among-themselves name (x ∷ xs) (suc i) d low = either (eq_by_cmp by_bytes (name (get_or xs i d)) (name x)) (among (name (get_or xs i d)) (map name xs)) (among-themselves name xs i d (omega (arith, low)))

-- a sorted listing of a finite map's names is the list of them
pub names-in-order : {X Y : Type 0} (name : X → Bytes) (m : Named Y) (ks : List Bytes) (us vs : List X) → SameSet (map name us) ks → AreApart ks → ((q : Bytes) → among q ks ≡ finite.contains_key m q)
    → IsPermutation us vs → IsSortedBy (λ x y. is_lt (by_bytes (name x) (name y))) vs → map name vs ≡ finite.keys m
names-in-order name m ks us vs names is_apart there moved up =
    let all : All (λ x. option_map unit-of (finite.get m (name x)) ≡ Some (unit-of x)) us =
    λ i d low.
    some-unit (get_or us i d) (finite.get m (name (get_or us i d)))
    (sym (there (name (get_or us i d))) ∙ sym (list_any-IsPermutation (eq_by_cmp by_bytes (name (get_or us i d))) (map name us) ks (permuted (map name us) ks names)) ∙ among-themselves name us i d low) in
    sym (names-of-pairs name unit-of vs) ∙ ap (map (λ (e : Bytes × Unit {0}). e.0)) (listing-same name unit-of m unit-of ks us vs names is_apart there all moved up) ∙ names-of-values unit-of (finite.entries m)

-- ## What is listed of entries

module _ {X : Type 0} (R : ℕ → X → Type 0) where
  -- what is read of entries in their order has their names
  pub names-along : (name : X → Bytes) (E : List (Entry Bytes)) (xs : List X) → All (λ e. (x : X) → R e.link x → name x ≡ e.key) E → AllZip R (map (λ e. e.link) E) xs → map name xs ≡ map (λ e. e.key) E
  names-along name [] [] each zip = refl
  names-along name [] (x ∷ xs) each zip = absurd zip
  names-along name (e ∷ E) [] each zip = absurd zip
  names-along name (e ∷ E) (x ∷ xs) each zip =
      let P = λ (d : Entry Bytes). (y : X) → R d.link y → name y ≡ d.key in
      ap (λ k. k ∷ map name xs) (All-head P e E each x zip.0) ∙ ap (λ ks. e.key ∷ ks) (names-along name E xs (All-tail P e E each) zip.1)

  along : (Q : X → Type 0) (E : List (Entry Bytes)) (xs : List X) → All (λ e. (x : X) → R e.link x → Q x) E → AllZip R (map (λ e. e.link) E) xs → All Q xs
  along Q [] [] each zip = All-nil Q
  along Q [] (x ∷ xs) each zip = absurd zip
  along Q (e ∷ E) [] each zip = absurd zip
  along Q (e ∷ E) (x ∷ xs) each zip =
      let P = λ (d : Entry Bytes). (y : X) → R d.link y → Q y in
      All-cons Q x xs (All-head P e E each x zip.0) (along Q E xs (All-tail P e E each) zip.1)

  -- and what is read of them in any order
  pub names-listed : (name : X → Bytes) (E : List (Entry Bytes)) (ls : List ℕ) (xs : List X) → All (λ e. (x : X) → R e.link x → name x ≡ e.key) E → SameSet ls (map (λ e. e.link) E) → AllZip R ls xs
      → SameSet (map name xs) (map (λ e. e.key) E)
  names-listed name E ls xs each same zip =
      let follows = zip-follows R ls (map (λ e. e.link) E) xs same zip in
      subst (SameSet (map name xs)) (names-along name E follows.0 each follows.2) (same-map name xs follows.0 follows.1)

  pub all-listed : (Q : X → Type 0) (E : List (Entry Bytes)) (ls : List ℕ) (xs : List X) → All (λ e. (x : X) → R e.link x → Q x) E → SameSet ls (map (λ e. e.link) E) → AllZip R ls xs → All Q xs
  all-listed Q E ls xs each same zip =
      let follows = zip-follows R ls (map (λ e. e.link) E) xs same zip in
      all-turned Q follows.0 xs (same-sym xs follows.0 follows.1) (along Q E follows.0 each follows.2)

-- ## The entries of a map

-- the name in a pair is the one in its cell
pub entry-key : (h : Heap Bytes) (l : ℕ) (key_cell value : ℕ) (key name : Bytes) → form_at h l ≡ Some (node pair (key_cell ∷ value ∷ [])) → form_at h key_cell ≡ Some (cell key) → IsEntryAt h l name → name ≡ key
entry-key h l key_cell value key name row here is =
    let rows = sym is.row ∙ row in
    let same : is.key_cell ≡ key_cell = cc in
    let cells = sym is.key ∙ ap (form_at h) same ∙ here in
    cc

pub entry-value : (h : Heap Bytes) (l : ℕ) (key_cell value : ℕ) (name : Bytes) → form_at h l ≡ Some (node pair (key_cell ∷ value ∷ [])) → (is : IsEntryAt h l name) → is.value ≡ value
entry-value h l key_cell value name row is = let rows = sym is.row ∙ row in cc

-- what is below by its name and by more is below by its name
pub name-first : (r o : Ordering) → is_lt (ordering_then r o) ≡ false → is_lt r ≡ false
name-first Less o down = down
name-first Equal o down = refl
name-first Greater o down = refl

module _ (h : Heap Bytes) (V : ℕ → Type 0) (bits : ℕ) {X : Type 0} (R : ℕ → X → Type 0) (l : ℕ) (m : Named X) (is : IsNamed (form_at h) V bits R l m) where
  -- each entry that a walk gives is a pair of a name's cell and a value
  pub entries-there : (ls : List ℕ) → SameSet ls (map (λ e. e.link) is.entries) → All (λ k. (name : Bytes) × IsEntryAt h k name) ls
  entries-there ls same =
      all-turned (λ k. (name : Bytes) × IsEntryAt h k name) (map (λ e. e.link) is.entries) ls (same-sym ls (map (λ e. e.link) is.entries) same)
      (All-map (λ k. (name : Bytes) × IsEntryAt h k name) (λ (e : Entry Bytes). e.link) is.entries
      (λ i d low.
      let bound = entries-bound (form_at h) V bits R l m is i d low in
      ((get_or is.entries i d).key, record { key_cell = bound.key_cell; value = bound.value; row = bound.row; key = bound.cell_row })))

  pub entry-names : All (λ e. (name : Bytes) → IsEntryAt h e.link name → name ≡ e.key) is.entries
  entry-names i d low = λ name at.
      let bound = entries-bound (form_at h) V bits R l m is i d low in
      entry-key h (get_or is.entries i d).link bound.key_cell bound.value (get_or is.entries i d).key name bound.row bound.cell_row at

module _ (h : Heap Bytes) (bits l : ℕ) (m : Named (List Bytes)) (is : AreBuffersIn h bits l m) where
  -- each is a pair of a name's cell and lines
  pub sizes-there : (ls : List ℕ) → SameSet ls (map (λ e. e.link) is.entries) → All (λ k. (size : Bytes × ℕ) × IsSizeAt h k size) ls
  sizes-there ls same =
      all-turned (λ k. (size : Bytes × ℕ) × IsSizeAt h k size) (map (λ e. e.link) is.entries) ls (same-sym ls (map (λ e. e.link) is.entries) same)
      (All-map (λ k. (size : Bytes × ℕ) × IsSizeAt h k size) (λ (e : Entry Bytes). e.link) is.entries
      (λ i d low.
      let bound = entries-bound (form_at h) (IsGoodVector h) bits (AreLinesIn h bits) l m is i d low in (
        ((get_or is.entries i d).key, length (elements h bound.value)),
        record { entry = record { key_cell = bound.key_cell; value = bound.value; row = bound.row; key = bound.cell_row }; vector = bound.is.vector; many = refl },
      )))

  -- and the number is that of the lines at that name
  pub size-values : All (λ e. (size : Bytes × ℕ) → IsSizeAt h e.link size → option_map length (finite.get m size.0) ≡ Some size.1) is.entries
  size-values i d low = λ size at.
      let e = get_or is.entries i d in
      let bound = entries-bound (form_at h) (IsGoodVector h) bits (AreLinesIn h bits) l m is i d low in
      let name : size.0 ≡ e.key = entry-key h e.link bound.key_cell bound.value e.key size.0 bound.row bound.cell_row at.entry in
      let same : at.entry.value ≡ bound.value = entry-value h e.link bound.key_cell bound.value size.0 bound.row at.entry in
      let lines : length (elements h bound.value) ≡ length bound.thing = zip-length (IsText (form_at h) (IsGoodVector h) bits) (elements h bound.value) bound.thing bound.is.values in
      ap (λ k. option_map length (finite.get m k)) name ∙ ap (option_map length) bound.found
      ∙ ap Some (sym lines ∙ ap (λ (k : ℕ). length (elements h k)) (sym same) ∙ at.many)
