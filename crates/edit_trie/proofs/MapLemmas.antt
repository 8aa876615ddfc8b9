-- What the edits of a trie make of a map.
use Rattle.std.proofs.Common.{◌≡◌, ℕ, ◌≤◌, List, [], ◌∷◌, refl, ap, sym, subst, ◌∙◌, arith, cond, true, false, not, Bool, Option, Some, None, option_map}
use Rattle.std.specs.Prelude.{count_by}
use Rattle.std.specs.List.{All, AllZip, find, filter}
use Rattle.std.specs.Ordering.{is_eq}
use Rattle.std.specs.Cmp.{IsTotalOrder, Equal-is}
use Rattle.std.specs.declared.cmp.Ordering.{Ordering}
use Rattle.std.specs.declared.cmp.Ordering.TheVariants.{Equal}
use Rattle.std.proofs.lemmas.List.Elements.{All-nil, All-cons, All-head, All-tail}
use Rattle.elem_core.specs.declared.codes.TheConstants.{DEEPEST}
use Rattle.node_heap.specs.Links.{Reaches, here}
use Rattle.node_heap.specs.Forms.{Forms, Form, cell, node, pair, value_of, links_in, form_of}
use Rattle.node_heap.specs.Heap.{Heap, row_at, form_at}
use Rattle.node_heap.specs.declared.owner.Owner.{Owner}
use Rattle.node_heap.specs.Owner.{owned}
use Rattle.node_heap.proofs.CallerLemmas.{Reaches-then, IsOwned}
use Rattle.champ_chain.specs.Entry.{Entry, entry, IsEntry, SameSet, same_first, same_turned, same_through, has_key, key_at, key_of, link_with, others}
use Rattle.champ_chain.proofs.CallerLemmas.{same-refl, count-cons}
use Rattle.champ_trie.specs.Trie.{IsCanon, code_by}
use Rattle.champ_trie.proofs.CallerLemmas.{forms-below, canon-stays, canon-reach, has-first, trie-moved}
use Rattle.champ_kinds.specs.Binding.{Binding, binds, unbind}
use Rattle.champ_kinds.specs.Kinds.{IsPair, HasEntries, IsMapOf}
use Rattle.champ_kinds.proofs.CallerLemmas.{zip-as, zip-all, others-pairs}
use Rattle.edit_trie.specs.Edit.{by_bits}

-- what passes a test, where one at most does, and then the others are all
module _ {X : Type 0} (p : X → Bool) where
  none-out : (xs : List X) → count_by p xs ≡ 0 → filter (λ x. not (p x)) xs ≡ xs
  none-out [] none = refl
  none-out (x ∷ xs) none = by_test (p x) refl (none-out xs)
    where
      by_test : (t : Bool) → p x ≡ t → (count_by p xs ≡ 0 → filter (λ y. not (p y)) xs ≡ xs) → filter (λ y. not (p y)) (x ∷ xs) ≡ x ∷ xs
      by_test true is rec = absurd (omega (arith, none, count-cons p x xs, ap (λ t. let n : ℕ = cond t 1 0 in n) is))
      by_test false is rec =
          ap (λ t. cond (not t) (x ∷ filter (λ y. not (p y)) xs) (filter (λ y. not (p y)) xs)) is ∙ ap (λ ys. x ∷ ys) (rec (omega (arith, none, count-cons p x xs)))

  pub one-out : (xs : List X) (x : X) → count_by p xs ≤ 1 → find p xs ≡ Some x → SameSet (x ∷ filter (λ y. not (p y)) xs) xs
  one-out [] x once found = absurd cc
  one-out (y ∷ ys) x once found = by_test (p y) refl (one-out ys x)
    where
      by_test : (t : Bool) → p y ≡ t → (count_by p ys ≤ 1 → find p ys ≡ Some x → SameSet (x ∷ filter (λ z. not (p z)) ys) ys) → SameSet (x ∷ filter (λ z. not (p z)) (y ∷ ys)) (y ∷ ys)
      by_test true is rec =
          let same : y ≡ x = (let first : Some y ≡ Some x = ap (λ t. cond t (Some y) (find p ys)) (sym is) ∙ found in cc) in
          let none : count_by p ys ≡ 0 = omega (arith, once, count-cons p y ys, ap (λ t. let n : ℕ = cond t 1 0 in n) is) in
          let rest : filter (λ z. not (p z)) (y ∷ ys) ≡ ys = ap (λ t. cond (not t) (y ∷ filter (λ z. not (p z)) ys) (filter (λ z. not (p z)) ys)) is ∙ none-out ys none in
          subst (λ zs. SameSet (x ∷ zs) (y ∷ ys)) (sym rest) (subst (λ z. SameSet (x ∷ ys) (z ∷ ys)) (sym same) (same-refl (x ∷ ys)))
      by_test false is rec =
          let later = rec (omega (arith, once, count-cons p y ys)) (ap (λ t. cond t (Some y) (find p ys)) (sym is) ∙ found) in
          let rest : filter (λ z. not (p z)) (y ∷ ys) ≡ y ∷ filter (λ z. not (p z)) ys = ap (λ t. cond (not t) (y ∷ filter (λ z. not (p z)) ys) (filter (λ z. not (p z)) ys)) is in
          subst (λ zs. SameSet (x ∷ zs) (y ∷ ys)) (sym rest) (same_through (x ∷ y ∷ filter (λ z. not (p z)) ys) (y ∷ x ∷ filter (λ z. not (p z)) ys) (y ∷ ys) (same_turned x y (filter (λ z. not (p z)) ys)) (same_first y (x ∷ filter (λ z. not (p z)) ys) ys later))

-- what holds of all holds of what is found
pub all-found : {X : Type 0} (P : X → Type 0) (p : X → Bool) (xs : List X) (x : X) → All P xs → find p xs ≡ Some x → P x
all-found P p [] x all found = absurd cc
all-found P p (y ∷ ys) x all found = by_test (p y) refl (all-found P p ys x (All-tail P y ys all))
  where
    by_test : (t : Bool) → p y ≡ t → (find p ys ≡ Some x → P x) → P x
    by_test true is rec = let same : y ≡ x = (let first : Some y ≡ Some x = ap (λ t. cond t (Some y) (find p ys)) (sym is) ∙ found in cc) in subst P same (All-head P y ys all)
    by_test false is rec = rec (ap (λ t. cond t (Some y) (find p ys)) (sym is) ∙ found)

module _ {K : Type 0} where
  -- a form with a value is a cell of it
  pub value-cell : (f : Option (Form K)) (z : K) → value_of f ≡ Some z → f ≡ Some (cell z)
  value-cell None z is = absurd cc
  value-cell (Some (cell x)) z is = let same : x ≡ z = cc in ap (λ y. Some (cell y)) same
  value-cell (Some (node k ls)) z is = absurd cc

  -- a pair row that names a key is the pair of it
  pub pair-by : (F : Forms K) (x : ℕ) (k : K) (b : Binding K) (at value : ℕ) → F x ≡ Some (node pair (at ∷ value ∷ [])) → key_at F x ≡ Some k → b.value ≡ value → b.key ≡ k → IsPair F (entry k x) b
  pair-by F x k b at value row keyed same key = record {
    key_cell = at;
    cell = value-cell (F at) k (sym (ap (key_of F) row) ∙ keyed);
    row = row ∙ ap (λ v. Some (node pair (at ∷ v ∷ []))) (sym same);
    key = key;
  }

  pub pair-key : (F : Forms K) (e : Entry K) (b : Binding K) → IsPair F e b → IsEntry F e
  pair-key F e b is = ap (key_of F) is.row ∙ ap value_of is.cell

  module _ (cmp : K → K → Ordering) where
    -- the binding of the entry that was found
    pub zip-found : (F : Forms K) (key : K) (E : List (Entry K)) (M : List (Binding K)) (e : Entry K) → AllZip (IsPair F) E M → find (has_key cmp key) E ≡ Some e → (b : Binding K) × (find (binds cmp key) M ≡ Some b) × IsPair F e b
    zip-found F key [] [] e are found = absurd cc
    zip-found F key [] (b ∷ bs) e are found = absurd are
    zip-found F key (d ∷ ds) [] e are found = absurd are
    zip-found F key (d ∷ ds) (b ∷ bs) e are found = by_test (has_key cmp key d) refl (λ rest. zip-found F key ds bs e are.1 rest)
      where
        by_test : (t : Bool) → has_key cmp key d ≡ t → (find (has_key cmp key) ds ≡ Some e → (c : Binding K) × (find (binds cmp key) bs ≡ Some c) × IsPair F e c) → (c : Binding K) × (find (binds cmp key) (b ∷ bs) ≡ Some c) × IsPair F e c
        by_test true is rec =
            let same : d ≡ e = (let first : Some d ≡ Some e = ap (λ t. cond t (Some d) (find (has_key cmp key) ds)) (sym is) ∙ found in cc) in
            let test : binds cmp key b ≡ true = ap (λ k. is_eq (cmp key k)) are.0.key ∙ is in
            (b, ap (λ t. cond t (Some b) (find (binds cmp key) bs)) test, subst (λ x. IsPair F x b) same are.0)
        by_test false is rec =
            let later = rec (ap (λ t. cond t (Some d) (find (has_key cmp key) ds)) (sym is) ∙ found) in
            let test : binds cmp key b ≡ false = ap (λ k. is_eq (cmp key k)) are.0.key ∙ is in
            (later.0, ap (λ t. cond t (Some b) (find (binds cmp key) bs)) test ∙ later.1, later.2)

    -- the entry of a link that was found
    pub found-link : (key : K) (E : List (Entry K)) (x : ℕ) → link_with cmp key E ≡ Some x → (e : Entry K) × (find (has_key cmp key) E ≡ Some e) × (e.link ≡ x)
    found-link key E x is = by_found (find (has_key cmp key) E) refl
      where
        by_found : (r : Option (Entry K)) → find (has_key cmp key) E ≡ r → (e : Entry K) × (find (has_key cmp key) E ≡ Some e) × (e.link ≡ x)
        by_found None at = absurd (let bad : None ≡ Some x = sym (ap (option_map (λ (y : Entry K). y.link)) at) ∙ is in cc)
        by_found (Some e) at = (e, at, (let same : Some e.link ≡ Some x = sym (ap (option_map (λ (y : Entry K). y.link)) at) ∙ is in cc))

    -- a look-up by an equal key
    pub find-same : IsTotalOrder cmp → (key k : K) → cmp key k ≡ Equal → (E : List (Entry K)) → find (has_key cmp k) E ≡ find (has_key cmp key) E
    find-same o key k same [] = refl
    find-same o key k same (e ∷ es) =
        let test : has_key cmp k e ≡ has_key cmp key e = sym (ap is_eq (o.congr key k e.key same)) in
        ap (λ t. cond t (Some e) (find (has_key cmp k) es)) test ∙ ap (λ r. cond (has_key cmp key e) (Some e) r) (find-same o key k same es)

    -- keys of bindings are counted as those of entries
    pub count-binds : (F : Forms K) (key : K) (E : List (Entry K)) (M : List (Binding K)) → AllZip (IsPair F) E M → count_by (binds cmp key) M ≡ count_by (has_key cmp key) E
    count-binds F key [] [] are = refl
    count-binds F key [] (b ∷ bs) are = absurd are
    count-binds F key (e ∷ es) [] are = absurd are
    count-binds F key (e ∷ es) (b ∷ bs) are =
        let first : cond (binds cmp key b) 1 0 ≡ cond (has_key cmp key e) 1 0 = ap (λ k. let n : ℕ = cond (is_eq (cmp key k)) 1 0 in n) are.0.key in
        omega (arith, count-binds F key es bs are.1, first, count-cons (binds cmp key) b bs, count-cons (has_key cmp key) e es)

    -- of the entries with other keys each is as was asked of those
    pub all-others : (key : K) (P Q : Entry K → Type 0) → ((d : Entry K) → (cmp key d.key ≡ Equal → ⊥) → P d → Q d) → (E : List (Entry K)) → All P E → All Q (others cmp key E)
    all-others key P Q each [] all = All-nil Q
    all-others key P Q each (e ∷ es) all = by_test (has_key cmp key e) refl (all-others key P Q each es (All-tail P e es all))
      where
        by_test : (t : Bool) → has_key cmp key e ≡ t → All Q (others cmp key es) → All Q (others cmp key (e ∷ es))
        by_test true is rest = subst (All Q) (sym (ap (λ t. cond (not t) (e ∷ others cmp key es) (others cmp key es)) is)) rest
        by_test false is rest =
            let apart : cmp key e.key ≡ Equal → ⊥ = λ equal. let bad : true ≡ false = sym ((Equal-is (cmp key e.key)).1 equal) ∙ is in cc in
            subst (All Q) (sym (ap (λ t. cond (not t) (e ∷ others cmp key es) (others cmp key es)) is)) (All-cons Q e (others cmp key es) (each e apart (All-head P e es all)) rest)

-- the root of a map was made its owner's own
module _ {T : Type 0} (cmp : T → T → Ordering) (code : T → ℕ) (owner : Owner) (bits : ℕ) (old mid : Heap T) (r : ℕ) (o : IsOwned owner old mid r) where
  canon-moved : (E : List (Entry T)) → IsCanon cmp (code_by code bits) (form_at mid) (owned old owner) E → IsCanon cmp (code_by code bits) (form_at mid) r E
  canon-moved E is =
      let same : form_at mid r ≡ form_at mid (owned old owner) = ap (option_map form_of) (o.row_same ∙ sym (o.below (owned old owner) (here (owned old owner)))) in
      record { trie = trie-moved cmp (code_by code bits) (form_at mid) (form_at mid) DEEPEST 0 (owned old owner) r E same (λ s has m way. refl) is.trie; distinct = is.distinct }

  pub entries-owned : (E : List (Entry T)) → HasEntries cmp code old (by_bits bits (owned old owner)) E → HasEntries cmp code mid (by_bits bits r) E
  entries-owned E is = record {
    bits = is.bits;
    trie = canon-moved E (canon-stays (form_at old) (form_at mid) (owned old owner) (forms-below old mid (owned old owner) o.below) cmp (code_by code bits) E is.trie);
  }

  pub map-owned : (M : List (Binding T)) (is : IsMapOf cmp code old (by_bits bits (owned old owner)) M) → AllZip (IsPair (form_at mid)) is.entries M
  map-owned M is =
      let root = owned old owner in
      let Reached = λ (e : Entry T). Reaches (links_in (form_at old)) root e.link in
      zip-as (λ e b. Reached e × IsPair (form_at old) e b) (IsPair (form_at mid)) (λ e b both. pair-stays e b both.0 both.1) is.entries M
      (zip-all Reached (IsPair (form_at old)) is.entries M (canon-reach cmp (code_by code bits) (form_at old) root is.entries is.rooted.trie) is.pairs)
    where
      pair-stays : (e : Entry T) (b : Binding T) → Reaches (links_in (form_at old)) (owned old owner) e.link → IsPair (form_at old) e b → IsPair (form_at mid) e b
      pair-stays e b down is =
          let same = forms-below old mid (owned old owner) o.below in
          record {
            key_cell = is.key_cell;
            cell = same is.key_cell (Reaches-then (links_in (form_at old)) (owned old owner) e.link is.key_cell down (has-first (form_at old) e.link is.key_cell pair (b.value ∷ []) is.row)) ∙ is.cell;
            row = same e.link down ∙ is.row;
            key = is.key;
          }

-- the pairs of other keys, where their rows stay and they name the same keys
module _ {T : Type 0} (cmp : T → T → Ordering) (mid new : Heap T) where
  pub pairs-left : (key : T) (E : List (Entry T)) (M : List (Binding T)) → AllZip (IsPair (form_at mid)) E M → All (λ d. row_at new d.link ≡ row_at mid d.link) (others cmp key E) → All (IsEntry (form_at new)) (others cmp key E)
      → AllZip (IsPair (form_at new)) (others cmp key E) (unbind cmp key M)
  pairs-left key E M pairs same keyed =
      let P = λ (d : Entry T). row_at new d.link ≡ row_at mid d.link in
      let Q = IsEntry (form_at new) in
      let D = others cmp key E in
      let N = unbind cmp key M in
      let zipped = zip-all P (λ d b. Q d × IsPair (form_at mid) d b) D N same (zip-all Q (IsPair (form_at mid)) D N keyed (others-pairs (form_at mid) cmp key E M pairs)) in
      zip-as (λ d b. P d × (Q d × IsPair (form_at mid) d b)) (IsPair (form_at new)) (λ d b is. pair-by (form_at new) d.link d.key b is.1.1.key_cell b.value (ap (option_map form_of) is.0 ∙ is.1.1.row) is.1.0 refl is.1.1.key) D N zipped
