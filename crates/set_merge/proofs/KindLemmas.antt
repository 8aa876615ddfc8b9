-- What merged sets and maps stand for.
use Rattle.std.proofs.Common.{◌≡◌, ℕ, ◌≤◌, List, [], ◌∷◌, ◌++◌, length, refl, ap, sym, subst, ◌∙◌, Bool, true, false, not, cond, Option, Some, None}
use Rattle.std.specs.Prelude.{is_some, Result, Ok, Err, OnOk}
use Rattle.std.specs.List.{filter, AllZip}
use Rattle.std.specs.declared.cmp.Ordering.{Ordering}
use Rattle.std.proofs.lemmas.List.Elements.{All-append, All-filter}
use Rattle.node_heap.specs.Forms.{Forms}
use Rattle.node_heap.specs.Heap.{Heap, form_at}
use Rattle.node_heap.specs.Calls.{Answered, Builds, Extends, SameRows}
use Rattle.champ_chain.specs.Entry.{Entry, link_with}
use Rattle.champ_chain.proofs.FrameLemmas.{forms-kept}
use Rattle.champ_trie.specs.Trie.{IsTrieOf}
use Rattle.champ_kinds.specs.Root.{Root}
use Rattle.champ_kinds.specs.Binding.{Binding, value_with}
use Rattle.champ_kinds.specs.Kinds.{IsKeyCell, IsPair, HasEntries, IsSetOf, IsMapOf}
use Rattle.champ_kinds.proofs.ZipLemmas.{zip-length}
use Rattle.champ_kinds.proofs.PairLemmas.{found-pairs, absent-map}
use Rattle.champ_kinds.proofs.EditLemmas.{cells-kept, pairs-kept}
use Rattle.elem_core.specs.declared.codes.TheConstants.{CODE_BITS}
use Rattle.same_value.specs.Apart.{HasApart}
use Rattle.set_merge.specs.declared.roots.Roots.{Roots}
use Rattle.set_merge.specs.Need.{merge_need}
use Rattle.set_merge.specs.declared.keeps.Keeps.{Keeps}
use Rattle.set_merge.specs.declared.keeps.TheConstants.{UNION, BOTH, LESS}
use Rattle.set_merge.specs.Merge.{is_key, union, both, less, merged, map_union, map_both, map_less, map_merged}
use Rattle.set_merge.proofs.ZipLemmas.{zip-joined, zip-filter}
use Rattle.set_merge.proofs.MergeLemmas.{filter-same, filter-all, filter-none, append-none}

pub on-ok : {X E : Type 0} (r : Result X E) {P Q : Type 0} → (P → Q) → OnOk r P → OnOk r Q
on-ok (Ok x) f p = f p
on-ok (Err e) f p = p

-- what a merge keeps of two lists of one kind, by tests whether the other has the key
module _ {X : Type 0} (p q : X → Bool) (xs ys : List X) where
  same-either : (b : Bool) → cond b true true ≡ true
  same-either true = refl
  same-either false = refl

  none-either : (b : Bool) → cond b false false ≡ false
  none-either true = refl
  none-either false = refl

  not-is : (b : Bool) → cond b false true ≡ not b
  not-is true = refl
  not-is false = refl

  as-is : (b : Bool) → cond b true false ≡ b
  as-is true = refl
  as-is false = refl

  kept-all : filter (λ x. cond (p x) true true) xs ++ filter (λ y. cond (q y) false true) ys ≡ xs ++ filter (λ y. not (q y)) ys
  kept-all =
      ap (λ us. us ++ filter (λ y. cond (q y) false true) ys) (filter-same (λ x. cond (p x) true true) (λ x. true) xs (λ x i. same-either (p x)) ∙ filter-all xs)
      ∙ ap (λ us. xs ++ us) (filter-same (λ y. cond (q y) false true) (λ y. not (q y)) ys (λ y i. not-is (q y)))

  kept-none : filter (λ y. cond (q y) false false) ys ≡ []
  kept-none = filter-same (λ y. cond (q y) false false) (λ y. false) ys (λ y i. none-either (q y)) ∙ filter-none ys

  kept-both : filter (λ x. cond (p x) true false) xs ++ filter (λ y. cond (q y) false false) ys ≡ filter p xs
  kept-both = ap (λ us. filter (λ x. cond (p x) true false) xs ++ us) kept-none ∙ append-none _ ∙ filter-same (λ x. cond (p x) true false) p xs (λ x i. as-is (p x))

  kept-first : filter (λ x. cond (p x) false true) xs ++ filter (λ y. cond (q y) false false) ys ≡ filter (λ x. not (p x)) xs
  kept-first = ap (λ us. filter (λ x. cond (p x) false true) xs ++ us) kept-none ∙ append-none _ ∙ filter-same (λ x. cond (p x) false true) (λ x. not (p x)) xs (λ x i. not-is (p x))

module _ {K : Type 0} (cmp : K → K → Ordering) where
  -- the three merges of entries
  pub union-is : (E D : List (Entry K)) → merged cmp UNION E D ≡ union cmp E D
  unfolding merged
  union-is E D = kept-all (λ e. is_key cmp D e.key) (λ d. is_key cmp E d.key) E D

  pub both-is : (E D : List (Entry K)) → merged cmp BOTH E D ≡ both cmp E D
  unfolding merged
  both-is E D = kept-both (λ e. is_key cmp D e.key) (λ d. is_key cmp E d.key) E D

  pub less-is : (E D : List (Entry K)) → merged cmp LESS E D ≡ less cmp E D
  unfolding merged
  less-is E D = kept-first (λ e. is_key cmp D e.key) (λ d. is_key cmp E d.key) E D

  -- and of bindings
  pub map-union-is : (M N : List (Binding K)) → map_merged cmp UNION M N ≡ map_union cmp M N
  unfolding map_merged
  map-union-is M N = kept-all (λ b. is_some (value_with cmp b.key N)) (λ c. is_some (value_with cmp c.key M)) M N

  pub map-both-is : (M N : List (Binding K)) → map_merged cmp BOTH M N ≡ map_both cmp M N
  unfolding map_merged
  map-both-is M N = kept-both (λ b. is_some (value_with cmp b.key N)) (λ c. is_some (value_with cmp c.key M)) M N

  pub map-less-is : (M N : List (Binding K)) → map_merged cmp LESS M N ≡ map_less cmp M N
  unfolding map_merged
  map-less-is M N = kept-first (λ b. is_some (value_with cmp b.key N)) (λ c. is_some (value_with cmp c.key M)) M N

  module _ (F : Forms K) where
    key-bound : (key : K) (E : List (Entry K)) (M : List (Binding K)) → AllZip (IsPair F) E M → is_key cmp E key ≡ is_some (value_with cmp key M)
    key-bound key E M pairs = by_link (link_with cmp key E) refl
      where
        by_link : (l : Option ℕ) → link_with cmp key E ≡ l → is_some (link_with cmp key E) ≡ is_some (value_with cmp key M)
        by_link None is = ap is_some is ∙ sym (ap is_some (absent-map F cmp key E M pairs is))
        by_link (Some x) is = ap is_some is ∙ sym (ap is_some (found-pairs F cmp key E M x pairs is).here)

    -- an entry and its binding have one key
    bound-as : (E : List (Entry K)) (M : List (Binding K)) → AllZip (IsPair F) E M → (d : Entry K) (c : Binding K) → IsPair F d c → is_key cmp E d.key ≡ is_some (value_with cmp c.key M)
    bound-as E M pairs d c pair = key-bound d.key E M pairs ∙ ap (λ key. is_some (value_with cmp key M)) (sym pair.key)

    pub merged-pairs : (k : Keeps) (E : List (Entry K)) (M : List (Binding K)) (D : List (Entry K)) (N : List (Binding K)) → AllZip (IsPair F) E M → AllZip (IsPair F) D N → AllZip (IsPair F) (merged cmp k E D) (map_merged cmp k M N)
    unfolding merged map_merged
    merged-pairs k E M D N one two =
        zip-joined (IsPair F) _ _ _ _
        (zip-filter (IsPair F) (λ e. cond (is_key cmp D e.key) k.both k.first) (λ b. cond (is_some (value_with cmp b.key N)) k.both k.first) (λ e b pair. ap (λ t. cond t k.both k.first) (bound-as D N two e b pair)) E M one)
        (zip-filter (IsPair F) (λ d. cond (is_key cmp E d.key) false k.second) (λ c. cond (is_some (value_with cmp c.key M)) false k.second) (λ d c pair. ap (λ t. cond t false k.second) (bound-as E M one d c pair)) D N two)

module _ {T : Type 0} (cmp : T → T → Ordering) (code : T → ℕ) {old new : Heap T} (more : Extends old new) (r s : Root) (root : ℕ) where
  -- the merged set
  pub set-merged : (k : Keeps) (E D : List (Entry T)) → IsSetOf cmp code old r E → IsSetOf cmp code old s D → IsTrieOf cmp code r.bits new root (merged cmp k E D)
      → IsSetOf cmp code new (record { root = root; bits = r.bits }) (merged cmp k E D)
  unfolding merged
  set-merged k E D one two trie = record {
    rooted = record { bits = one.rooted.bits; trie = trie };
    cells = All-append (IsKeyCell (form_at new)) _ _
        (All-filter (λ e. cond (is_key cmp D e.key) k.both k.first) (IsKeyCell (form_at new)) E (cells-kept (form_at old) (form_at new) (forms-kept old new more) E one.cells))
        (All-filter (λ d. cond (is_key cmp E d.key) false k.second) (IsKeyCell (form_at new)) D (cells-kept (form_at old) (form_at new) (forms-kept old new more) D two.cells));
  }

  -- the merged map
  pub map-merged : (k : Keeps) (M N : List (Binding T)) (one : IsMapOf cmp code old r M) (two : IsMapOf cmp code old s N) → IsTrieOf cmp code r.bits new root (merged cmp k one.entries two.entries)
      → IsMapOf cmp code new (record { root = root; bits = r.bits }) (map_merged cmp k M N)
  map-merged k M N one two trie = record {
    entries = merged cmp k one.entries two.entries;
    rooted = record { bits = one.rooted.bits; trie = trie };
    pairs = merged-pairs cmp (form_at new) k one.entries M two.entries N (pairs-kept (form_at old) (form_at new) (forms-kept old new more) one.entries M one.pairs)
        (pairs-kept (form_at old) (form_at new) (forms-kept old new more) two.entries N two.pairs);
  }

-- the roots of two maps or sets, as they were taken
module _ {T : Type 0} (cmp : T → T → Ordering) (code : T → ℕ) (old : Heap T) (a b : Root) (same : a.bits ≡ b.bits) (roots : Roots) (are : roots ≡ record { a = a.root; b = b.root; bits = a.bits }) where
  pub first-trie : (E : List (Entry T)) → HasEntries cmp code old a E → IsTrieOf cmp code roots.bits old roots.a E
  first-trie E has = subst (λ (r : Roots). IsTrieOf cmp code r.bits old r.a E) (sym are) has.trie

  pub second-trie : (D : List (Entry T)) → HasEntries cmp code old b D → IsTrieOf cmp code roots.bits old roots.b D
  second-trie D has = subst (λ (r : Roots). IsTrieOf cmp code r.bits old r.b D) (sym are) (subst (λ n. IsTrieOf cmp code n old b.root D) (sym same) has.trie)

  pub roots-bits : (E : List (Entry T)) → HasEntries cmp code old a E → roots.bits ≤ CODE_BITS
  roots-bits E has = subst (λ (r : Roots). r.bits ≤ CODE_BITS) (sym are) has.bits

  pub need-as : (k : Keeps) → merge_need cmp code k old roots.bits roots.a roots.b ≡ merge_need cmp code k old a.bits a.root b.root
  need-as k = ap (λ (r : Roots). merge_need cmp code k old r.bits r.a r.b) are

  pub apart-first : (rows : List ℕ) → HasApart (form_at old) a.root b.root rows → HasApart (form_at old) roots.a roots.b rows
  apart-first rows has = subst (λ (r : Roots). HasApart (form_at old) r.a r.b rows) (sym are) has

  pub apart-second : (rows : List ℕ) → HasApart (form_at old) b.root a.root rows → HasApart (form_at old) roots.b roots.a rows
  apart-second rows has = subst (λ (r : Roots). HasApart (form_at old) r.b r.a rows) (sym are) has

  pub roots-one : a.root ≡ b.root → roots.a ≡ roots.b
  roots-one one = subst (λ (r : Roots). r.a ≡ r.b) (sym are) one

  module _ (new : Heap T) (made : Root) (l bits : ℕ) (is : made ≡ record { root = l; bits = bits }) (by_bits : bits ≡ a.bits) where
    abbrev whole : Root
    whole = record { root = l; bits = a.bits }

    made-whole : made ≡ whole
    made-whole = is ∙ ap (λ n. let r : Root = record { root = l; bits = n } in r) by_bits

    trie-as : (E : List (Entry T)) → IsTrieOf cmp code roots.bits new l E → IsTrieOf cmp code a.bits new l E
    trie-as E trie = subst (λ (r : Roots). IsTrieOf cmp code r.bits new l E) are trie

    pub set-answer : Extends old new → (k : Keeps) (E D : List (Entry T)) → IsSetOf cmp code old a E → IsSetOf cmp code old b D → IsTrieOf cmp code roots.bits new l (merged cmp k E D) → IsSetOf cmp code new made (merged cmp k E D)
    set-answer more k E D one two trie = subst (λ r. IsSetOf cmp code new r (merged cmp k E D)) (sym made-whole) (set-merged cmp code more a b l k E D one two (trie-as (merged cmp k E D) trie))

    pub entries-answer : (k : Keeps) (E D : List (Entry T)) → HasEntries cmp code old a E → IsTrieOf cmp code roots.bits new l (merged cmp k E D) → HasEntries cmp code new made (merged cmp k E D)
    entries-answer k E D one trie = subst (λ r. HasEntries cmp code new r (merged cmp k E D)) (sym made-whole) (record { bits = one.bits; trie = trie-as (merged cmp k E D) trie })

    pub map-answer : Extends old new → (k : Keeps) (M N : List (Binding T)) (one : IsMapOf cmp code old a M) (two : IsMapOf cmp code old b N) → IsTrieOf cmp code roots.bits new l (merged cmp k one.entries two.entries) → IsMapOf cmp code new made (map_merged cmp k M N)
    map-answer more k M N one two trie =
        subst (λ r. IsMapOf cmp code new r (map_merged cmp k M N)) (sym made-whole) (map-merged cmp code more a b l k M N one two (trie-as (merged cmp k one.entries two.entries) trie))

    pub bits-answer : made.bits ≡ a.bits
    bits-answer = ap (λ (r : Root). r.bits) made-whole

    pub answered-answer : (k : Keeps) → Answered old new [] l 0 (merge_need cmp code k old roots.bits roots.a roots.b) → Answered old new [] made.root 0 (merge_need cmp code k old a.bits a.root b.root)
    answered-answer k did =
        subst (λ (r : Root). Answered old new [] r.root 0 (merge_need cmp code k old a.bits a.root b.root)) (sym made-whole) (subst (λ n. Answered old new [] l 0 n) (need-as k) did)

    pub same-there : (l ≡ roots.a) × SameRows old new × Builds old new [] (roots.a ∷ []) 0 0 → (made ≡ a) × SameRows old new × Builds old new [] (a.root ∷ []) 0 0
    same-there did =
        let root : l ≡ a.root = did.0 ∙ ap (λ (r : Roots). r.a) are in
        (made-whole ∙ ap (λ j. let r : Root = record { root = j; bits = a.bits } in r) root, did.1, subst (λ j. Builds old new [] (j ∷ []) 0 0) (ap (λ (r : Roots). r.a) are) did.2)

    pub same-answer : {E : Type 0} → ((let this : Result ℕ E = Ok l in this) ≡ Ok roots.a) × SameRows old new × Builds old new [] (roots.a ∷ []) 0 0 → ((let this : Result Root E = Ok made in this) ≡ Ok a) × SameRows old new × Builds old new [] (a.root ∷ []) 0 0
    same-answer {E} did =
        let at : l ≡ roots.a = (let both = did.0 in cc) in
        let is = same-there (at, did.1, did.2) in
        (ap (λ r. Ok r) is.0, is.1, is.2)

pub pairs-long : {T : Type 0} {cmp : T → T → Ordering} {code : T → ℕ} {h : Heap T} {r : Root} (M : List (Binding T)) (is : IsMapOf cmp code h r M) → length is.entries ≡ length M
pairs-long {h = h} M is = zip-length (IsPair (form_at h)) is.entries M is.pairs
