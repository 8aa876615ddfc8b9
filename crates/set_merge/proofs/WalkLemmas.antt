-- What a walk keeps and makes: at one position, and at all of them.
use Rattle.std.proofs.Common.{◌≡◌, ◌≢◌, ℕ, zero, suc, ◌+◌, ◌<◌, ◌≤◌, List, [], ◌∷◌, ◌++◌, map, length, refl, ap, sym, subst, ◌∙◌, arith, Bool, true, false, cond, Option, Some, None, IsSome, inl, inr, ◌⊎◌, length-append, ◌||◌}
use Rattle.std.specs.Prelude.{nat_eq}
use Rattle.std.specs.Ordering.{is_eq}
use Rattle.std.specs.Cmp.{IsTotalOrder, Equal-is}
use Rattle.std.specs.declared.cmp.Ordering.{Ordering}
use Rattle.std.specs.declared.cmp.Ordering.TheVariants.{Equal}
use Rattle.std.proofs.lemmas.Bool.{cases_eq, cases_Bool, eq-eqb, ne_eqb}
use Rattle.elem_core.specs.declared.codes.TheConstants.{LEVELS, DEEPEST}
use Rattle.node_heap.specs.Links.{count}
use Rattle.node_heap.specs.Forms.{Forms}
use Rattle.node_heap.specs.Heap.{Heap, form_at, row_at, holds_at, IsGraph}
use Rattle.node_heap.specs.Calls.{Builds}
use Rattle.node_heap.proofs.Counts.{test_other}
use Rattle.node_heap.proofs.BuildLemmas.{Builds-refl, Builds-both, Builds-then, Builds-more, count-one, count-append}
use Rattle.champ_chain.specs.Entry.{Entry, entry, IsEntry, key_at, SameSet, same_through}
use Rattle.champ_chain.specs.Chain.{IsChain}
use Rattle.champ_chain.proofs.SetLemmas.{Among, same-sym, same-among}
use Rattle.champ_chain.proofs.FrameLemmas.{KeepsForms, key-kept, form-live, forms-kept}
use Rattle.champ_chain.proofs.CopyLemmas.{key-live}
use Rattle.champ_chain.proofs.SpotLemmas.{first-row}
use Rattle.elem_core.specs.Codes.{digit_at}
use Rattle.champ_trie.specs.Bits.{has}
use Rattle.champ_trie.proofs.PlaceLemmas.{place-empty}
use Rattle.champ_trie.specs.Trie.{AreSets, IsTrie, IsPlace, part, links_at_place}
use Rattle.champ_trie.specs.declared.place.Place.{Place}
use Rattle.champ_trie.specs.declared.place.Place.TheVariants.{Empty, Entry as At, Node}
use Rattle.champ_trie.proofs.WalkLemmas.{trie-walk, trie-entries}
use Rattle.champ_trie.proofs.CanonLemmas.{same-lift}
use Rattle.champ_trie.proofs.PartLemmas.{place-kept, row-kept, part-distinct}
use Rattle.champ_trie.proofs.LeftLemmas.{chain-place}
use Rattle.set_merge.specs.declared.keeps.Keeps.{Keeps}
use Rattle.set_merge.specs.declared.side.Side.{Side}
use Rattle.set_merge.specs.declared.spread.Spread.{Spread}
use Rattle.set_merge.specs.declared.merged.Merged.{Merged}
use Rattle.set_merge.specs.declared.merged.Merged.TheVariants.{Old, New}
use Rattle.set_merge.specs.Side.{has_place, place_in, lone_place, place_below, IsKept, HasRow, IsSide, same_key, settled_entries, settled}
use Rattle.set_merge.specs.Merge.{merged}
use Rattle.set_merge.specs.Need.{sum_below, need_unless, chains_need, rows_need}
use Rattle.set_merge.specs.Spread.{place_merged, new_links, old_links, is_new, standing, IsBlank, WantsRow, IsUnchanged, Closed}
use Rattle.set_merge.specs.Walk.{HasBelow, AreSides, ArePlaces, place_need, position_need, IsCome, IsSpread}
use Rattle.set_merge.proofs.MergeLemmas.{merged-first, merged-second, merged-same, merged-equal, merged-differ, part-merged}
use Rattle.set_merge.proofs.NeedLemmas.{below-place, place-has}
use Rattle.set_merge.proofs.SpreadLemmas.{link-there, same-stands, node-two, row-stands, lone-stands, lone-two}

pub or-false : (a b : Bool) → (a || b) ≡ false → (a ≡ false) × (b ≡ false)
or-false true b is = absurd cc
or-false false b is = (refl, is)

module _ {K : Type 0} (cmp : K → K → Ordering) (code : K → ℕ) where
  -- an entry of a place that stands for entries has a key
  pub place-keyed : (F : Forms K) (C : ℕ → List (Entry K) → Type 0) (q : Place) (P : List (Entry K)) → IsPlace F C q P → IsKept F q
  place-keyed F C Empty P is = tt
  place-keyed F C (At x) P is = subst (λ o. IsSome o) (sym is.2) refl
  place-keyed F C (Node l) P is = tt

  pub has-keyed : (F : Forms K) (left depth : ℕ) (a : Place) (E : List (Entry K)) → HasBelow cmp code F left depth a E → IsKept F a
  has-keyed F left depth Empty E has = tt
  has-keyed F left depth (At x) E has = subst (λ o. IsSome o) (sym has.2) refl
  has-keyed F left depth (Node l) E has = tt

  pub has-row : (F : Forms K) (left depth : ℕ) (a : Place) (E : List (Entry K)) → HasBelow cmp code F (suc left) depth a E → HasRow F depth a
  unfolding IsTrie
  has-row F left depth Empty E has = tt
  has-row F left depth (At x) E has = tt
  has-row F left depth (Node l) E has = (has.entries, has.nodes, has.links, has.row)

  -- where a side has nothing, nothing stands below the place
  pub below-none : (F : Forms K) (depth : ℕ) (a : Place) (side : Side) (p : ℕ) → IsSide code F depth a side → has_place side p ≡ false → place_below code F depth a p ≡ Empty
  below-none F depth Empty side p is none = refl
  below-none F depth (At x) side p is none =
      let off : nat_eq (digit_at (code is.0) depth) p ≡ false = sym (ap (λ s. has_place s p) is.2) ∙ none in
      ap (λ o. lone_place code depth x o p) is.1 ∙ ap (λ b. cond b (At x) Empty) off
  below-none F depth (Node l) side p is none =
      let off = or-false (has is.0 p) (has is.1 p) (sym (ap (λ s. has_place s p) is.4) ∙ none) in
      ap (λ f. place_in f p) is.3.row ∙ place-empty is.0 is.1 is.2 p off.0 off.1

  module _ (F G : Forms K) (keeps : KeepsForms F G) where
    key-same : (x : ℕ) → IsSome (key_at F x) → key_at F x ≡ key_at G x
    key-same x some = by_key (key_at F x) refl some
      where
        by_key : (o : Option K) → key_at F x ≡ o → IsSome o → key_at F x ≡ key_at G x
        by_key None is none = absurd cc
        by_key (Some key) is one = is ∙ sym (key-kept F G keeps x key is)

    pub keyed-kept : (q : Place) → IsKept F q → IsKept G q
    keyed-kept Empty kept = tt
    keyed-kept (At x) kept = subst (λ o. IsSome o) (key-same x kept) kept
    keyed-kept (Node l) kept = tt

    pub has-row-kept : (depth : ℕ) (a : Place) → HasRow F depth a → HasRow G depth a
    has-row-kept depth Empty has = tt
    has-row-kept depth (At x) has = tt
    has-row-kept depth (Node l) has = (has.0, has.1, has.2, row-kept cmp code F G keeps l depth has.0 has.1 has.2 has.3)

    pub side-kept : (depth : ℕ) (a : Place) (side : Side) → IsSide code F depth a side → IsSide code G depth a side
    side-kept depth Empty side is = is
    side-kept depth (At x) side is = (is.0, key-kept F G keeps x is.0 is.1, is.2)
    side-kept depth (Node l) side is = (is.0, is.1, is.2, row-kept cmp code F G keeps l depth is.0 is.1 is.2 is.3, is.4)

    -- the same stands below a place, and is settled
    pub below-kept : (left depth : ℕ) (a : Place) (E : List (Entry K)) → HasBelow cmp code F (suc left) depth a E → (p : ℕ) → place_below code F depth a p ≡ place_below code G depth a p
    unfolding IsTrie
    below-kept left depth Empty E has p = refl
    below-kept left depth (At x) E has p = ap (λ o. lone_place code depth x o p) (has.2 ∙ sym (key-kept F G keeps x has.0 has.2))
    below-kept left depth (Node l) E has p = ap (λ r. place_in r p) (has.row.row ∙ sym (keeps.kept l _ has.row.row))

    pub settled-kept : (k : Keeps) (a b : Place) → IsKept F a → IsKept F b → settled cmp F k a b ≡ settled cmp G k a b
    settled-kept k Empty b one two = refl
    settled-kept k (At x) Empty one two = refl
    settled-kept k (At x) (At y) one two =
        ap (λ o. settled_entries cmp k (same_key cmp o (key_at F y)) x y) (key-same x one) ∙ ap (λ o. settled_entries cmp k (same_key cmp (key_at G x) o) x y) (key-same y two)
    settled-kept k (At x) (Node m) one two = refl
    settled-kept k (Node l) Empty one two = refl
    settled-kept k (Node l) (At y) one two = refl
    settled-kept k (Node l) (Node m) one two = refl

  module _ (F : Forms K) where
    -- a trie has one set of entries
    link-keys : (E D : List (Entry K)) → map (λ e. e.link) E ≡ map (λ e. e.link) D → ((e : Entry K) → Among e E → IsEntry F e) → ((e : Entry K) → Among e D → IsEntry F e) → E ≡ D
    link-keys [] [] same are are' = refl
    link-keys [] (d ∷ ds) same are are' = absurd cc
    link-keys (e ∷ es) [] same are are' = absurd cc
    link-keys (e ∷ es) (d ∷ ds) same are are' =
        let link : e.link ≡ d.link = cc in
        let rest : map (λ e. e.link) es ≡ map (λ e. e.link) ds = cc in
        let key : e.key ≡ d.key = (let both : Some e.key ≡ Some d.key = sym (are e (inl refl)) ∙ ap (key_at F) link ∙ are' d (inl refl) in cc) in
        ap (λ k. entry k e.link ∷ es) key ∙ ap (λ l. entry d.key l ∷ es) link ∙ ap (λ xs. d ∷ xs) (link-keys es ds rest (λ x i. are x (inr i)) (λ x i. are' x (inr i)))

    pub one-set : (left depth l : ℕ) (E D : List (Entry K)) → IsTrie cmp code F left depth l E → IsTrie cmp code F left depth l D → SameSet E D
    one-set left depth l E D here there =
        let n = length E + length D in
        let first = trie-walk cmp code F left depth l E here (left + n) n (omega arith) (omega arith) in
        let second = trie-walk cmp code F left depth l D there (left + n) n (omega arith) (omega arith) in
        let lift = same-lift (λ (e : Entry K). e.link) E (map (λ e. e.link) E) (map (λ e. e.link) D) refl (same_through _ _ _ (same-sym _ _ first) second) in
        let is = link-keys lift.0 D lift.2 (λ e i. trie-entries cmp code F left depth l E here e (same-among e lift.0 E (same-sym _ _ lift.1) i)) (trie-entries cmp code F left depth l D there) in
        subst (SameSet E) is lift.1

    -- what is settled stands for the merged entries
    module _ (o : IsTotalOrder cmp) (k : Keeps) (left depth : ℕ) where
      abbrev Stands : Place → List (Entry K) → Type 0
      Stands q P = IsPlace F (λ l P. IsTrie cmp code F left depth l P) q P

      kept-if : (b : Bool) (q : Place) (P : List (Entry K)) → Stands q P → Stands (cond b q Empty) (cond b P [])
      kept-if true q P is = is
      kept-if false q P is = refl

      of-two : (f s : Bool) (e d : Entry K) (q : Place) → IsEntry F e → IsEntry F d → cond f (cond s None (Some (At e.link))) (Some (cond s (At d.link) Empty)) ≡ Some q → Stands q (cond f (e ∷ []) [] ++ cond s (d ∷ []) [])
      of-two true true e d q one two is = absurd cc
      of-two true false e d q one two is = subst (λ r. Stands r (e ∷ [])) (let same : At e.link ≡ q = cc in same) (e.key, refl, one)
      of-two false true e d q one two is = subst (λ r. Stands r (d ∷ [])) (let same : At d.link ≡ q = cc in same) (d.key, refl, two)
      of-two false false e d q one two is = subst (λ r. Stands r []) (let same : Empty ≡ q = cc in same) refl

      of-entries : (e d : Entry K) (q : Place) → IsEntry F e → IsEntry F d → settled_entries cmp k (is_eq (cmp e.key d.key)) e.link d.link ≡ Some q → Stands q (merged cmp k (e ∷ []) (d ∷ []))
      of-entries e d q one two is = elim (cases_Bool (is_eq (cmp e.key d.key))) [
        | inl equal ↦
            (let all : cond k.both (At e.link) Empty ≡ q = (let both : Some (cond k.both (At e.link) Empty) ≡ Some q = sym (ap (λ b. settled_entries cmp k b e.link d.link) equal) ∙ is in cc) in
            subst (λ r. Stands r (merged cmp k (e ∷ []) (d ∷ []))) all
            (subst (Stands (cond k.both (At e.link) Empty)) (sym (merged-equal cmp o k e d ((Equal-is (cmp e.key d.key)).0 equal))) (kept-if k.both (At e.link) (e ∷ []) (e.key, refl, one))))
        | inr differ ↦
            subst (Stands q) (sym (merged-differ cmp o k e d (λ equal. (let bad : true ≡ false = sym ((Equal-is (cmp e.key d.key)).1 equal) ∙ differ in cc))))
            (of-two k.first k.second e d q one two (sym (ap (λ b. settled_entries cmp k b e.link d.link) differ) ∙ is))
      ]

      pub settled-stands : (a b q : Place) (E D : List (Entry K)) → Stands a E → Stands b D → settled cmp F k a b ≡ Some q → Stands q (merged cmp k E D)
      settled-stands Empty b q E D one two is =
          let same : cond k.second b Empty ≡ q = cc in
          subst (λ r. Stands r (merged cmp k E D)) same (subst (Stands (cond k.second b Empty)) (sym (ap (λ X. merged cmp k X D) one ∙ merged-second cmp k D)) (kept-if k.second b D two))
      settled-stands (At x) Empty q E D one two is =
          let same : cond k.first (At x) Empty ≡ q = cc in
          subst (λ r. Stands r (merged cmp k E D)) same (subst (Stands (cond k.first (At x) Empty)) (sym (ap (λ X. merged cmp k E X) two ∙ merged-first cmp k E)) (kept-if k.first (At x) E one))
      settled-stands (At x) (At y) q E D one two is =
          let keys : same_key cmp (key_at F x) (key_at F y) ≡ is_eq (cmp one.0 two.0) = ap (λ o. same_key cmp o (key_at F y)) one.2 ∙ ap (λ o. same_key cmp (Some one.0) o) two.2 in
          subst (Stands q) (sym (ap (λ X. merged cmp k X D) one.1 ∙ ap (λ X. merged cmp k (entry one.0 x ∷ []) X) two.1))
          (of-entries (entry one.0 x) (entry two.0 y) q one.2 two.2 (sym (ap (λ b. settled_entries cmp k b x y) keys) ∙ is))
      settled-stands (At x) (Node m) q E D one two is = absurd cc
      settled-stands (Node l) Empty q E D one two is =
          let same : cond k.first (Node l) Empty ≡ q = cc in
          subst (λ r. Stands r (merged cmp k E D)) same (subst (Stands (cond k.first (Node l) Empty)) (sym (ap (λ X. merged cmp k E X) two ∙ merged-first cmp k E)) (kept-if k.first (Node l) E one))
      settled-stands (Node l) (At y) q E D one two is = absurd cc
      settled-stands (Node l) (Node m) q E D one two is = by_case (cases_eq l m)
        where
          by_case : (l ≡ m) ⊎ (l ≢ m) → Stands q (merged cmp k E D)
          by_case (inl same) =
              let whole : Some (cond k.both (Node l) Empty) ≡ Some q = sym (ap (λ b. cond b (Some (cond k.both (Node l) Empty)) None) (eq-eqb l m same)) ∙ is in
              let at : cond k.both (Node l) Empty ≡ q = cc in
              subst (λ r. Stands r (merged cmp k E D)) at
              (subst (Stands (cond k.both (Node l) Empty)) (sym (merged-same cmp o k E D (one-set left depth l E D one.1 (subst (λ j. IsTrie cmp code F left depth j D) (sym same) two.1)))) (kept-if k.both (Node l) E one))
          by_case (inr other) = absurd (let bad : None ≡ Some q = sym (ap (λ b. cond b (Some (cond k.both (Node l) Empty)) None) (ne_eqb l m other)) ∙ is in cc)

-- a sum of fewer numbers, and one more
pub sum-within : (f : ℕ → ℕ) (m n : ℕ) → m < n → sum_below m f + f m ≤ sum_below n f
unfolding sum_below
sum-within f m zero low = absurd (omega (arith, low))
sum-within f m (suc n) low = by_case (cases_eq m n) (sum-within f m n)
  where
    by_case : (m ≡ n) ⊎ (m ≢ n) → (m < n → sum_below m f + f m ≤ sum_below n f) → sum_below m f + f m ≤ sum_below n f + f n
    by_case (inl same) again = subst (λ i. sum_below m f + f m ≤ sum_below i f + f i) same (omega arith)
    by_case (inr other) again = omega (arith, again (omega (arith, low, other)))

pub sum-none : (f : ℕ → ℕ) → sum_below 0 f ≡ 0
unfolding sum_below
sum-none f = refl

pub sum-next : (f : ℕ → ℕ) (n : ℕ) → sum_below (suc n) f ≡ sum_below n f + f n
unfolding sum_below
sum-next f n = refl

-- one position more
pub record Puts (s t : Spread) (n : ℕ) (x y : Place) (m : Merged) : Type 0 where
  pub sets : AreSets t.row.entries t.row.nodes t.row.links
  pub here : standing t n ≡ place_merged m
  pub others : (p : ℕ) → p < 32 → p ≢ n → standing t p ≡ standing s p
  pub links : (l : ℕ) → count l t.row.links ≡ count l s.row.links + count l (links_at_place (place_merged m))
  pub stood : t.stood ≡ s.stood ++ old_links m
  pub made : t.made ≡ (s.made || is_new m)
  pub as_first : t.as_first ≡ true → (s.as_first ≡ true) × (place_merged m ≡ x)
  pub as_second : t.as_second ≡ true → (s.as_second ≡ true) × (place_merged m ≡ y)

-- what came is held or stood before
merged-links : (m : Merged) (l : ℕ) → count l (old_links m) + count l (new_links m) ≡ count l (links_at_place (place_merged m))
merged-links (Old q) l = omega arith
merged-links (New j) l = omega arith

merged-few : (m : Merged) → length (old_links m) + length (new_links m) ≤ 1
merged-few (Old Empty) = omega arith
merged-few (Old (At x)) = omega arith
merged-few (Old (Node j)) = omega arith
merged-few (New j) = omega arith

or-true : (a b : Bool) → (a || b) ≡ true → (a ≡ true) ⊎ (b ≡ true)
or-true true b is = inl refl
or-true false b is = inr is

not-new : (m : Merged) → is_new m ≡ false → new_links m ≡ []
not-new (Old q) is = refl
not-new (New j) is = absurd cc

new-node : (m : Merged) → is_new m ≡ true → (l : ℕ) × (place_merged m ≡ Node l)
new-node (Old q) is = absurd cc
new-node (New j) is = (j, refl)

module _ {K : Type 0} (cmp : K → K → Ordering) (code : K → ℕ) (most : ℕ) (F : Forms K) (k : Keeps) where
  -- what two places need, opened
  pub need-none : (depth : ℕ) (a b : Place) → rows_need cmp code most F k 0 depth a b ≡ chains_need most F a b
  unfolding rows_need
  need-none depth a b = refl

  pub need-more : (left depth : ℕ) (a b : Place) → rows_need cmp code most F k (suc left) depth a b ≡ 1 + sum_below 32 (position_need cmp code most F k left depth a b)
  unfolding rows_need
  need-more left depth a b = refl

module _ {T : Type 0} where
  -- the link at a place that stands for entries is live
  place-live : (cmp : T → T → Ordering) (code : T → ℕ) (h : Heap T) (left depth : ℕ) (q : Place) (P : List (Entry T)) → IsPlace (form_at h) (λ l P. IsTrie cmp code (form_at h) left depth l P) q P
      → (l : ℕ) → 0 < count l (links_at_place q) → IsSome (row_at h l)
  unfolding IsTrie
  place-live cmp code h left depth Empty P is l some = absurd (omega (arith, some))
  place-live cmp code h left depth (At x) P is l some = by_case (cases_eq l x)
    where
      by_case : (l ≡ x) ⊎ (l ≢ x) → IsSome (row_at h l)
      by_case (inl same) = subst (λ j. IsSome (row_at h j)) (sym same) (key-live h x is.0 is.2)
      by_case (inr other) = absurd (omega (arith, some, count-one l x, test_other l x other))
  place-live cmp code h zero depth (Node j) P is l some = by_case (cases_eq l j)
    where
      by_case : (l ≡ j) ⊎ (l ≢ j) → IsSome (row_at h l)
      by_case (inl same) = subst (λ j. IsSome (row_at h j)) (sym same) (form-live h j _ (first-row (form_at h) j is.1.entries is.1.rows).row)
      by_case (inr other) = absurd (omega (arith, some, count-one l j, test_other l j other))
  place-live cmp code h (suc left) depth (Node j) P is l some = by_case (cases_eq l j)
    where
      by_case : (l ≡ j) ⊎ (l ≢ j) → IsSome (row_at h l)
      by_case (inl same) = subst (λ j. IsSome (row_at h j)) (sym same) (form-live h j _ is.1.row.row)
      by_case (inr other) = absurd (omega (arith, some, count-one l j, test_other l j other))

  module _ (cmp : T → T → Ordering) (code : T → ℕ) (most : ℕ) (k : Keeps) (F : Forms T) where
    -- what a spread of all positions keeps for its closing
    module _ (old now : Heap T) (left depth : ℕ) (a b : Place) (M : List (Entry T)) (s : Spread) (is : IsSpread cmp code most k F old now left depth a b M s 32) where
      pub spread-live : (l : ℕ) → 0 < count l s.stood → IsSome (row_at now l)
      spread-live l some =
          let found = link-there s.row.entries s.row.nodes s.row.links is.sets l (omega (arith, some, is.counted l)) in
          place-live cmp code now left (suc depth) (standing s found.0) (part cmp code depth found.0 M) (is.places found.0 found.1) l found.2

      pub spread-held : (l : ℕ) → count l s.row.links ≤ holds_at now l + count l s.stood
      spread-held l = omega (arith, is.counted l, is.builds.holds l)

    -- nothing at any position
    pub spread-none : (h : Heap T) (left depth : ℕ) (a b : Place) (M : List (Entry T)) (s : Spread) → IsGraph h → IsBlank s → IsSpread cmp code most k F h h left depth a b M s 0
    spread-none h left depth a b M s graph blank = record {
      sets = blank.sets;
      places = λ p low. absurd (omega (arith, low));
      rest = λ p high small. blank.places p;
      news = [];
      builds = Builds-refl h [] 0 _ graph;
      counted = λ l. omega (arith, ap (count l) blank.stood, ap (count l) blank.links);
      few = omega (arith, ap length blank.stood);
      unmade = λ un. refl;
      made = λ is. absurd (let bad : false ≡ true = sym blank.made ∙ is in cc);
      as_first = λ is p low. absurd (omega (arith, low));
      as_second = λ is p low. absurd (omega (arith, low));
    }

    module _ (old now new : Heap T) (left depth : ℕ) (a b : Place) (M : List (Entry T)) (s t : Spread) (n : ℕ) (m : Merged) (low : n < 32)
        (is : IsSpread cmp code most k F old now left depth a b M s n) (keeps : KeepsForms (form_at now) (form_at new))
        (come : IsCome cmp code most k F now new left depth (place_below code F depth a n) (place_below code F depth b n) (part cmp code depth n M) m)
        (puts : Puts s t n (place_below code F depth a n) (place_below code F depth b n) m) where
      there : (p : ℕ) → p < n → standing t p ≡ standing s p
      there p small = puts.others p (omega (arith, small, low)) (λ same. omega (arith, same, small))

      at-all : (P : ℕ → Type 0) → ((p : ℕ) → p < n → P p) → P n → (p : ℕ) → p < suc n → P p
      at-all P before at p small = by_case (cases_eq p n)
        where
          by_case : (p ≡ n) ⊎ (p ≢ n) → P p
          by_case (inl same) = subst P (sym same) at
          by_case (inr other) = before p (omega (arith, small, other))

      abbrev news' : List ℕ
      news' = is.news ++ new_links m

      pub spread-more : IsSpread cmp code most k F old new left depth a b M t (suc n)
      spread-more = record {
        sets = puts.sets;
        places = at-all (λ p. IsPlace (form_at new) (λ l P. IsTrie cmp code (form_at new) left (suc depth) l P) (standing t p) (part cmp code depth p M))
            (λ p small. subst (λ q. IsPlace (form_at new) (λ l P. IsTrie cmp code (form_at new) left (suc depth) l P) q (part cmp code depth p M)) (sym (there p small))
            (place-kept cmp code (form_at now) (form_at new) keeps left (suc depth) (standing s p) (part cmp code depth p M) (is.places p small)))
            (subst (λ q. IsPlace (form_at new) (λ l P. IsTrie cmp code (form_at new) left (suc depth) l P) q (part cmp code depth n M)) (sym puts.here) come.place);
        rest = λ p high small. puts.others p small (λ same. omega (arith, same, high)) ∙ is.rest p (omega (arith, high)) small;
        news = news';
        builds = Builds-more 0 _ (Builds-both [] news' is.builds come.builds (λ l. omega (arith, count-append l is.news (new_links m))) (omega (arith, length-append is.news (new_links m)))) (omega arith) (omega (arith, sum-next (position_need cmp code most F k left depth a b) n));
        counted = λ l. omega (
          arith,
          is.counted l,
          ap (count l) puts.stood,
          count-append l s.stood (old_links m),
          count-append l is.news (new_links m),
          merged-links m l,
          puts.links l,
        );
        few = omega (arith, is.few, merged-few m, ap length puts.stood, length-append s.stood (old_links m), length-append is.news (new_links m));
        unmade = λ un. (let none = or-false s.made (is_new m) (sym puts.made ∙ un) in ap (λ xs. xs ++ new_links m) (is.unmade none.0) ∙ not-new m none.1);
        made = λ some. by_made (or-true s.made (is_new m) (sym puts.made ∙ some));
        as_first = λ is_so. (let both = puts.as_first is_so in at-all (λ p. standing t p ≡ place_below code F depth a p) (λ p small. there p small ∙ is.as_first both.0 p small) (puts.here ∙ both.1));
        as_second = λ is_so. (let both = puts.as_second is_so in at-all (λ p. standing t p ≡ place_below code F depth b p) (λ p small. there p small ∙ is.as_second both.0 p small) (puts.here ∙ both.1));
      }
        where
          by_made : (s.made ≡ true) ⊎ (is_new m ≡ true) → (p : ℕ) × (l : ℕ) × (p < suc n) × (standing t p ≡ Node l)
          by_made (inl some) = (let at = is.made some in (at.0, at.1, omega (arith, at.2), there at.0 at.2 ∙ at.3))
          by_made (inr new) = (let at = new-node m new in (n, at.0, omega arith, puts.here ∙ at.1))

    -- what comes at a position that is settled
    module _ (h : Heap T) (keeps : KeepsForms F (form_at h)) (left depth : ℕ) (x y : Place) (E D : List (Entry T)) (are : ArePlaces cmp code F left depth x y E D) where
      abbrev G : Forms T
      G = form_at h

      pub first-keyed : IsKept G x
      first-keyed = keyed-kept cmp code F G keeps x (place-keyed cmp code F _ x E are.first)

      pub second-keyed : IsKept G y
      second-keyed = keyed-kept cmp code F G keeps y (place-keyed cmp code F _ y D are.second)

      settled-same : settled cmp F k x y ≡ settled cmp G k x y
      settled-same = settled-kept cmp code F G keeps k x y (place-keyed cmp code F _ x E are.first) (place-keyed cmp code F _ y D are.second)

      pub need-open : settled cmp G k x y ≡ None → place_need cmp code most F k left depth x y ≡ rows_need cmp code most F k left (suc depth) x y
      need-open look = ap (λ o. need_unless o (λ _. rows_need cmp code most F k left (suc depth) x y)) (settled-same ∙ look)

      pub come-settled : IsTotalOrder cmp → IsGraph h → (q : Place) → settled cmp G k x y ≡ Some q → IsCome cmp code most k F h h left depth x y (merged cmp k E D) (Old q)
      come-settled o graph q at = record {
        builds = Builds-refl h [] 0 _ graph;
        place = settled-stands cmp code G o k left (suc depth) x y q E D (place-kept cmp code F G keeps left (suc depth) x E are.first) (place-kept cmp code F G keeps left (suc depth) y D are.second) at;
      }

      -- the same as chains
      pub no-left : depth ≡ DEEPEST → left ≡ 0
      no-left deep = omega (arith, are.levels, deep)

      pub chain-sides : depth ≡ DEEPEST → AreSides cmp code F 0 LEVELS x y E D
      chain-sides deep =
          let none = no-left deep in
          let low : suc depth ≡ LEVELS = omega (arith, deep) in
          let at : (q : Place) (P : List (Entry T)) → IsPlace F (λ l P. IsTrie cmp code F left (suc depth) l P) q P → HasBelow cmp code F 0 LEVELS q P =
          λ q P is. subst (λ d. HasBelow cmp code F 0 d q P) low (subst (λ n. HasBelow cmp code F n (suc depth) q P) none (place-has cmp code F left (suc depth) q P is)) in
          record { levels = omega arith; first = at x E are.first; second = at y D are.second; distinct = are.distinct; other_distinct = are.other_distinct }

      pub chain-need : depth ≡ DEEPEST → settled cmp G k x y ≡ None → place_need cmp code most F k left depth x y ≡ chains_need most F x y
      chain-need deep look = need-open look ∙ ap (λ n. rows_need cmp code most F k n (suc depth) x y) (no-left deep) ∙ need-none cmp code most F k (suc depth) x y

      pub come-chain : (new : Heap T) (m : Merged) → depth ≡ DEEPEST → settled cmp G k x y ≡ None → Builds h new [] (new_links m) 0 (chains_need most F x y)
          → IsPlace (form_at new) (λ l P. IsChain cmp (form_at new) l P) (place_merged m) (merged cmp k E D) → IsCome cmp code most k F h new left depth x y (merged cmp k E D) m
      come-chain new m deep look builds place = record {
        builds = Builds-more 0 _ builds (omega arith) (omega (arith, chain-need deep look));
        place = chain-place cmp code (form_at new) left (suc depth) (place_merged m) (merged cmp k E D) (no-left deep) place;
      }

      -- the same one depth further
      module _ (n : ℕ) (more : left ≡ suc n) where
        pub below-sides : (d : ℕ) → d ≡ suc depth → AreSides cmp code F (suc n) d x y E D
        below-sides d down =
            let at : (q : Place) (P : List (Entry T)) → IsPlace F (λ l P. IsTrie cmp code F left (suc depth) l P) q P → HasBelow cmp code F (suc n) d q P =
            λ q P is. subst (λ e. HasBelow cmp code F (suc n) e q P) (sym down) (subst (λ i. HasBelow cmp code F i (suc depth) q P) more (place-has cmp code F left (suc depth) q P is)) in
            record { levels = omega (arith, are.levels, more, down); first = at x E are.first; second = at y D are.second; distinct = are.distinct; other_distinct = are.other_distinct }

        pub below-need : (d : ℕ) → d ≡ suc depth → settled cmp G k x y ≡ None → place_need cmp code most F k left depth x y ≡ rows_need cmp code most F k (suc n) d x y
        below-need d down look = need-open look ∙ ap (λ i. rows_need cmp code most F k i (suc depth) x y) more ∙ ap (λ e. rows_need cmp code most F k (suc n) e x y) (sym down)

        pub more-need : (d : ℕ) → d ≡ suc depth → settled cmp G k x y ≡ None → place_need cmp code most F k left depth x y ≡ 1 + sum_below 32 (position_need cmp code most F k n d x y)
        more-need d down look = below-need d down look ∙ need-more cmp code most F k n d x y

        module _ (mid new : Heap T) (s : Spread) (over : KeepsForms (form_at h) (form_at mid)) (later : KeepsForms (form_at mid) (form_at new))
            (is : IsSpread cmp code most k F h mid n (suc depth) x y (merged cmp k E D) s 32) where
          abbrev M : List (Entry T)
          M = merged cmp k E D

          abbrev H : Forms T
          H = form_at mid

          at-mid : KeepsForms F H
          at-mid = record { kept = λ l f there. over.kept l f (keeps.kept l f there) }

          abbrev StandsIn : Forms T → Place → List (Entry T) → Type 0
          StandsIn I r P = IsPlace I (λ l P. IsTrie cmp code I (suc n) (suc depth) l P) r P

          abbrev q : ℕ → Place
          q p = standing s p

          unchanged-as : (a : Place) (P : List (Entry T)) → IsPlace F (λ l P. IsTrie cmp code F left (suc depth) l P) a P → ((p : ℕ) → p < 32 → q p ≡ place_below code F (suc depth) a p) → StandsIn H a M
          unchanged-as a P at same =
              let here : StandsIn F a P = subst (λ i. IsPlace F (λ l P. IsTrie cmp code F i (suc depth) l P) a P) more at in
              same-stands cmp code H n (suc depth) a P M q (place-kept cmp code F H at-mid (suc n) (suc depth) a P here) is.places
              (λ p low. same p low ∙ below-kept cmp code F H at-mid n (suc depth) a P (place-has cmp code F (suc n) (suc depth) a P here) p)

          unchanged : (place : Place) → IsUnchanged s x y place → StandsIn H place M
          unchanged place (inl first) = subst (λ r. StandsIn H r M) (sym first.1) (unchanged-as x E are.first (is.as_first first.0))
          unchanged place (inr (inl second)) = subst (λ r. StandsIn H r M) (sym second.1) (unchanged-as y D are.second (is.as_second second.0))
          unchanged place (inr (inr only)) = lone-stands cmp code H n (suc depth) s.row.entries s.row.nodes s.row.links M is.sets is.places (λ l P. IsTrie cmp code H (suc n) (suc depth) l P) place only

          some-more : WantsRow s → 2 ≤ length M
          some-more (inl some) = (let at = is.made some in node-two cmp code H n (suc depth) q M is.places at.0 at.1 at.2 at.3)
          some-more (inr none) = lone-two cmp code H n (suc depth) s.row.entries s.row.nodes s.row.links M is.sets is.places none.2

          pub come-closed : (m : Merged) → settled cmp G k x y ≡ None → Closed mid new s (suc depth) x y m → IsCome cmp code most k F h new left depth x y M m
          come-closed (Old place) look closed = record {
            builds = Builds-more 0 _ (subst (λ i. Builds h i [] [] 0 (sum_below 32 (position_need cmp code most F k n (suc depth) x y))) (sym closed.0)
                (subst (λ xs. Builds h mid [] xs 0 (sum_below 32 (position_need cmp code most F k n (suc depth) x y))) (is.unmade closed.1) is.builds)) (omega arith) (omega (arith, more-need (suc depth) refl look));
            place = subst (λ i. IsPlace (form_at new) (λ l P. IsTrie cmp code (form_at new) i (suc depth) l P) place M) (sym more) (place-kept cmp code H (form_at new) later (suc n) (suc depth) place M (unchanged place closed.2));
          }
          come-closed (New l) look made = record {
            builds = Builds-more 0 _ (Builds-then is.builds (made.builds is.news is.counted)) (omega arith) (omega (arith, more-need (suc depth) refl look));
            place = (
              some-more made.more,
              subst (λ i. IsTrie cmp code (form_at new) i (suc depth) l M) (sym more)
                  (row-stands cmp code (form_at new) n (suc depth) q M (λ p low. place-kept cmp code H (form_at new) later n (suc (suc depth)) (q p) (part cmp code (suc depth) p M) (is.places p low))
                  l s.row.entries s.row.nodes s.row.links made.row (λ p low. refl)),
            );
          }

-- what a closed spread keeps
module _ {T : Type 0} where
  pub closed-kept : (mid new : Heap T) (s : Spread) (d : ℕ) (x y : Place) (m : Merged) (news : List ℕ) → ((l : ℕ) → count l s.stood + count l news ≡ count l s.row.links) → Closed mid new s d x y m → KeepsForms (form_at mid) (form_at new)
  closed-kept mid new s d x y (Old place) news counted closed = subst (λ i. KeepsForms (form_at mid) (form_at i)) (sym closed.0) (record { kept = λ l f is. is })
  closed-kept mid new s d x y (New l) news counted made = forms-kept mid new (made.builds news counted).extends

-- what stands at a position of two places, and what it needs
module _ {K : Type 0} (cmp : K → K → Ordering) (code : K → ℕ) (F : Forms K) (left depth : ℕ) (a b : Place) (E D : List (Entry K)) (are : AreSides cmp code F (suc left) depth a b E D) where
  pub places-at : (p : ℕ) → p < 32 → (x y : Place) → x ≡ place_below code F depth a p → y ≡ place_below code F depth b p → ArePlaces cmp code F left depth x y (part cmp code depth p E) (part cmp code depth p D)
  places-at p low x y first second = record {
    levels = are.levels;
    first = subst (λ q. IsPlace F (λ l P. IsTrie cmp code F left (suc depth) l P) q (part cmp code depth p E)) (sym first) (below-place cmp code F left depth a E are.first p low);
    second = subst (λ q. IsPlace F (λ l P. IsTrie cmp code F left (suc depth) l P) q (part cmp code depth p D)) (sym second) (below-place cmp code F left depth b D are.second p low);
    distinct = part-distinct cmp code depth p E are.distinct;
    other_distinct = part-distinct cmp code depth p D are.other_distinct;
  }

  pub need-left : (most : ℕ) (k : Keeps) (p spare left_spare : ℕ) (x y : Place) → p < 32 → x ≡ place_below code F depth a p → y ≡ place_below code F depth b p
      → rows_need cmp code most F k (suc left) depth a b ≤ spare + 1 → spare ≤ left_spare + sum_below p (position_need cmp code most F k left depth a b) → place_need cmp code most F k left depth x y ≤ left_spare
  need-left most k p spare left_spare x y low first second few spent =
      let at : place_need cmp code most F k left depth x y ≡ position_need cmp code most F k left depth a b p =
      ap (λ q. place_need cmp code most F k left depth q y) first ∙ ap (place_need cmp code most F k left depth (place_below code F depth a p)) second in
      omega (arith, at, few, spent, need-more cmp code most F k left depth a b, sum-within (position_need cmp code most F k left depth a b) p 32 low)

  -- a side is the place in more forms
  module _ (G H : Forms K) (first : KeepsForms F G) (then : KeepsForms G H) where
    both : KeepsForms F H
    both = record { kept = λ l f is. then.kept l f (first.kept l f is) }

    pub side-first : (side : Side) → IsSide code G depth a side → IsSide code H depth a side
    side-first side is = side-kept cmp code G H then depth a side is

    pub side-second : (side : Side) → IsSide code G depth b side → IsSide code H depth b side
    side-second side is = side-kept cmp code G H then depth b side is

    pub at-first : (p : ℕ) → place_below code H depth a p ≡ place_below code F depth a p
    at-first p = sym (below-kept cmp code F H both left depth a E are.first p)

    pub at-second : (p : ℕ) → place_below code H depth b p ≡ place_below code F depth b p
    at-second p = sym (below-kept cmp code F H both left depth b D are.second p)

module _ {T : Type 0} (cmp : T → T → Ordering) (code : T → ℕ) (most : ℕ) (k : Keeps) (F : Forms T) (old now new : Heap T) (left depth : ℕ) (a b : Place) (M P : List (Entry T)) (s t : Spread) (n : ℕ) (m : Merged) (low : n < 32)
    (is : IsSpread cmp code most k F old now left depth a b M s n) where
  pub spread-step : (x y : Place) → x ≡ place_below code F depth a n → y ≡ place_below code F depth b n → IsCome cmp code most k F now new left depth x y P m → part cmp code depth n M ≡ P
      → Puts s t n x y m → IsSpread cmp code most k F old new left depth a b M t (n + 1)
  spread-step x y first second come part_is puts =
      let more : suc n ≡ n + 1 = omega arith in
      let come' = subst (λ Q. IsCome cmp code most k F now new left depth (place_below code F depth a n) (place_below code F depth b n) Q m) (sym part_is)
      (subst (λ q. IsCome cmp code most k F now new left depth (place_below code F depth a n) q P m) second (subst (λ q. IsCome cmp code most k F now new left depth q y P m) first come)) in
      let puts' = subst (λ q. Puts s t n (place_below code F depth a n) q m) second (subst (λ q. Puts s t n q y m) first puts) in
      subst (λ i. IsSpread cmp code most k F old new left depth a b M t i) more
      (spread-more cmp code most k F old now new left depth a b M s t n m low is (forms-kept now new come.builds.extends) come' puts')

-- one position at which nothing stands
module _ {T : Type 0} (cmp : T → T → Ordering) (o : IsTotalOrder cmp) (code : T → ℕ) (most : ℕ) (k : Keeps) (F : Forms T) (old now : Heap T) (left depth : ℕ) (a b : Place) (E D : List (Entry T)) (s : Spread) (n : ℕ) (low : n < 32)
    (is : IsSpread cmp code most k F old now left depth a b (merged cmp k E D) s n) where
  kept-none : (b : Bool) → cond b Empty Empty ≡ Empty
  kept-none true = refl
  kept-none false = refl

  append-none : (xs : List ℕ) → xs ++ [] ≡ xs
  append-none [] = refl
  append-none (x ∷ xs) = ap (λ ys. x ∷ ys) (append-none xs)

  or-none : (c : Bool) → c ≡ (c || false)
  or-none true = refl
  or-none false = refl

  pub spread-skip : AreSides cmp code F (suc left) depth a b E D → KeepsForms F (form_at now) → ((j k : T) → cmp j k ≡ Equal → code j ≡ code k) → IsGraph now
      → place_below code F depth a n ≡ Empty → place_below code F depth b n ≡ Empty → IsSpread cmp code most k F old now left depth a b (merged cmp k E D) s (n + 1)
  spread-skip are keeps agree graph first second =
      let parts = places-at cmp code F left depth a b E D are n low Empty Empty (sym first) (sym second) in
      let settle : settled cmp (form_at now) k Empty Empty ≡ Some Empty = ap Some (kept-none k.second) in
      let come = come-settled cmp code most k F now keeps left depth Empty Empty (part cmp code depth n E) (part cmp code depth n D) parts o graph Empty settle in
      spread-step cmp code most k F old now now left depth a b (merged cmp k E D) (merged cmp k (part cmp code depth n E) (part cmp code depth n D)) s s n (Old Empty) low is Empty Empty (sym first) (sym second) come
      (part-merged cmp code agree k depth n E D)
      (record {
        sets = is.sets;
        here = is.rest n (omega arith) low;
        others = λ p small other. refl;
        links = λ l. omega arith;
        stood = sym (append-none s.stood);
        made = or-none s.made;
        as_first = λ so. (so, refl);
        as_second = λ so. (so, refl);
      })

-- where one has nothing, nothing is needed
pub need-skip : {K : Type 0} (cmp : K → K → Ordering) (code : K → ℕ) (most : ℕ) (F : Forms K) (k : Keeps) (left depth : ℕ) (a b : Place) (p : ℕ)
    → (place_below code F depth a p ≡ Empty) ⊎ (place_below code F depth b p ≡ Empty) → position_need cmp code most F k left depth a b p ≡ 0
need-skip cmp code most F k left depth a b p one = elim one [
  | inl first ↦ ap (λ q. place_need cmp code most F k left depth q (place_below code F depth b p)) first
  | inr second ↦ (ap (λ q. place_need cmp code most F k left depth (place_below code F depth a p) q) second ∙ first-alone (place_below code F depth a p))
]
  where
    first-alone : (x : Place) → place_need cmp code most F k left depth x Empty ≡ 0
    first-alone Empty = refl
    first-alone (At x) = refl
    first-alone (Node l) = refl
