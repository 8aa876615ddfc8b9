-- Sets by their roots.
use Rattle.std.proofs.Common.{◌≡◌, ◌≢◌, ℕ, get_or, ◌+◌, ◌≤◌, Bool, true, false, not, cond, List, [], ◌∷◌, map, length, Result, Ok, Err, Option, Some, None, refl, ap, sym, ◌∙◌, subst, arith}
use Rattle.std.specs.Prelude.{filter_map, option_map, unwrap_or, count_by, IsSome, is_some, ◌||◌, IfSome, IfNone, IsTrue, MatchOption, sum_by, sum}
use Rattle.std.specs.List.{All, cons_option}
use Rattle.std.specs.Ordering.{eq_by_cmp}
use Rattle.std.specs.Cmp.{IsTotalOrder}
use Rattle.std.specs.declared.cmp.Ordering.{Ordering}
use Rattle.std.proofs.lemmas.List.{length-map}
use Rattle.std.proofs.lemmas.List.Elements.{All-nil, All-cons, All-head, All-tail}
use Rattle.elem_core.specs.declared.codes.TheConstants.{CODE_BITS, LEVELS}
use Rattle.node_heap.specs.Forms.{Row, cell, node, form_of, value_of}
use Rattle.node_heap.specs.Heap.{Heap, row_at, form_at, holds_at, hold_count, one_at, live_count}
use Rattle.node_heap.specs.Calls.{Answered}
use Rattle.champ_chain.specs.Entry.{Entry, SameSet, same_none, same_first, same_turned, same_through, has_key, entry, link_with, others}
use Rattle.champ_chain.proofs.SetLemmas.{same-refl, same-sym, same-length}
use Rattle.champ_trie.specs.Trie.{code_by}
use Rattle.champ_trie.specs.Walk.{walk, depth_of}
use Rattle.champ_trie.proofs.WalkLemmas.{trie-walk, canon-fit}
use Rattle.champ_kinds.specs.Root.{Root}
use Rattle.champ_kinds.specs.Kinds.{IsKeyCell, HasEntries, IsSetOf}
use Rattle.champ_kinds.proofs.StayLemmas.{container-stays, set-live}
use Rattle.std.specs.FinMap.{get}
use Rattle.versions.specs.Store.{Versions}
use Rattle.versions.specs.Roots.{IsKind, Makes, HasRoots, values_in, root_of, root_at}
use Rattle.versions.specs.Rooted.{value_at}
use Rattle.versions.specs.Sorted.{sorted_keys, has, remove_key}
use Rattle.std.specs.BTreeSet.{insert_key}
use Rattle.std.specs.List as list
use Rattle.std.specs.List.{filter}
use Rattle.std.specs.List.Sorted.{IsStrictlySortedBy}
use Rattle.champ_kinds.specs.Laws.{KeepsContainers}
use Rattle.champ_kinds.proofs.ZipLemmas.{all-turned}
use Rattle.champ_kinds.proofs.PairLemmas.{link-none, others-none}
use Rattle.versions.specs.Keyed.{by_root, keys_at, IsKeySet}
use Rattle.versions.proofs.MadeLemmas.{stays-extended, value-at}
use Rattle.versions.proofs.SortLemmas.{same-sorted, sorted-same, count-map, there-sorted, cut-sorted, has-sorted, sorted-rise}

-- what is read of links in any order
pub same-filter_map : {X Y : Type 0} (f : X → Option Y) (xs ys : List X) → SameSet xs ys → SameSet (filter_map f xs) (filter_map f ys)
same-filter_map f _ _ same_none = same_none
same-filter_map f _ _ (same_first x xs ys s) = first (f x) (same-filter_map f xs ys s)
  where
    first : (o : Option _) → SameSet (filter_map f xs) (filter_map f ys) → SameSet (cons_option o (filter_map f xs)) (cons_option o (filter_map f ys))
    first None rest = rest
    first (Some y) rest = same_first y _ _ rest
same-filter_map f _ _ (same_turned x y xs) = turned (f x) (f y)
  where
    turned : (o p : Option _) → SameSet (cons_option o (cons_option p (filter_map f xs))) (cons_option p (cons_option o (filter_map f xs)))
    turned None p = same-refl _
    turned (Some a) None = same-refl _
    turned (Some a) (Some b) = same_turned a b _
same-filter_map f _ _ (same_through xs ys zs s t) = same_through _ _ _ (same-filter_map f xs ys s) (same-filter_map f ys zs t)

pub form-value : {T : Type 0} (r : Option (Row T)) → value_of (option_map form_of r) ≡ value_of r
form-value None = refl
form-value (Some (cell x)) = refl
form-value (Some (node head links)) = refl

-- a root of a version stands for its value
pub seen-value : {T X : Type 0} (Is : Heap T → ℕ → List X → Type 0) (read : Heap T → ℕ → List X) (h : Heap T) (roots : List (Option ℕ)) (v l : ℕ) {had : Versions (List X)} → HasRoots Is read h roots → values_in read h roots ≡ had → root_of roots v ≡ Some l → Is h l (unwrap_or (get had v) [])
seen-value Is read h roots v l {had} has seen at = subst (Is h l) (sym (ap (λ o. unwrap_or o []) (value-at read h roots v had seen l at))) (has.stands v l at)

-- a store without versions
pub no-roots : {T V : Type 0} (Is : Heap T → ℕ → V → Type 0) (read : Heap T → ℕ → V) (h : Heap T) (roots : List (Option ℕ)) → roots ≡ [] → h.holds ≡ [] → HasRoots Is read h roots
no-roots Is read h roots none unheld = record {
  stands = λ v l at. absurd (let bad = sym (ap (λ r. root_of r v) none) ∙ at in cc);
  holds = record {
    holds = λ k. ap (λ hs. get_or hs k 0) unheld ∙ sym (ap (sum_by (root_at k)) none);
    count = ap sum unheld ∙ sym (ap (count_by is_some) none);
    few = omega (arith, ap (count_by is_some) none);
  };
}

-- a call that spends nothing makes what its root stands for
pub answered-makes : {T V : Type 0} (Is : Heap T → ℕ → V → Type 0) (read : Heap T → ℕ → V) → IsKind Is read → (old new : Heap T) (l c n : ℕ) (x : V) → Answered old new [] l c n → Is new l x → Makes Is old new l x
answered-makes Is read kind old new l c n x answered is = record {
  is = is;
  keeps = stays-extended Is read kind old new answered.extends;
  holds = λ k. let here : holds_at new k + 0 ≡ holds_at old k + one_at l k = answered.holds k in omega (arith, here);
  count = let all : hold_count new + 0 ≡ hold_count old + 1 = answered.count in omega (arith, all);
}

-- the links of a trie's entries
pub walk-links : {T : Type 0} (cmp : T → T → Ordering) → IsTotalOrder cmp → (code : T → ℕ) (h : Heap T) (l : ℕ) (E : List (Entry T)) → HasEntries cmp code h (by_root l) E → SameSet (walk h l) (map (λ e. e.link) E)
walk-links cmp o code h l E has =
    trie-walk cmp (code_by code CODE_BITS) (form_at h) LEVELS 0 l E has.trie.trie (depth_of h) (live_count h) (canon-fit cmp (code_by code CODE_BITS) o h l E has.trie) (omega arith)

module _ {K : Type 0} (cmp : K → K → Ordering) (o : IsTotalOrder cmp) (code : K → ℕ) where
  cell-values : (h : Heap K) (E : List (Entry K)) → All (IsKeyCell (form_at h)) E → filter_map (value_at h) (map (λ e. e.link) E) ≡ map (λ e. e.key) E
  cell-values h [] cells = refl
  cell-values h (e ∷ E) cells =
      let here : value_at h e.link ≡ Some e.key = sym (form-value (row_at h e.link)) ∙ ap value_of (All-head (IsKeyCell (form_at h)) e E cells) in
      (λ i. cons_option (here i) (cell-values h E (All-tail (IsKeyCell (form_at h)) e E cells) i))

  pub keys-once : (h : Heap K) (r : Root) (E : List (Entry K)) → HasEntries cmp code h r E → (q : K) → count_by (eq_by_cmp cmp q) (map (λ e. e.key) E) ≤ 1
  keys-once h r E has q = omega (arith, has.trie.distinct.once q, count-map (eq_by_cmp cmp q) (λ (e : Entry K). e.key) E)

  set-one : (h : Heap K) (l : ℕ) (ks : List K) → IsKeySet cmp code h l ks → keys_at cmp h l ≡ ks
  set-one h l ks is =
      let links = same-filter_map (value_at h) _ _ (walk-links cmp o code h l is.entries is.set.rooted) in
      let keys : SameSet (filter_map (value_at h) (walk h l)) (map (λ e. e.key) is.entries) = subst (λ xs. SameSet (filter_map (value_at h) (walk h l)) xs) (cell-values h is.entries is.set.cells) links in
      sym (same-sorted cmp o _ _ (same-sym _ _ keys) (keys-once h (by_root l) is.entries is.set.rooted)) ∙ sym is.sorted

  -- the keys that are read of a root rise
  pub keys-at-rise : (h : Heap K) (l : ℕ) → IsStrictlySortedBy cmp (keys_at cmp h l)
  keys-at-rise h l = sorted-rise cmp o (filter_map (value_at h) (walk h l))

  pub set-kind : IsKind (IsKeySet cmp code) (keys_at cmp)
  set-kind = record {
    one = set-one;
    live = λ h l ks is. set-live h (by_root l) l refl is.set;
    stays = λ old new l ks keeps is. record { entries = is.entries; set = (container-stays old new (by_root l) keeps).set cmp code is.entries is.set; sorted = is.sorted };
  }

-- a root by all bits
pub root-at : (r : Root) → r.bits ≡ CODE_BITS → by_root r.root ≡ r
root-at r bits = λ i. record { root = r.root; bits = sym bits i }

module _ {K : Type 0} (cmp : K → K → Ordering) where
  pub has-link : (q : K) (E : List (Entry K)) → has cmp q (map (λ e. e.key) E) ≡ is_some (link_with cmp q E)
  has-link q [] = refl
  has-link q (e ∷ E) = elim (eq_by_cmp cmp q e.key) as (λ b. (b || has cmp q (map (λ d. d.key) E)) ≡ is_some (option_map (λ (d : Entry K). d.link) (cond b (Some e) (list.find (has_key cmp q) E)))) [ true ↦ refl | false ↦ has-link q E ]

  keys-other : (q : K) (E : List (Entry K)) → map (λ e. e.key) (others cmp q E) ≡ filter (λ k. not (eq_by_cmp cmp q k)) (map (λ e. e.key) E)
  keys-other q [] = refl
  keys-other q (e ∷ E) = elim (not (eq_by_cmp cmp q e.key)) as (λ b. map (λ d. d.key) (cond b (e ∷ others cmp q E) (others cmp q E)) ≡ cond b (e.key ∷ filter (λ k. not (eq_by_cmp cmp q k)) (map (λ d. d.key) E)) (filter (λ k. not (eq_by_cmp cmp q k)) (map (λ d. d.key) E))) [
    | true ↦ ap (λ ks. e.key ∷ ks) (keys-other q E)
    | false ↦ keys-other q E
  ]

  module _ (o : IsTotalOrder cmp) (code : K → ℕ) where
    pub set-none : (h : Heap K) (r : Root) → r.bits ≡ CODE_BITS → IsSetOf cmp code h r [] → IsKeySet cmp code h r.root []
    set-none h r bits is = record { entries = []; set = subst (λ (q : Root). IsSetOf cmp code h q []) (sym (root-at r bits)) is; sorted = refl }

    -- a set with a key
    pub set-with : (old new : Heap K) (l : ℕ) (r : Root) (key : K) (ks : List K) (is : IsKeySet cmp code old l ks) → r.bits ≡ CODE_BITS → KeepsContainers old new → (link_with cmp key is.entries ≡ None → (x : ℕ) × IsSetOf cmp code new r (entry key x ∷ is.entries)) → (link_with cmp key is.entries ≢ None → r ≡ by_root l) → IsKeySet cmp code new r.root (insert_key cmp ks key)
    set-with old new l r key ks is bits keeps added present = by_link (link_with cmp key is.entries) refl
      where
        by_link : (x : Option ℕ) → link_with cmp key is.entries ≡ x → IsKeySet cmp code new r.root (insert_key cmp ks key)
        by_link None none =
            let made = added none in
            record {
              entries = entry key made.0 ∷ is.entries;
              set = subst (λ (q : Root). IsSetOf cmp code new q (entry key made.0 ∷ is.entries)) (sym (root-at r bits)) made.1;
              sorted = ap (λ js. insert_key cmp js key) is.sorted;
            }
        by_link (Some x) some =
            let same : r ≡ by_root l = present (λ none. absurd (let bad = sym some ∙ none in cc)) in
            record {
              entries = is.entries;
              set = subst (λ (q : Root). IsSetOf cmp code new q is.entries) (sym same ∙ sym (root-at r bits)) ((keeps (by_root l)).set cmp code is.entries is.set);
              sorted = ap (λ js. insert_key cmp js key) is.sorted ∙ there-sorted cmp o key (map (λ e. e.key) is.entries) (has-link key is.entries ∙ ap is_some some);
            }

    -- a set without a key
    pub set-without : (old new : Heap K) (l : ℕ) (r : Root) (key : K) (ks : List K) (is : IsKeySet cmp code old l ks) → r.bits ≡ CODE_BITS → IsSetOf cmp code new r (others cmp key is.entries) → IsKeySet cmp code new r.root (remove_key cmp ks key)
    set-without old new l r key ks is bits left = record {
      entries = others cmp key is.entries;
      set = subst (λ (q : Root). IsSetOf cmp code new q (others cmp key is.entries)) (sym (root-at r bits)) left;
      sorted = ap (λ js. remove_key cmp js key) is.sorted ∙ sym (cut-sorted cmp o key (map (λ e. e.key) is.entries)) ∙ ap (sorted_keys cmp) (sym (keys-other key is.entries));
    }

    -- a set that hasn't the key
    pub set-lacks : (h : Heap K) (l : ℕ) (key : K) (ks : List K) (is : IsKeySet cmp code h l ks) → link_with cmp key is.entries ≡ None → remove_key cmp ks key ≡ ks
    set-lacks h l key ks is none =
        ap (λ js. remove_key cmp js key) is.sorted ∙ sym (cut-sorted cmp o key (map (λ e. e.key) is.entries)) ∙ ap (sorted_keys cmp) (sym (keys-other key is.entries) ∙ ap (map (λ e. e.key)) (others-none cmp key is.entries (link-none cmp key is.entries none))) ∙ sym is.sorted

    pub set-has : (h : Heap K) (l : ℕ) (key : K) (ks : List K) (is : IsKeySet cmp code h l ks) → is_some (link_with cmp key is.entries) ≡ has cmp key ks
    set-has h l key ks is = sym (has-link key is.entries) ∙ sym (has-sorted cmp o key (map (λ e. e.key) is.entries)) ∙ ap (has cmp key) (sym is.sorted)

    pub set-same : (h : Heap K) (l : ℕ) (ks : List K) (is : IsKeySet cmp code h l ks) → SameSet ks (map (λ e. e.key) is.entries)
    set-same h l ks is = subst (λ js. SameSet js (map (λ e. e.key) is.entries)) (sym is.sorted) (sorted-same cmp o (map (λ e. e.key) is.entries) (keys-once cmp o code h (by_root l) is.entries is.set.rooted))

    pub set-count : (h : Heap K) (l : ℕ) (ks : List K) (is : IsKeySet cmp code h l ks) → length is.entries ≡ length ks
    set-count h l ks is = sym (same-length ks _ (set-same h l ks is) ∙ length-map is.entries (λ e. e.key))

    -- what is read of the links of a set's cells in any order
    pub set-read : (h : Heap K) (l : ℕ) (ks : List K) (is : IsKeySet cmp code h l ks) (links : List ℕ) → SameSet links (map (λ e. e.link) is.entries) → SameSet (filter_map (value_at h) links) ks
    set-read h l ks is links same =
        let read = subst (λ xs. SameSet (filter_map (value_at h) links) xs) (cell-values cmp o code h is.entries is.set.cells) (same-filter_map (value_at h) links _ same) in
        same_through _ _ _ read (same-sym _ _ (set-same h l ks is))

    some-cells : (h : Heap K) (E : List (Entry K)) → All (IsKeyCell (form_at h)) E → All (λ z. IsSome (value_at h z)) (map (λ e. e.link) E)
    some-cells h [] cells = All-nil (λ z. IsSome (value_at h z))
    some-cells h (e ∷ E) cells =
        All-cons (λ z. IsSome (value_at h z)) e.link (map (λ d. d.link) E) (ap is_some (sym (form-value (row_at h e.link)) ∙ ap value_of (All-head (IsKeyCell (form_at h)) e E cells))) (some-cells h E (All-tail (IsKeyCell (form_at h)) e E cells))

    pub set-some : (h : Heap K) (l : ℕ) (ks : List K) (is : IsKeySet cmp code h l ks) (links : List ℕ) → SameSet links (map (λ e. e.link) is.entries) → All (λ z. IsSome (value_at h z)) links
    set-some h l ks is links same = all-turned (λ z. IsSome (value_at h z)) _ _ (same-sym _ _ same) (some-cells h is.entries is.set.cells)

pub ok-same : {A E : Type 0} {x y : A} → ◌≡◌ {A = Result A E} (Ok x) (Ok y) → x ≡ y
ok-same {x = x} is = ap (λ r. or x r) is
  where
    or : {A E : Type 0} → A → Result A E → A
    or d (Ok z) = z
    or d (Err e) = d

pub if-some : {A : Type 0} (P : A → Type 0) {r : Option A} {x : A} → r ≡ Some x → IfSome r P → P x
if-some P is got = subst (λ r. IfSome r P) is got

pub if-none : {A P : Type 0} {r : Option A} → r ≡ None → IfNone r P → P
if-none {P = P} is got = subst (λ r. IfNone r P) is got

-- an iterator that gives nothing has nothing left
pub none-first : {A : Type 0} (xs rest : List A) (r : Option A) (b : Bool) → MatchOption r ((xs ≡ []) × (rest ≡ [])) (λ x. xs ≡ x ∷ rest) → is_some r ≡ not b → (IsTrue b → xs ≡ []) × (xs ≡ [] → IsTrue b)
none-first xs rest None true steps is = (λ _. steps.0, λ _. refl)
none-first xs rest None false steps is = absurd (let bad = is in cc)
none-first xs rest (Some x) true steps is = absurd (let bad = is in cc)
none-first xs rest (Some x) false steps is = (λ e. absurd (let bad = e in cc), λ e. absurd (let bad = sym steps ∙ e in cc))
