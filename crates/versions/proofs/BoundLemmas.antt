-- Maps by their roots.
use Rattle.std.proofs.Common.{◌≡◌, ℕ, ◌+◌, true, false, not, cond, List, [], ◌∷◌, map, length, Option, Some, None, refl, ap, sym, ◌∙◌, subst, arith}
use Rattle.std.specs.Prelude.{T, filter_map, option_map, unwrap_or, count_by, is_some, IsSome}
use Rattle.std.specs.List as list
use Rattle.std.specs.List.{All, AllZip, cons_option}
use Rattle.std.specs.Ordering.{eq_by_cmp, is_eq, ordering_reverse}
use Rattle.std.specs.Cmp.{IsTotalOrder}
use Rattle.std.specs.FinMap.{find, is_sorted, put}
use Rattle.std.specs.declared.cmp.Ordering.{Ordering}
use Rattle.std.specs.declared.cmp.Ordering.TheVariants.{Less, Equal}
use Rattle.std.proofs.lemmas.List.Elements.{All-cons, All-head, All-nil, All-tail}
use Rattle.node_heap.specs.Forms.{cell, value_of, links_of}
use Rattle.node_heap.specs.Heap.{Heap, row_at, form_at, links_at, holds_at, hold_count, one_at}
use Rattle.node_heap.specs.Calls.{Adds, Answered, KeepsBelow, Extends, Unchanged}
use Rattle.node_heap.proofs.Frames.{Extends-row, Extends-trans}
use Rattle.node_heap.proofs.BuildLemmas.{count-one}
use Rattle.champ_chain.specs.Entry.{Entry, SameSet, same_through}
use Rattle.champ_chain.proofs.FrameLemmas.{links-form}
use Rattle.champ_chain.proofs.SetLemmas.{same-sym, same-length}
use Rattle.champ_trie.specs.Trie.{IsTrieOf}
use Rattle.champ_trie.specs.Walk.{walk}
use Rattle.elem_core.specs.declared.codes.TheConstants.{CODE_BITS}
use Rattle.champ_kinds.specs.Root.{Root}
use Rattle.champ_kinds.proofs.ZipLemmas.{all-turned, zip-length}
use Rattle.champ_kinds.specs.Binding.{Binding, binds, bind, unbind, kept_key, value_with}
use Rattle.champ_kinds.specs.Kinds.{ArePairLinks, IsPair, IsMapOf}
use Rattle.champ_kinds.proofs.StayLemmas.{container-stays, map-live, map-reaches}
use Rattle.versions.specs.declared.piece.Piece.{Piece}
use Rattle.versions.specs.declared.piece.Piece.TheVariants.{Key, Value}
use Rattle.versions.specs.Roots.{IsKind, Makes}
use Rattle.versions.specs.Rooted.{value_at}
use Rattle.versions.specs.Sorted.{by_keys, remove_entry}
use Rattle.versions.specs.Keyed.{by_root}
use Rattle.versions.specs.Pieces.{piece_code, piece_value, piece_order, entry_of, entry_in, entry_at, IsPieceOrder}
use Rattle.versions.specs.Bound.{map_at, IsBoundTo, IsKeyMap}
use Rattle.versions.proofs.MadeLemmas.{stays-extended}
use Rattle.versions.proofs.MakingLemmas.{value-live}
use Rattle.versions.proofs.KeyedLemmas.{same-filter_map, form-value, walk-links, root-at}
use Rattle.versions.proofs.SortLemmas.{AreOnce, other_keys, kept, one-if, count-first, find-by_keys, same-by_keys, bound-by_keys, cut-by_keys, by_keys-same, all-others, sorted-by_keys}

module _ {K V : Type 0} (cmp : K → K → Ordering) (value_cmp : V → V → Ordering) (h : Heap (Piece K V)) where
  abbrev pub order : Piece K V → Piece K V → Ordering
  order = piece_order cmp value_cmp

  -- a test for a key is that of the entry's key
  binds-key : (key : K) (b : Binding (Piece K V)) (e : K × V) → IsBoundTo cmp h b e → binds order (Key key) b ≡ eq_by_cmp cmp key e.0
  binds-key key b e is = ap (λ x. is_eq (order (Key key) x)) is.key

  -- a key is bound to the cell of its value
  pub value-found : (key : K) (M : List (Binding (Piece K V))) (es : List (K × V)) → AllZip (IsBoundTo cmp h) M es → option_map (λ l. value_at h l) (value_with order (Key key) M) ≡ option_map (λ v. Some (Value v)) (find cmp key es)
  value-found key [] [] zip = refl
  value-found key [] (e ∷ es) zip = absurd zip
  value-found key (b ∷ M) [] zip = absurd zip
  value-found key (b ∷ M) (e ∷ es) zip =
      ap (λ t. option_map (value_at h) (option_map (λ (c : Binding (Piece K V)). c.value) (cond t (Some b) (list.find (binds order (Key key)) M)))) (binds-key key b e zip.0)
      ∙ elim (eq_by_cmp cmp key e.0) as (λ t. option_map (value_at h) (option_map (λ (c : Binding (Piece K V)). c.value) (cond t (Some b) (list.find (binds order (Key key)) M))) ≡ option_map (λ v. Some (Value v)) (cond t (Some e.1) (find cmp key es))) [
        | true ↦ ap Some zip.0.value
        | false ↦ value-found key M es zip.1
      ]

  -- the bindings of other keys are those of the other entries
  pub zip-others : (key : K) (M : List (Binding (Piece K V))) (es : List (K × V)) → AllZip (IsBoundTo cmp h) M es → AllZip (IsBoundTo cmp h) (unbind order (Key key) M) (other_keys cmp key es)
  zip-others key [] [] zip = tt
  zip-others key [] (e ∷ es) zip = absurd zip
  zip-others key (b ∷ M) [] zip = absurd zip
  zip-others key (b ∷ M) (e ∷ es) zip =
      let rest = zip-others key M es zip.1 in
      subst (λ t. AllZip (IsBoundTo cmp h) (cond (not t) (b ∷ unbind order (Key key) M) (unbind order (Key key) M)) (other_keys cmp key (e ∷ es))) (sym (binds-key key b e zip.0))
      (elim (eq_by_cmp cmp key e.0) as (λ t. AllZip (IsBoundTo cmp h) (cond (not t) (b ∷ unbind order (Key key) M) (unbind order (Key key) M)) (cond (not t) (e ∷ other_keys cmp key es) (other_keys cmp key es))) [
        | true ↦ rest
        | false ↦ (zip.0, rest)
      ])

  -- the key that is there
  pub key-kept : (key : K) (M : List (Binding (Piece K V))) (es : List (K × V)) → AllZip (IsBoundTo cmp h) M es → kept_key order (Key key) M ≡ Key (kept cmp key es)
  key-kept key [] [] zip = refl
  key-kept key [] (e ∷ es) zip = absurd zip
  key-kept key (b ∷ M) [] zip = absurd zip
  key-kept key (b ∷ M) (e ∷ es) zip =
      ap (λ t. unwrap_or (option_map (λ (c : Binding (Piece K V)). c.key) (cond t (Some b) (list.find (binds order (Key key)) M))) (Key key)) (binds-key key b e zip.0)
      ∙ elim (eq_by_cmp cmp key e.0) as (λ t. unwrap_or (option_map (λ (c : Binding (Piece K V)). c.key) (cond t (Some b) (list.find (binds order (Key key)) M))) (Key key) ≡ Key (unwrap_or (option_map (λ d. d.0) (cond t (Some e) (list.find (λ d. eq_by_cmp cmp key d.0) es))) key)) [
        | true ↦ zip.0.key
        | false ↦ key-kept key M es zip.1
      ]

  -- a map with the value at a key
  pub zip-bound : (key : K) (value : V) (l : ℕ) (M : List (Binding (Piece K V))) (es : List (K × V)) → value_at h l ≡ Some (Value value) → AllZip (IsBoundTo cmp h) M es → AllZip (IsBoundTo cmp h) (bind order M (Key key) l) ((kept cmp key es, value) ∷ other_keys cmp key es)
  zip-bound key value l M es at zip = (record { key = key-kept key M es zip; value = at }, zip-others key M es zip)

  -- the entries of a map's pairs
  pub pair-entry : (x : Entry (Piece K V)) (b : Binding (Piece K V)) (e : K × V) → IsPair (form_at h) x b → IsBoundTo cmp h b e → entry_at h x.link ≡ Some e
  pair-entry x b e is bound =
      let links : links_at h x.link ≡ is.key_cell ∷ b.value ∷ [] = sym (links-form h x.link) ∙ ap links_of is.row in
      let key : value_at h is.key_cell ≡ Some (Key e.0) = sym (form-value (row_at h is.key_cell)) ∙ ap value_of is.cell ∙ ap Some (sym is.key ∙ bound.key) in
      ap (entry_in h) links ∙ (λ i. entry_of (key i) (bound.value i))

  pub entries-read : (E : List (Entry (Piece K V))) (M : List (Binding (Piece K V))) (es : List (K × V)) → AllZip (IsPair (form_at h)) E M → AllZip (IsBoundTo cmp h) M es → filter_map (entry_at h) (map (λ x. x.link) E) ≡ es
  entries-read [] [] [] pairs zip = refl
  entries-read [] [] (e ∷ es) pairs zip = absurd zip
  entries-read [] (b ∷ M) es pairs zip = absurd pairs
  entries-read (x ∷ E) [] es pairs zip = absurd pairs
  entries-read (x ∷ E) (b ∷ M) [] pairs zip = absurd zip
  entries-read (x ∷ E) (b ∷ M) (e ∷ es) pairs zip = λ i. cons_option (pair-entry x b e pairs.0 zip.0 i) (entries-read E M es pairs.1 zip.1 i)

  -- no key stands twice
  pub entries-once : (q : K) (E : List (Entry (Piece K V))) (M : List (Binding (Piece K V))) (es : List (K × V)) → AllZip (IsPair (form_at h)) E M → AllZip (IsBoundTo cmp h) M es → count_by (λ x. is_eq (order (Key q) x.key)) E ≡ count_by (λ e. eq_by_cmp cmp q e.0) es
  entries-once q [] [] [] pairs zip = refl
  entries-once q [] [] (e ∷ es) pairs zip = absurd zip
  entries-once q [] (b ∷ M) es pairs zip = absurd pairs
  entries-once q (x ∷ E) [] es pairs zip = absurd pairs
  entries-once q (x ∷ E) (b ∷ M) [] pairs zip = absurd zip
  entries-once q (x ∷ E) (b ∷ M) (e ∷ es) pairs zip =
      let same : is_eq (order (Key q) x.key) ≡ eq_by_cmp cmp q e.0 = ap (λ y. is_eq (order (Key q) y)) (sym pairs.0.key) ∙ binds-key q b e zip.0 in
      omega (arith, count-first (λ (y : Entry (Piece K V)). is_eq (order (Key q) y.key)) x E, count-first (λ (d : K × V). eq_by_cmp cmp q d.0) e es, ap one-if same, entries-once q E M es pairs.1 zip.1)

  some-entries : (E : List (Entry (Piece K V))) (M : List (Binding (Piece K V))) (es : List (K × V)) → AllZip (IsPair (form_at h)) E M → AllZip (IsBoundTo cmp h) M es → All (λ z. IsSome (entry_at h z)) (map (λ x. x.link) E)
  some-entries [] M es pairs zip = All-nil (λ z. IsSome (entry_at h z))
  some-entries (x ∷ E) [] es pairs zip = absurd pairs
  some-entries (x ∷ E) (b ∷ M) [] pairs zip = absurd zip
  some-entries (x ∷ E) (b ∷ M) (e ∷ es) pairs zip = All-cons (λ z. IsSome (entry_at h z)) x.link (map (λ y. y.link) E) (ap is_some (pair-entry x b e pairs.0 zip.0)) (some-entries E M es pairs.1 zip.1)

  -- each link of a map's pairs names an entry
  pub map-some : (links : List ℕ) (M : List (Binding (Piece K V))) (es : List (K × V)) → AllZip (IsBoundTo cmp h) M es → ArePairLinks (form_at h) links M → All (λ z. IsSome (entry_at h z)) links
  map-some links M es zip are = all-turned (λ z. IsSome (entry_at h z)) _ _ (same-sym _ _ are.same) (some-entries are.entries M es are.pairs zip)

-- the order of pieces is total
module _ {K V : Type 0} (cmp : K → K → Ordering) (value_cmp : V → V → Ordering) (o : IsTotalOrder cmp) (p : IsTotalOrder value_cmp) where
  turns : (x y : Piece K V) → piece_order cmp value_cmp x y ≡ ordering_reverse (piece_order cmp value_cmp y x)
  turns (Key a) (Key b) = o.antisymm a b
  turns (Key a) (Value w) = refl
  turns (Value v) (Key b) = refl
  turns (Value v) (Value w) = p.antisymm v w

  goes-on : (x y z : Piece K V) → piece_order cmp value_cmp x y ≡ Less → piece_order cmp value_cmp y z ≡ Less → piece_order cmp value_cmp x z ≡ Less
  goes-on (Key a) (Key b) (Key c) m n = o.trans a b c m n
  goes-on (Key a) y (Value u) m n = refl
  goes-on x (Value w) (Key c) m n = absurd (let bad = n in cc)
  goes-on (Value v) (Key b) z m n = absurd (let bad = m in cc)
  goes-on (Value v) (Value w) (Value u) m n = p.trans v w u m n

  stands-alike : (x y z : Piece K V) → piece_order cmp value_cmp x y ≡ Equal → piece_order cmp value_cmp x z ≡ piece_order cmp value_cmp y z
  stands-alike (Key a) (Key b) (Key c) m = o.congr a b c m
  stands-alike (Key a) (Key b) (Value u) m = refl
  stands-alike (Key a) (Value w) z m = absurd (let bad = m in cc)
  stands-alike (Value v) (Key b) z m = absurd (let bad = m in cc)
  stands-alike (Value v) (Value w) (Key c) m = refl
  stands-alike (Value v) (Value w) (Value u) m = p.congr v w u m

  pub piece-total : IsTotalOrder (piece_order cmp value_cmp)
  piece-total = record { antisymm = turns; trans = goes-on; congr = stands-alike }

  -- what is the order of pieces is this one
  pub order-same : (order : Piece K V → Piece K V → Ordering) → IsPieceOrder order cmp value_cmp → order ≡ piece_order cmp value_cmp
  order-same order is = λ i x y. at x y i
    where
      at : (x y : Piece K V) → order x y ≡ piece_order cmp value_cmp x y
      at (Key a) (Key b) = is.keys a b
      at (Key a) (Value w) = is.before a w
      at (Value v) (Key b) = is.after v b
      at (Value v) (Value w) = is.values v w

module _ {K V : Type 0} (cmp : K → K → Ordering) (value_cmp : V → V → Ordering) (o : IsTotalOrder cmp) (p : IsTotalOrder value_cmp) (code : K → ℕ) where
  pub map-once : (h : Heap (Piece K V)) (l : ℕ) (es : List (K × V)) (is : IsKeyMap cmp value_cmp code h l es) → AreOnce cmp is.entries
  map-once h l es is q = omega (arith, is.stands.rooted.trie.distinct.once (Key q), entries-once cmp value_cmp h q is.stands.entries is.bindings is.entries is.stands.pairs is.bound)

  map-one : (h : Heap (Piece K V)) (l : ℕ) (es : List (K × V)) → IsKeyMap cmp value_cmp code h l es → map_at cmp h l ≡ es
  map-one h l es is =
      let links = same-filter_map (entry_at h) _ _ (walk-links (piece_order cmp value_cmp) (piece-total cmp value_cmp o p) (piece_code code) h l is.stands.entries is.stands.rooted) in
      let entries : SameSet (filter_map (entry_at h) (walk h l)) is.entries = subst (λ xs. SameSet (filter_map (entry_at h) (walk h l)) xs) (entries-read cmp value_cmp h is.stands.entries is.bindings is.entries is.stands.pairs is.bound) links in
      sym (same-by_keys cmp o _ _ (same-sym _ _ entries) (map-once h l es is)) ∙ sym is.sorted

  -- entries stay where the cells of the values do
  pub zip-stays : (old new : Heap (Piece K V)) (M : List (Binding (Piece K V))) (es : List (K × V)) → All (λ b. value_at new b.value ≡ value_at old b.value) M → AllZip (IsBoundTo cmp old) M es → AllZip (IsBoundTo cmp new) M es
  zip-stays old new [] [] all zip = tt
  zip-stays old new [] (e ∷ es) all zip = absurd zip
  zip-stays old new (b ∷ M) [] all zip = absurd zip
  zip-stays old new (b ∷ M) (e ∷ es) all zip =
      let Same = λ (c : Binding (Piece K V)). value_at new c.value ≡ value_at old c.value in
      (record { key = zip.0.key; value = All-head Same b M all ∙ zip.0.value }, zip-stays old new M es (All-tail Same b M all) zip.1)

  map-stays : (old new : Heap (Piece K V)) (l : ℕ) (es : List (K × V)) → KeepsBelow old new l → IsKeyMap cmp value_cmp code old l es → IsKeyMap cmp value_cmp code new l es
  map-stays old new l es keeps is = record {
    bindings = is.bindings;
    stands = (container-stays old new (by_root l) keeps).map (piece_order cmp value_cmp) (piece_code code) is.bindings is.stands;
    entries = is.entries;
    bound = zip-stays old new is.bindings is.entries (λ k d inside. ap value_of (keeps _ (map-reaches (piece_order cmp value_cmp) (piece_code code) old (by_root l) is.bindings is.stands k d inside))) is.bound;
    sorted = is.sorted;
  }

  -- the keys of what is read of a root rise
  pub map-at-rise : (h : Heap (Piece K V)) (l : ℕ) → T (is_sorted cmp (map_at cmp h l))
  map-at-rise h l = sorted-by_keys cmp o (filter_map (entry_at h) (walk h l))

  pub map-kind : IsKind (IsKeyMap cmp value_cmp code) (map_at cmp)
  map-kind = record {
    one = map-one;
    live = λ h l es is. map-live h (by_root l) l refl is.stands;
    stays = map-stays;
  }

  -- a map's bindings are to its entries wherever all below its root is the same
  pub bound-stays : (old new : Heap (Piece K V)) (l : ℕ) (es : List (K × V)) → KeepsBelow old new l → (is : IsKeyMap cmp value_cmp code old l es) → AllZip (IsBoundTo cmp new) is.bindings is.entries
  bound-stays old new l es keeps is = zip-stays old new is.bindings is.entries (λ k d inside. ap value_of (keeps _ (map-reaches (piece_order cmp value_cmp) (piece_code code) old (by_root l) is.bindings is.stands k d inside))) is.bound

  pub map-none : (h : Heap (Piece K V)) (r : Root) → r.bits ≡ CODE_BITS → IsMapOf (piece_order cmp value_cmp) (piece_code code) h r [] → IsKeyMap cmp value_cmp code h r.root []
  map-none h r bits is = record { bindings = []; stands = subst (λ (q : Root). IsMapOf (piece_order cmp value_cmp) (piece_code code) h q []) (sym (root-at r bits)) is; entries = []; bound = tt; sorted = refl }

  -- a map with the value at a key
  pub map-with : (old new : Heap (Piece K V)) (l c : ℕ) (r : Root) (key : K) (value : V) (es : List (K × V)) (is : IsKeyMap cmp value_cmp code old l es) → r.bits ≡ CODE_BITS → Extends old new → value_at old c ≡ Some (Value value)
      → IsMapOf (piece_order cmp value_cmp) (piece_code code) new r (bind (piece_order cmp value_cmp) is.bindings (Key key) c) → IsKeyMap cmp value_cmp code new r.root (put cmp key value es)
  map-with old new l c r key value es is bits extends at made =
      let live : IsSome (row_at old c) = value-live (row_at old c) (Value value) at in
      let there : value_at new c ≡ Some (Value value) = ap value_of (Extends-row extends c live) ∙ at in
      let below = extends.kept l (map-live old (by_root l) l refl is.stands) in
      record {
        bindings = bind (piece_order cmp value_cmp) is.bindings (Key key) c;
        stands = subst (λ (q : Root). IsMapOf (piece_order cmp value_cmp) (piece_code code) new q (bind (piece_order cmp value_cmp) is.bindings (Key key) c)) (sym (root-at r bits)) made;
        entries = (kept cmp key is.entries, value) ∷ other_keys cmp key is.entries;
        bound = zip-bound cmp value_cmp new key value c is.bindings is.entries there (bound-stays old new l es below is);
        sorted = ap (put cmp key value) is.sorted ∙ sym (bound-by_keys cmp o key value is.entries (map-once old l es is));
      }

  -- a map without a key
  pub map-without : (old new : Heap (Piece K V)) (l : ℕ) (r : Root) (key : K) (es : List (K × V)) (is : IsKeyMap cmp value_cmp code old l es) → r.bits ≡ CODE_BITS → Extends old new
      → IsMapOf (piece_order cmp value_cmp) (piece_code code) new r (unbind (piece_order cmp value_cmp) (Key key) is.bindings) → IsKeyMap cmp value_cmp code new r.root (remove_entry cmp es key)
  map-without old new l r key es is bits extends made =
      let below = extends.kept l (map-live old (by_root l) l refl is.stands) in
      record {
        bindings = unbind (piece_order cmp value_cmp) (Key key) is.bindings;
        stands = subst (λ (q : Root). IsMapOf (piece_order cmp value_cmp) (piece_code code) new q (unbind (piece_order cmp value_cmp) (Key key) is.bindings)) (sym (root-at r bits)) made;
        entries = other_keys cmp key is.entries;
        bound = zip-others cmp value_cmp new key is.bindings is.entries (bound-stays old new l es below is);
        sorted = ap (λ ds. remove_entry cmp ds key) is.sorted ∙ sym (cut-by_keys cmp o key is.entries);
      }

  -- what a map has at a key
  pub map-found : (h : Heap (Piece K V)) (l : ℕ) (key : K) (es : List (K × V)) (is : IsKeyMap cmp value_cmp code h l es) → option_map (λ k. value_at h k) (value_with (piece_order cmp value_cmp) (Key key) is.bindings) ≡ option_map (λ v. Some (Value v)) (find cmp key es)
  map-found h l key es is = value-found cmp value_cmp h key is.bindings is.entries is.bound ∙ ap (option_map (λ v. Some (Value v))) (sym (find-by_keys cmp o key is.entries) ∙ ap (find cmp key) (sym is.sorted))

  -- a map that hasn't the key
  pub map-lacks : (h : Heap (Piece K V)) (l : ℕ) (key : K) (es : List (K × V)) (is : IsKeyMap cmp value_cmp code h l es) → value_with (piece_order cmp value_cmp) (Key key) is.bindings ≡ None → remove_entry cmp es key ≡ es
  map-lacks h l key es is none =
      let lost = no-some (find cmp key is.entries) (sym (value-found cmp value_cmp h key is.bindings is.entries is.bound) ∙ ap (option_map (λ k. value_at h k)) none) in
      ap (λ ds. remove_entry cmp ds key) is.sorted ∙ sym (cut-by_keys cmp o key is.entries) ∙ ap (by_keys cmp) (all-others cmp o key is.entries lost) ∙ sym is.sorted
    where
      no-some : (r : Option V) → option_map (λ v. Some (Value v)) r ≡ option_map (λ k. value_at h k) None → r ≡ None
      no-some None e = refl
      no-some (Some v) e = absurd (let bad = e in cc)

  pub map-count : (h : Heap (Piece K V)) (l : ℕ) (es : List (K × V)) (is : IsKeyMap cmp value_cmp code h l es) → length is.bindings ≡ length es
  map-count h l es is = zip-length (IsBoundTo cmp h) is.bindings is.entries is.bound ∙ sym (ap length is.sorted ∙ same-length _ _ (by_keys-same cmp o is.entries (map-once h l es is)))

  -- what is read of the links of a map's pairs in any order
  pub map-read : (h : Heap (Piece K V)) (l : ℕ) (es : List (K × V)) (is : IsKeyMap cmp value_cmp code h l es) (links : List ℕ) → ArePairLinks (form_at h) links is.bindings → SameSet (filter_map (entry_at h) links) es
  map-read h l es is links are =
      let read = subst (λ ds. SameSet (filter_map (entry_at h) links) ds) (entries-read cmp value_cmp h are.entries is.bindings is.entries are.pairs is.bound) (same-filter_map (entry_at h) links _ are.same) in
      subst (SameSet (filter_map (entry_at h) links)) (sym is.sorted) (same_through _ _ _ read (same-sym _ _ (by_keys-same cmp o is.entries (map-once h l es is))))

  -- by whatever is the order of pieces
  module _ {order : Piece K V → Piece K V → Ordering} where
    pub as-order : {h : Heap (Piece K V)} {r : Root} {M : List (Binding (Piece K V))} → IsMapOf (piece_order cmp value_cmp) (piece_code code) h r M → IsPieceOrder order cmp value_cmp → IsMapOf order (piece_code code) h r M
    as-order {h} {r} {M} stands is = subst (λ q. IsMapOf q (piece_code code) h r M) (sym (order-same cmp value_cmp o p order is)) stands

    pub of-order : (M : (Piece K V → Piece K V → Ordering) → List (Binding (Piece K V))) {h : Heap (Piece K V)} {r : Root} → IsMapOf order (piece_code code) h r (M order) → IsPieceOrder order cmp value_cmp → IsMapOf (piece_order cmp value_cmp) (piece_code code) h r (M (piece_order cmp value_cmp))
    of-order M {h} {r} stands is = subst (λ q. IsMapOf q (piece_code code) h r (M q)) (order-same cmp value_cmp o p order is) stands

    -- what is said of a map by that order
    pub at-order : {A : List (Binding (Piece K V)) → Type 0} {h : Heap (Piece K V)} {r : Root} → ((M : List (Binding (Piece K V))) → IsMapOf order (piece_code code) h r M → A M) → IsPieceOrder order cmp value_cmp → (M : List (Binding (Piece K V))) → IsMapOf (piece_order cmp value_cmp) (piece_code code) h r M → A M
    at-order said is M stands = said M (as-order stands is)

    pub trie-as : (bits l : ℕ) (h : Heap (Piece K V)) {E : List (Entry (Piece K V))} → IsTrieOf (piece_order cmp value_cmp) (piece_code code) bits h l E → IsPieceOrder order cmp value_cmp → IsTrieOf order (piece_code code) bits h l E
    trie-as bits l h {E} trie is = subst (λ q. IsTrieOf q (piece_code code) bits h l E) (sym (order-same cmp value_cmp o p order is)) trie

    pub trie-order : {A : List (Entry (Piece K V)) → Type 0} (bits l : ℕ) (h : Heap (Piece K V)) → ((E : List (Entry (Piece K V))) → IsTrieOf order (piece_code code) bits h l E → A E) → IsPieceOrder order cmp value_cmp → (E : List (Entry (Piece K V))) → IsTrieOf (piece_order cmp value_cmp) (piece_code code) bits h l E → A E
    trie-order bits l h said is E trie = said E (trie-as bits l h trie is)

    -- what is said of the value at a key
    pub get-order : {h : Heap (Piece K V)} {r : Root} (key : K) (found : Option ℕ) → ((M : List (Binding (Piece K V))) → IsMapOf order (piece_code code) h r M → found ≡ value_with order (Key key) M) → IsPieceOrder order cmp value_cmp → (M : List (Binding (Piece K V))) → IsMapOf (piece_order cmp value_cmp) (piece_code code) h r M → found ≡ value_with (piece_order cmp value_cmp) (Key key) M
    get-order key found said is M stands = said M (as-order stands is) ∙ ap (λ q. value_with q (Key key) M) (order-same cmp value_cmp o p order is)

    pub none-order : {h : Heap (Piece K V)} {r : Root} {B : Type 0} (key : K) → ((M : List (Binding (Piece K V))) → IsMapOf order (piece_code code) h r M → (B → value_with order (Key key) M ≡ None) × (value_with order (Key key) M ≡ None → B)) → IsPieceOrder order cmp value_cmp → (M : List (Binding (Piece K V))) → IsMapOf (piece_order cmp value_cmp) (piece_code code) h r M → B → value_with (piece_order cmp value_cmp) (Key key) M ≡ None
    none-order key said is M stands gone = sym (ap (λ q. value_with q (Key key) M) (order-same cmp value_cmp o p order is)) ∙ (said M (as-order stands is)).0 gone

-- a call that spends the hold of a new cell, of room that was made
pub spent-makes : {T X : Type 0} (Is : Heap T → ℕ → X → Type 0) (read : Heap T → ℕ → X) → IsKind Is read → (old mid filled new : Heap T) (c l a b : ℕ) (y : T) (x : X) → Unchanged old mid → Extends old mid → Adds mid filled c (cell y) → Extends mid filled → hold_count filled ≡ hold_count mid + 1 → Answered filled new (c ∷ []) l a b → Is new l x → Makes Is old new l x
spent-makes Is read kind old mid filled new c l a b y x same first adds more one answered is = record {
  is = is;
  keeps = stays-extended Is read kind old new (Extends-trans first (Extends-trans more answered.extends));
  holds = λ k.
      let put : holds_at filled k + 0 ≡ holds_at mid k + one_at c k = adds.holds k in
      omega (arith, same.holds k, put, answered.holds k, count-one k c);
  count = let all : hold_count new + 1 ≡ hold_count filled + 1 = answered.count in omega (arith, all, one, same.count);
}

-- what is read where a map has a key, and where not
module _ {K V : Type 0} (f : ℕ → Option (Piece K V)) where
  pub found-piece : (r : Option ℕ) (o : Option V) (l : ℕ) (q : Piece K V) → option_map f r ≡ option_map (λ v. Some (Value v)) o → r ≡ Some l → f l ≡ Some q → piece_value q ≡ o
  found-piece None o l q are at is = absurd (let bad = at in cc)
  found-piece (Some k) None l q are at is = absurd (let bad = are in cc)
  found-piece (Some k) (Some w) l q are at is =
      let here : f k ≡ Some (Value w) = ap (λ o. unwrap_or o None) are in
      let link : k ≡ l = ap (λ o. unwrap_or o k) at in
      ap (λ o. piece_value (unwrap_or o q)) (sym is ∙ sym (ap f link) ∙ here)

  pub found-lost : (r : Option ℕ) (o : Option V) (l : ℕ) → option_map f r ≡ option_map (λ v. Some (Value v)) o → r ≡ Some l → f l ≡ None → ⊥
  found-lost None o l are at is = absurd (let bad = at in cc)
  found-lost (Some k) None l are at is = absurd (let bad = are in cc)
  found-lost (Some k) (Some w) l are at is =
      let here : f k ≡ Some (Value w) = ap (λ o. unwrap_or o None) are in
      let link : k ≡ l = ap (λ o. unwrap_or o k) at in
      let gone : Some (Value w) ≡ None = sym here ∙ ap f link ∙ is in
      cc

  pub found-none : (r : Option ℕ) (o : Option V) → option_map f r ≡ option_map (λ v. Some (Value v)) o → r ≡ None → None ≡ o
  found-none None None are at = refl
  found-none None (Some w) are at = absurd (let bad = are in cc)
  found-none (Some k) o are at = absurd (let bad = at in cc)
