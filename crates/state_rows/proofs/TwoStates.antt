-- What a merge of two maps or sets of names says at a name, and how many names they have.
use Rattle.std.proofs.Common.{◌≡◌, ℕ, ◌+◌, Bool, true, false, cond, not, List, [], ◌∷◌, Option, Some, None, option_map, is_some, length, refl, ap, sym, subst, ◌∙◌}
use Rattle.std.specs.Option.{option_or}
use Rattle.std.specs.List.{All, find, filter}
use Rattle.std.specs.FinMap as finite
use Rattle.std.proofs.lemmas.List.{length-map}
use Rattle.std.proofs.lemmas.List.Folds.{find-append}
use Rattle.std.proofs.lemmas.List.Elements.{All-append, All-filter}
use Rattle.elem_core.specs.Naming.{IsName}
use Rattle.elem_core.specs.Codes.{text_code}
use Rattle.node_heap.specs.Forms.{Forms}
use Rattle.std.specs.Prelude.{slice_index}
use Rattle.node_heap.specs.Forms.{forms_of, links_of}
use Rattle.node_heap.specs.Calls.{SameRows}
use Rattle.node_heap.specs.Heap.{Heap, form_at, links_at}
use Rattle.node_heap.specs.InPlace.{child_at}
use Rattle.rrb_core.proofs.Stays.{links-form}
use Rattle.champ_kinds.specs.Root.{Root}
use Rattle.set_merge.specs.Need.{union_need}
use Rattle.champ_chain.specs.Entry.{Entry, link_with, has_key}
use Rattle.champ_chain.proofs.SetLemmas.{same-length}
use Rattle.champ_kinds.specs.Binding.{Binding, binds, value_with}
use Rattle.champ_kinds.specs.Kinds.{IsMapOf, IsSetOf}
use Rattle.set_merge.specs.Merge.{is_key, union, both, less, map_union}
use Rattle.shell_terms.specs.Edit.{Bytes}
use Rattle.plain_space.specs.Workspace.{Named, Names, State, joined, in_common, apart_from, merged_with}
use Rattle.plain_space.proofs.Computing.{get-kept}
use Rattle.plain_space.proofs.Merging.{get-joined}
use Rattle.state_rows.specs.Reading.{StandsIfThere, IsNamed, AreNames}
use Rattle.state_rows.specs.declared.merge.Stars.{Stars}
use Rattle.state_rows.specs.declared.merge.Stars.TheVariants.{Joined, Common, Other}
use Rattle.state_rows.specs.Merging.{star_kind, entries_merged, stars_need, merge_rows}
use Rattle.state_rows.specs.declared.merge.Merging.{Merging}
use Rattle.state_rows.specs.declared.merge.Merging.TheVariants.{Stars as OfStars, Buffers}
use Rattle.plain_space.specs.Cost.{merge_size}
use Rattle.state_rows.specs.InHeap.{IsStateIn}
use Rattle.state_rows.proofs.Keys.{by_bytes, same-name, is_named}
use Rattle.state_rows.proofs.Contents.{mapped, stands-as, from-map, names-there, keys-of-entries, keys-of-set, same-keys}

-- ## Look-ups in what a test keeps

none-kept : {X : Type 0} (b : Bool) → ◌≡◌ {A = Option X} None (cond b None None)
none-kept true = refl
none-kept false = refl

module _ {X : Type 0} (name : X → Bytes) (test : Bytes → Bool) where
  found-kept : (q : Bytes) (xs : List X) → find (is_named name q) (filter (λ x. test (name x)) xs) ≡ cond (test q) (find (is_named name q) xs) None
  found-kept q [] = none-kept (test q)
  found-kept q (x ∷ xs) = at_head (test (name x)) refl (is_named name q x) refl (found-kept q xs)
    where
      at_head : (t : Bool) → test (name x) ≡ t → (u : Bool) → is_named name q x ≡ u → find (is_named name q) (filter (λ y. test (name y)) xs) ≡ cond (test q) (find (is_named name q) xs) None
          → find (is_named name q) (cond t (x ∷ filter (λ y. test (name y)) xs) (filter (λ y. test (name y)) xs)) ≡ cond (test q) (cond u (Some x) (find (is_named name q) xs)) None
      at_head true passes true here rest =
          ap (λ b. cond b (Some x) (find (is_named name q) (filter (λ y. test (name y)) xs))) here
          ∙ sym (ap (λ b. cond b (Some x) None) (ap test (same-name q (name x) here) ∙ passes))
      at_head true passes false other rest = ap (λ b. cond b (Some x) (find (is_named name q) (filter (λ y. test (name y)) xs))) other ∙ rest
      at_head false fails true here rest =
          let no = ap test (same-name q (name x) here) ∙ fails in
          rest ∙ ap (λ b. cond b (find (is_named name q) xs) None) no ∙ sym (ap (λ b. cond b (Some x) None) no)
      at_head false fails false other rest = rest

-- ## Where one of two has a name

or-else : {X Y : Type 0} (f : X → Y) (o p : Option X) → option_or o (cond (not (is_some (option_map f o))) p None) ≡ option_or o p
or-else f None p = refl
or-else f (Some x) p = refl

or-mapped : {X Y : Type 0} (f : X → Y) (o p : Option X) → option_map f (option_or o p) ≡ option_or (option_map f o) (option_map f p)
or-mapped f None p = refl
or-mapped f (Some x) p = refl

or-same : {X Y : Type 0} (o p : Option X) (u v : Option Y) → is_some o ≡ is_some u → is_some p ≡ is_some v → is_some (option_or o p) ≡ is_some (option_or u v)
or-same None p None v first second = second
or-same None p (Some y) v first second = absurd cc
or-same (Some x) p None v first second = absurd cc
or-same (Some x) p (Some y) v first second = refl

kept-same : {X Y : Type 0} (b : Bool) (o : Option X) (u : Option Y) → is_some o ≡ is_some u → is_some (cond b o None) ≡ is_some (cond b u None)
kept-same true o u same = same
kept-same false o u same = refl

stands-or : {X : Type 0} (R : ℕ → X → Type 0) (o p : Option ℕ) (u v : Option X) → StandsIfThere R o u → StandsIfThere R p v → StandsIfThere R (option_or o p) (option_or u v)
stands-or R None p None v first second = second
stands-or R None p (Some y) v first second = absurd first
stands-or R (Some x) p None v first second = absurd first
stands-or R (Some x) p (Some y) v first second = first

-- ## Sets

module _ (E D : List (Entry Bytes)) (q : Bytes) where
  union-found : is_some (link_with by_bytes q (union by_bytes E D)) ≡ is_some (option_or (find (has_key by_bytes q) E) (find (has_key by_bytes q) D))
  union-found =
      mapped (λ (e : Entry Bytes). e.link) (find (has_key by_bytes q) (union by_bytes E D))
      ∙ ap is_some (
      find-append (has_key by_bytes q) E (filter (λ d. not (is_key by_bytes E d.key)) D)
      ∙ ap (option_or (find (has_key by_bytes q) E)) (found-kept (λ (e : Entry Bytes). e.key) (λ k. not (is_key by_bytes E k)) q D)
      ∙ or-else (λ (e : Entry Bytes). e.link) (find (has_key by_bytes q) E) (find (has_key by_bytes q) D))

  kept-found : (test : Bytes → Bool) → is_some (link_with by_bytes q (filter (λ e. test e.key) E)) ≡ is_some (cond (test q) (find (has_key by_bytes q) E) None)
  kept-found test =
      mapped (λ (e : Entry Bytes). e.link) (find (has_key by_bytes q) (filter (λ e. test e.key) E))
      ∙ ap is_some (found-kept (λ (e : Entry Bytes). e.key) test q E)

module _ (E D : List (Entry Bytes)) (m n : Names)
    (first : (q : Bytes) → is_some (link_with by_bytes q E) ≡ finite.contains_key m q) (second : (q : Bytes) → is_some (link_with by_bytes q D) ≡ finite.contains_key n q) where
  found-first : (q : Bytes) → is_some (find (has_key by_bytes q) E) ≡ is_some (finite.get m q)
  found-first q = sym (mapped (λ (e : Entry Bytes). e.link) (find (has_key by_bytes q) E)) ∙ first q

  found-second : (q : Bytes) → is_some (find (has_key by_bytes q) D) ≡ is_some (finite.get n q)
  found-second q = sym (mapped (λ (e : Entry Bytes). e.link) (find (has_key by_bytes q) D)) ∙ second q

  union-reads : (q : Bytes) → is_some (link_with by_bytes q (union by_bytes E D)) ≡ finite.contains_key (joined m n) q
  union-reads q =
      union-found E D q
      ∙ or-same (find (has_key by_bytes q) E) (find (has_key by_bytes q) D) (finite.get m q) (finite.get n q) (found-first q) (found-second q)
      ∙ ap is_some (sym (get-joined m n q))

  both-reads : (q : Bytes) → is_some (link_with by_bytes q (both by_bytes E D)) ≡ finite.contains_key (in_common m n) q
  both-reads q =
      kept-found E D q (is_key by_bytes D)
      ∙ ap (λ b. is_some (cond b (find (has_key by_bytes q) E) None)) (second q)
      ∙ kept-same (finite.contains_key n q) (find (has_key by_bytes q) E) (finite.get m q) (found-first q)
      ∙ ap is_some (sym (get-kept m (λ name. finite.contains_key n name) q))

  less-reads : (q : Bytes) → is_some (link_with by_bytes q (less by_bytes E D)) ≡ finite.contains_key (apart_from m n) q
  less-reads q =
      kept-found E D q (λ k. not (is_key by_bytes D k))
      ∙ ap (λ b. is_some (cond (not b) (find (has_key by_bytes q) E) None)) (second q)
      ∙ kept-same (not (finite.contains_key n q)) (find (has_key by_bytes q) E) (finite.get m q) (found-first q)
      ∙ ap is_some (sym (get-kept m (λ name. not (finite.contains_key n name)) q))

-- the names that a merge leaves
abbrev pub names_merged : Stars → Names → Names → Names
names_merged Joined m n = joined m n
names_merged Common m n = in_common m n
names_merged Other m n = apart_from m n

pub merged-names : (kind : Stars) (s t : State) → record s { stars = names_merged kind s.stars t.stars } ≡ merged_with (star_kind kind) s t
merged-names Joined s t = refl
merged-names Common s t = refl
merged-names Other s t = refl

module _ (old new : Heap Bytes) (V W : ℕ → Type 0) (bits l k : ℕ) (m n : Names) (is : AreNames (form_at old) V bits l m) (are : AreNames (form_at old) V bits k n) (root : ℕ) where
  of-entries : (E : List (Entry Bytes)) (names : Names) → IsSetOf by_bytes text_code new (record { root = root; bits = bits }) E → All (λ e. IsName e.key) E
      → ((q : Bytes) → is_some (link_with by_bytes q E) ≡ finite.contains_key names q) → AreNames (form_at new) W bits root names
  of-entries E names made named reads = record {
    entries = E;
    trie = record { trie = made.rooted.trie; names = named };
    cells = made.cells;
    reads = reads;
  }

  pub set-merged : (kind : Stars) → IsSetOf by_bytes text_code new (record { root = root; bits = bits }) (entries_merged kind is.entries are.entries) → AreNames (form_at new) W bits root (names_merged kind m n)
  set-merged Joined made =
      of-entries (union by_bytes is.entries are.entries) (joined m n) made
      (All-append (λ e. IsName e.key) is.entries _ is.trie.names (All-filter _ (λ e. IsName e.key) are.entries are.trie.names))
      (union-reads is.entries are.entries m n is.reads are.reads)
  set-merged Common made =
      of-entries (both by_bytes is.entries are.entries) (in_common m n) made (All-filter _ (λ e. IsName e.key) is.entries is.trie.names)
      (both-reads is.entries are.entries m n is.reads are.reads)
  set-merged Other made =
      of-entries (less by_bytes is.entries are.entries) (apart_from m n) made (All-filter _ (λ e. IsName e.key) is.entries is.trie.names)
      (less-reads is.entries are.entries m n is.reads are.reads)

-- ## Maps

value-union : (M N : List (Binding Bytes)) (q : Bytes) → value_with by_bytes q (map_union by_bytes M N) ≡ option_or (value_with by_bytes q M) (value_with by_bytes q N)
value-union M N q =
    ap (option_map (λ (b : Binding Bytes). b.value)) (
    find-append (binds by_bytes q) M (filter (λ c. not (is_some (value_with by_bytes c.key M))) N)
    ∙ ap (option_or (find (binds by_bytes q) M)) (found-kept (λ (b : Binding Bytes). b.key) (λ k. not (is_some (value_with by_bytes k M))) q N)
    ∙ or-else (λ (b : Binding Bytes). b.value) (find (binds by_bytes q) M) (find (binds by_bytes q) N))
    ∙ or-mapped (λ (b : Binding Bytes). b.value) (find (binds by_bytes q) M) (find (binds by_bytes q) N)

module _ {X : Type 0} (old new : Heap Bytes) (V W : ℕ → Type 0) (bits : ℕ) (R S : ℕ → X → Type 0) (so : (k : ℕ) (x : X) → R k x → S k x)
    (l k : ℕ) (m n : Named X) (is : IsNamed (form_at old) V bits R l m) (are : IsNamed (form_at old) V bits R k n) where
  pub named-joined : (root : ℕ) → IsMapOf by_bytes text_code new (record { root = root; bits = bits }) (map_union by_bytes is.bindings are.bindings) → IsNamed (form_at new) W bits S root (joined m n)
  named-joined root made =
      from-map new W bits S root (joined m n) (map_union by_bytes is.bindings are.bindings) made
      (All-append (λ b. IsName b.key) is.bindings _ (names-there old new V W bits R S so l m is) (All-filter _ (λ b. IsName b.key) are.bindings (names-there old new V W bits R S so k n are)))
      (λ q. subst (StandsIfThere S (value_with by_bytes q (map_union by_bytes is.bindings are.bindings))) (sym (get-joined m n q))
      (subst (λ o. StandsIfThere S o (option_or (finite.get m q) (finite.get n q))) (sym (value-union is.bindings are.bindings q))
      (stands-or S _ _ _ _ (stands-as R S so _ _ (is.reads q)) (stands-as R S so _ _ (are.reads q)))))

-- ## How many names there are

pub set-size : (F : Forms Bytes) (V : ℕ → Type 0) (bits l : ℕ) (names : Names) (is : AreNames F V bits l names) → length is.entries ≡ finite.len names
set-size F V bits l names is =
    sym (length-map is.entries (λ (e : Entry Bytes). e.key)) ∙ same-length _ _ (keys-of-set F V bits l names is)
    ∙ length-map (finite.entries names) (λ e. e.0) ∙ sym (finite.len-entries names)

pub map-size : {X : Type 0} (F : Forms Bytes) (V : ℕ → Type 0) (bits : ℕ) (R : ℕ → X → Type 0) (l : ℕ) (m : Named X) (is : IsNamed F V bits R l m) → length is.bindings ≡ finite.len m
map-size F V bits R l m is =
    sym (length-map is.bindings (λ (b : Binding Bytes). b.key)) ∙ ap length (same-keys F is.entries is.bindings is.pairs)
    ∙ same-length _ _ (keys-of-entries F V bits R l m is)
    ∙ length-map (finite.entries m) (λ e. e.0) ∙ sym (finite.len-entries m)

-- ## The rows of states

module _ {h : Heap Bytes} {bits l : ℕ} (s : State) (is : IsStateIn h bits l s) where
  state-links : links_at h l ≡ is.buffers ∷ is.stars ∷ []
  state-links = sym (links-form h l) ∙ ap links_of is.row

  pub buffers-link : child_at h l 0 ≡ is.buffers
  buffers-link = ap (λ ks. slice_index ks 0) state-links

  pub stars-link : child_at h l 1 ≡ is.stars
  stars-link = ap (λ ks. slice_index ks 1) state-links

-- what the merge of two states' parts needs is what their rows say
module _ {h : Heap Bytes} {bits l k : ℕ} (s t : State) (is : IsStateIn h bits l s) (are : IsStateIn h bits k t) {a : Root} {x : ℕ} (by : a.bits ≡ bits) where
  pub stars-need-is : (kind : Stars) → a.root ≡ is.stars → x ≡ are.stars → stars_need kind (form_at h) a.bits a.root x ≡ stars_need kind (form_at h) bits (child_at h l 1) (child_at h k 1)
  stars-need-is kind first second = λ i. stars_need kind (form_at h) (by i) ((first ∙ sym (stars-link s is)) i) ((second ∙ sym (stars-link t are)) i)

  pub buffers-need-is : a.root ≡ is.buffers → x ≡ are.buffers → union_need by_bytes text_code (form_at h) a.bits a.root x ≡ union_need by_bytes text_code (form_at h) bits (child_at h l 0) (child_at h k 0)
  buffers-need-is first second = λ i. union_need by_bytes text_code (form_at h) (by i) ((first ∙ sym (buffers-link s is)) i) ((second ∙ sym (buffers-link t are)) i)

-- it is the same where the rows are
pub rows-same : (old new : Heap Bytes) (kind : Merging) (bits l k : ℕ) → SameRows old new → merge_rows kind new bits l k ≡ merge_rows kind old bits l k
rows-same old new (OfStars stars) bits l k same = λ i. stars_need stars (forms_of (λ m. same m i)) bits (slice_index (links_of (same l i)) 1) (slice_index (links_of (same k i)) 1)
rows-same old new Buffers bits l k same = λ i. union_need by_bytes text_code (forms_of (λ m. same m i)) bits (slice_index (links_of (same l i)) 0) (slice_index (links_of (same k i)) 0)

-- how many names a merge of stars goes over
pub stars-size : (kind : Stars) (s t : State) → merge_size (star_kind kind) s t ≡ finite.len s.stars + finite.len t.stars
stars-size Joined s t = refl
stars-size Common s t = refl
stars-size Other s t = refl

-- a root by its parts
pub root-here : (w : Root) {k b bits : ℕ} → k ≡ w.root → w.bits ≡ b → b ≡ bits → w ≡ record { root = k; bits = bits }
root-here w root same by = λ i. record { root = (sym root) i; bits = (same ∙ by) i }
