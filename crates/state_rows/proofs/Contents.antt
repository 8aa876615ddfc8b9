-- Maps and sets of names with one name more or less, and what is looked up in them.
use Rattle.std.proofs.Common.{◌≡◌, ℕ, ◌≤◌, Bool, true, false, cond, List, [], ◌∷◌, Option, Some, None, option_map, is_some, map, refl, ap, sym, subst, ◌∙◌}
use Rattle.std.specs.Prelude.{count_by, unwrap_or}
use Rattle.std.specs.List.{All, AllZip, find}
use Rattle.std.specs.Ordering.{is_eq}
use Rattle.std.specs.FinMap as finite
use Rattle.std.specs.Cmp.Lexicographic.{nat_list_cmp_total}
use Rattle.std.proofs.lemmas.List.Elements.{All-nil, All-cons, All-head, All-tail, All-filter}
use Rattle.elem_core.specs.declared.codes.TheConstants.{CODE_BITS}
use Rattle.elem_core.specs.Naming.{IsName}
use Rattle.elem_core.specs.Codes.{text_code}
use Rattle.node_heap.specs.Forms.{Forms}
use Rattle.node_heap.specs.Heap.{Heap, form_at}
use Rattle.champ_chain.specs.Entry.{Entry, SameSet, entry, link_with, others, has_key}
use Rattle.champ_chain.proofs.SetLemmas.{same-count}
use Rattle.champ_trie.specs.Reach.{alike_to}
use Rattle.champ_kinds.specs.Root.{Root}
use Rattle.champ_kinds.specs.Binding.{Binding, binding, binds, bind, unbind, kept_key, value_with, alike_keys}
use Rattle.champ_kinds.specs.Kinds.{IsPair, IsMapOf, IsSetOf}
use Rattle.shell_terms.specs.Edit.{Bytes}
use Rattle.plain_space.specs.Workspace.{Named, Names}
use Rattle.plain_space.specs.Cost.{alike}
use Rattle.state_rows.specs.Reading.{StandsIfThere, IsNamed, AreNames}
use Rattle.state_rows.proofs.Keys.{by_bytes, same-name, found-beside, found-gone, found-among, among, AreApart, apart-entries, keys-same, count-names}

module _ {X : Type 0} (R S : ℕ → X → Type 0) (so : (k : ℕ) (x : X) → R k x → S k x) where
  -- what stands as the one stands as the other
  pub stands-as : (o : Option ℕ) (p : Option X) → StandsIfThere R o p → StandsIfThere S o p
  stands-as None None is = tt
  stands-as None (Some x) is = absurd is
  stands-as (Some k) None is = absurd is
  stands-as (Some k) (Some x) is = so k x is

stands-both : {X : Type 0} (R : ℕ → X → Type 0) (o : Option ℕ) (p : Option X) → StandsIfThere R o p → is_some o ≡ is_some p
stands-both R None None is = refl
stands-both R None (Some x) is = absurd is
stands-both R (Some k) None is = absurd is
stands-both R (Some k) (Some x) is = refl

pub mapped : {X Y : Type 0} (f : X → Y) (o : Option X) → is_some (option_map f o) ≡ is_some o
mapped f None = refl
mapped f (Some x) = refl

-- the key that is there is the key
kept-self : (key : Bytes) (M : List (Binding Bytes)) → kept_key by_bytes key M ≡ key
kept-self key [] = refl
kept-self key (b ∷ M) = at_head (binds by_bytes key b) refl (kept-self key M)
  where
    at_head : (t : Bool) → binds by_bytes key b ≡ t → kept_key by_bytes key M ≡ key
        → unwrap_or (option_map (λ (c : Binding Bytes). c.key) (cond t (Some b) (find (binds by_bytes key) M))) key ≡ key
    at_head true here rest = sym (same-name key b.key here)
    at_head false here rest = rest

module _ (F : Forms Bytes) where
  -- the bindings have the keys of their entries
  pub same-keys : (E : List (Entry Bytes)) (M : List (Binding Bytes)) → AllZip (IsPair F) E M → map (λ (b : Binding Bytes). b.key) M ≡ map (λ (e : Entry Bytes). e.key) E
  same-keys [] [] pairs = refl
  same-keys [] (b ∷ M) pairs = absurd pairs
  same-keys (e ∷ E) [] pairs = absurd pairs
  same-keys (e ∷ E) (b ∷ M) pairs = ap (λ k. k ∷ map (λ (b : Binding Bytes). b.key) M) pairs.0.key ∙ ap (λ ks. e.key ∷ ks) (same-keys E M pairs.1)

  pub keys-named : (E : List (Entry Bytes)) (M : List (Binding Bytes)) → AllZip (IsPair F) E M → All (λ e. IsName e.key) E → All (λ b. IsName b.key) M
  keys-named [] [] pairs names = All-nil (λ (b : Binding Bytes). IsName b.key)
  keys-named [] (b ∷ M) pairs names = absurd pairs
  keys-named (e ∷ E) [] pairs names = absurd pairs
  keys-named (e ∷ E) (b ∷ M) pairs names =
      let Named = λ (d : Entry Bytes). IsName d.key in
      All-cons (λ c. IsName c.key) b M (subst IsName (sym pairs.0.key) (All-head Named e E names)) (keys-named E M pairs.1 (All-tail Named e E names))

  entries-named : (E : List (Entry Bytes)) (M : List (Binding Bytes)) → AllZip (IsPair F) E M → All (λ b. IsName b.key) M → All (λ e. IsName e.key) E
  entries-named [] [] pairs names = All-nil (λ (e : Entry Bytes). IsName e.key)
  entries-named [] (b ∷ M) pairs names = absurd pairs
  entries-named (e ∷ E) [] pairs names = absurd pairs
  entries-named (e ∷ E) (b ∷ M) pairs names =
      let Named = λ (c : Binding Bytes). IsName c.key in
      All-cons (λ d. IsName d.key) e E (subst IsName pairs.0.key (All-head Named b M names)) (entries-named E M pairs.1 (All-tail Named b M names))

-- ## As maps and sets of the heap

module _ {X : Type 0} (h : Heap Bytes) (V : ℕ → Type 0) (bits : ℕ) (R : ℕ → X → Type 0) where
  pub as-map : (l : ℕ) (m : Named X) → bits ≤ CODE_BITS → (is : IsNamed (form_at h) V bits R l m) → IsMapOf by_bytes text_code h (record { root = l; bits = bits }) is.bindings
  as-map l m fits is = record { entries = is.entries; rooted = record { bits = fits; trie = is.trie.trie }; pairs = is.pairs }

  -- the same of a root that is so named
  pub map-at : (r : Root) (l : ℕ) (m : Named X) → bits ≤ CODE_BITS → (is : IsNamed (form_at h) V bits R l m) → r.root ≡ l → r.bits ≡ bits → IsMapOf by_bytes text_code h r is.bindings
  map-at r l m fits is root by =
      let same : r ≡ record { root = l; bits = bits } = λ i. record { root = root i; bits = by i } in
      subst (λ (q : Root). IsMapOf by_bytes text_code h q is.bindings) (sym same) (as-map l m fits is)

  -- a map that has these bindings besides its names
  pub from-map : (l : ℕ) (m : Named X) (M : List (Binding Bytes)) → IsMapOf by_bytes text_code h (record { root = l; bits = bits }) M → All (λ b. IsName b.key) M
      → ((name : Bytes) → StandsIfThere R (value_with by_bytes name M) (finite.get m name)) → IsNamed (form_at h) V bits R l m
  from-map l m M is names reads = record {
    entries = is.entries;
    bindings = M;
    trie = record { trie = is.rooted.trie; names = entries-named (form_at h) is.entries M is.pairs names };
    pairs = is.pairs;
    reads = reads;
  }

-- what a map says at a name once a key is bound, where it says so at every other name
module _ {X : Type 0} (S : ℕ → X → Type 0) (m : Named X) (M : List (Binding Bytes)) (key : Bytes)
    (reads : (name : Bytes) → is_eq (by_bytes name key) ≡ false → StandsIfThere S (value_with by_bytes name M) (finite.get m name)) where
  bound-beside : (name : Bytes) (v : ℕ) (x : X) → S v x → StandsIfThere S (value_with by_bytes name (bind by_bytes M key v)) (finite.get (finite.insert m key x) name)
  bound-beside name v x stands =
      subst (StandsIfThere S (value_with by_bytes name (bind by_bytes M key v))) (sym (finite.get-insert nat_list_cmp_total m key x name))
      (subst (λ n. StandsIfThere S (option_map (λ (b : Binding Bytes). b.value) (cond (is_eq (by_bytes name n)) (Some (binding n v)) (find (binds by_bytes name) (unbind by_bytes key M)))) (cond (is_eq (by_bytes name key)) (Some x) (finite.get m name)))
      (sym (kept-self key M)) (at (is_eq (by_bytes name key)) refl))
    where
      at : (t : Bool) → is_eq (by_bytes name key) ≡ t
          → StandsIfThere S (option_map (λ (b : Binding Bytes). b.value) (cond t (Some (binding key v)) (find (binds by_bytes name) (unbind by_bytes key M)))) (cond t (Some x) (finite.get m name))
      at true same = stands
      at false other =
          subst (λ (o : Option (Binding Bytes)). StandsIfThere S (option_map (λ (b : Binding Bytes). b.value) o) (finite.get m name)) (sym (found-beside (λ (b : Binding Bytes). b.key) name key other M)) (reads name other)

-- a map with this value at the name, where what stands at each other name stands there still
pub named-placed : {X : Type 0} (old new : Heap Bytes) {V : ℕ → Type 0} {bits l : ℕ} {R : ℕ → X → Type 0} {m : Named X} (W : ℕ → Type 0) (S : ℕ → X → Type 0) (is : IsNamed (form_at old) V bits R l m) (root v : ℕ) (key : Bytes) (x : X) → IsName key → S v x
    → ((name : Bytes) → is_eq (by_bytes name key) ≡ false → StandsIfThere S (value_with by_bytes name is.bindings) (finite.get m name))
    → IsMapOf by_bytes text_code new (record { root = root; bits = bits }) (bind by_bytes is.bindings key v) → IsNamed (form_at new) W bits S root (finite.insert m key x)
named-placed old new {bits = bits} {m = m} W S is root v key x named stands reads made =
    from-map new W bits S root (finite.insert m key x) (bind by_bytes is.bindings key v) made
    (All-cons (λ b. IsName b.key) _ _ (subst IsName (sym (kept-self key is.bindings)) named) (All-filter _ (λ b. IsName b.key) is.bindings (keys-named (form_at old) is.entries is.bindings is.pairs is.trie.names)))
    (λ name. bound-beside S m is.bindings key reads name v x stands)

-- what a map of a heap says at a name
module _ {X : Type 0} (old new : Heap Bytes) (V W : ℕ → Type 0) (bits : ℕ) (R S : ℕ → X → Type 0) (so : (k : ℕ) (x : X) → R k x → S k x) (l : ℕ) (m : Named X) (is : IsNamed (form_at old) V bits R l m) where
  unbound : (key name : Bytes) → StandsIfThere S (value_with by_bytes name (unbind by_bytes key is.bindings)) (finite.get (finite.remove m key) name)
  unbound key name =
      subst (StandsIfThere S (value_with by_bytes name (unbind by_bytes key is.bindings))) (sym (finite.get-remove nat_list_cmp_total m key name)) (at (is_eq (by_bytes name key)) refl)
    where
      at : (t : Bool) → is_eq (by_bytes name key) ≡ t → StandsIfThere S (value_with by_bytes name (unbind by_bytes key is.bindings)) (cond t None (finite.get m name))
      at true same =
          let gone = ap (λ n. find (binds by_bytes n) (unbind by_bytes key is.bindings)) (same-name name key same) ∙ found-gone (λ (b : Binding Bytes). b.key) key is.bindings in
          subst (λ (o : Option (Binding Bytes)). StandsIfThere S (option_map (λ (b : Binding Bytes). b.value) o) None) (sym gone) tt
      at false other =
          subst (λ (o : Option (Binding Bytes)). StandsIfThere S (option_map (λ (b : Binding Bytes). b.value) o) (finite.get m name)) (sym (found-beside (λ (b : Binding Bytes). b.key) name key other is.bindings))
          (stands-as R S so (value_with by_bytes name is.bindings) (finite.get m name) (is.reads name))

  pub names-there : All (λ b. IsName b.key) is.bindings
  names-there = keys-named (form_at old) is.entries is.bindings is.pairs is.trie.names

  -- the map with this value at the name
  pub named-insert : (root v : ℕ) (key : Bytes) (x : X) → IsName key → S v x
      → IsMapOf by_bytes text_code new (record { root = root; bits = bits }) (bind by_bytes is.bindings key v) → IsNamed (form_at new) W bits S root (finite.insert m key x)
  named-insert root v key x named stands made =
      named-placed old new W S is root v key x named stands (λ name other. stands-as R S so (value_with by_bytes name is.bindings) (finite.get m name) (is.reads name)) made

  -- the map without the name
  pub named-remove : (root : ℕ) (key : Bytes) → IsMapOf by_bytes text_code new (record { root = root; bits = bits }) (unbind by_bytes key is.bindings) → IsNamed (form_at new) W bits S root (finite.remove m key)
  named-remove root key made =
      from-map new W bits S root (finite.remove m key) (unbind by_bytes key is.bindings) made (All-filter _ (λ b. IsName b.key) is.bindings names-there) (λ name. unbound key name)

-- ## Sets of names

module _ (h : Heap Bytes) (V : ℕ → Type 0) (bits : ℕ) where
  pub as-set : (l : ℕ) (names : Names) → bits ≤ CODE_BITS → (is : AreNames (form_at h) V bits l names) → IsSetOf by_bytes text_code h (record { root = l; bits = bits }) is.entries
  as-set l names fits is = record { rooted = record { bits = fits; trie = is.trie.trie }; cells = is.cells }

  pub set-at : (r : Root) (l : ℕ) (names : Names) → bits ≤ CODE_BITS → (is : AreNames (form_at h) V bits l names) → r.root ≡ l → r.bits ≡ bits → IsSetOf by_bytes text_code h r is.entries
  set-at r l names fits is root by =
      let same : r ≡ record { root = l; bits = bits } = λ i. record { root = root i; bits = by i } in
      subst (λ (q : Root). IsSetOf by_bytes text_code h q is.entries) (sym same) (as-set l names fits is)

module _ (old new : Heap Bytes) (V W : ℕ → Type 0) (bits : ℕ) (l : ℕ) (names : Names) (is : AreNames (form_at old) V bits l names) where
  put-in : (key name : Bytes) (x : ℕ) → is_some (link_with by_bytes name (entry key x ∷ is.entries)) ≡ finite.contains_key (finite.insert names key tt) name
  put-in key name x = at (is_eq (by_bytes name key)) ∙ ap is_some (sym (finite.get-insert nat_list_cmp_total names key tt name))
    where
      at : (t : Bool) → is_some (option_map (λ (e : Entry Bytes). e.link) (cond t (Some (entry key x)) (find (has_key by_bytes name) is.entries))) ≡ is_some (cond t (Some tt) (finite.get names name))
      at true = refl
      at false = is.reads name

  taken-out : (key name : Bytes) → is_some (link_with by_bytes name (others by_bytes key is.entries)) ≡ finite.contains_key (finite.remove names key) name
  taken-out key name = at (is_eq (by_bytes name key)) refl ∙ ap is_some (sym (finite.get-remove nat_list_cmp_total names key name))
    where
      at : (t : Bool) → is_eq (by_bytes name key) ≡ t → is_some (link_with by_bytes name (others by_bytes key is.entries)) ≡ is_some (cond t None (finite.get names name))
      at true same =
          ap (λ o. is_some (option_map (λ (e : Entry Bytes). e.link) o)) (ap (λ n. find (has_key by_bytes n) (others by_bytes key is.entries)) (same-name name key same) ∙ found-gone (λ (e : Entry Bytes). e.key) key is.entries)
      at false other = ap (λ o. is_some (option_map (λ (e : Entry Bytes). e.link) o)) (found-beside (λ (e : Entry Bytes). e.key) name key other is.entries) ∙ is.reads name

  pub names-insert : (root x : ℕ) (key : Bytes) → IsName key → IsSetOf by_bytes text_code new (record { root = root; bits = bits }) (entry key x ∷ is.entries) → AreNames (form_at new) W bits root (finite.insert names key tt)
  names-insert root x key named made = record {
    entries = entry key x ∷ is.entries;
    trie = record { trie = made.rooted.trie; names = All-cons (λ e. IsName e.key) (entry key x) is.entries named is.trie.names };
    cells = made.cells;
    reads = λ name. put-in key name x;
  }

  pub names-remove : (root : ℕ) (key : Bytes) → IsSetOf by_bytes text_code new (record { root = root; bits = bits }) (others by_bytes key is.entries) → AreNames (form_at new) W bits root (finite.remove names key)
  names-remove root key made = record {
    entries = others by_bytes key is.entries;
    trie = record { trie = made.rooted.trie; names = All-filter _ (λ e. IsName e.key) is.entries is.trie.names };
    cells = made.cells;
    reads = λ name. taken-out key name;
  }

-- a name that is there makes no difference
module _ (F : Forms Bytes) (V : ℕ → Type 0) (bits : ℕ) (l : ℕ) (names : Names) (is : AreNames F V bits l names) where
  pub names-same : (key : Bytes) (x : ℕ) → link_with by_bytes key is.entries ≡ Some x → AreNames F V bits l (finite.insert names key tt)
  names-same key x found = record {
    entries = is.entries;
    trie = is.trie;
    cells = is.cells;
    reads = λ name. at name (is_eq (by_bytes name key)) refl ∙ ap is_some (sym (finite.get-insert nat_list_cmp_total names key tt name));
  }
    where
      at : (name : Bytes) (t : Bool) → is_eq (by_bytes name key) ≡ t → is_some (link_with by_bytes name is.entries) ≡ is_some (cond t (Some tt) (finite.get names name))
      at name true same = ap (λ n. is_some (link_with by_bytes n is.entries)) (same-name name key same) ∙ ap is_some found
      at name false other = is.reads name

-- ## How many names are alike

module _ {X : Type 0} (F : Forms Bytes) (V : ℕ → Type 0) (bits : ℕ) (R : ℕ → X → Type 0) (l : ℕ) (m : Named X) (is : IsNamed F V bits R l m) where
  -- the keys of a map's entries are different, and are the names of the finite map
  pub keys-apart : AreApart (map (λ e. e.key) is.entries)
  keys-apart = apart-entries is.entries (λ k. is.trie.trie.distinct.once k)

  pub keys-there : (q : Bytes) → among q (map (λ e. e.key) is.entries) ≡ finite.contains_key m q
  keys-there q =
      ap (among q) (sym (same-keys F is.entries is.bindings is.pairs)) ∙ sym (found-among (λ (b : Binding Bytes). b.key) q is.bindings)
      ∙ sym (mapped (λ (b : Binding Bytes). b.value) (find (binds by_bytes q) is.bindings)) ∙ stands-both R _ _ (is.reads q)

  pub keys-of-entries : SameSet (map (λ e. e.key) is.entries) (finite.keys m)
  keys-of-entries = keys-same (map (λ e. e.key) is.entries) m keys-apart keys-there

  -- the entries of a map of names that are alike are its names that are alike
  pub named-alike : (name : Bytes) → alike_to text_code bits name is.entries ≡ alike bits (finite.keys m) name
  named-alike name = count-names _ (λ e. e.key) is.entries ∙ same-count _ _ _ keys-of-entries

  pub bindings-alike : (name : Bytes) → alike_keys text_code bits name is.bindings ≡ alike bits (finite.keys m) name
  bindings-alike name =
      count-names _ (λ (b : Binding Bytes). b.key) is.bindings
      ∙ ap (count_by _) (same-keys F is.entries is.bindings is.pairs) ∙ same-count _ _ _ keys-of-entries

  -- whether a name is there
  pub named-there : (name : Bytes) → is_some (value_with by_bytes name is.bindings) ≡ is_some (finite.get m name)
  named-there name = stands-both R _ _ (is.reads name)

module _ (F : Forms Bytes) (V : ℕ → Type 0) (bits : ℕ) (l : ℕ) (names : Names) (is : AreNames F V bits l names) where
  pub set-apart : AreApart (map (λ e. e.key) is.entries)
  set-apart = apart-entries is.entries (λ k. is.trie.trie.distinct.once k)

  pub set-there : (q : Bytes) → among q (map (λ e. e.key) is.entries) ≡ finite.contains_key names q
  set-there q = sym (found-among (λ (e : Entry Bytes). e.key) q is.entries) ∙ sym (mapped (λ (e : Entry Bytes). e.link) (find (has_key by_bytes q) is.entries)) ∙ is.reads q

  pub keys-of-set : SameSet (map (λ e. e.key) is.entries) (finite.keys names)
  keys-of-set = keys-same (map (λ e. e.key) is.entries) names set-apart set-there

  pub names-alike : (name : Bytes) → alike_to text_code bits name is.entries ≡ alike bits (finite.keys names) name
  names-alike name = count-names _ (λ e. e.key) is.entries ∙ same-count _ _ _ keys-of-set
