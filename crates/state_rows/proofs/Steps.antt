-- What an insertion into a map or a set of names does, and a removal, as calls that answer.
use Rattle.std.proofs.Common.{◌≡◌, ℕ, ◌+◌, ◌≤◌, List, [], ◌∷◌, Option, Some, None, is_some, ap, sym, subst, refl, ◌∙◌, arith}
use Rattle.std.specs.Prelude.{◌↔◌, true, IfSome, IsSome}
use Rattle.std.specs.FinMap as finite
use Rattle.champ_kinds.specs.declared.map.TheConstants.{INSERT_NODES}
use Rattle.champ_trie.specs.declared.TheConstants.{ADD_NODES}
use Rattle.elem_core.specs.declared.codes.TheConstants.{CODE_BITS, LEVELS}
use Rattle.elem_core.specs.Naming.{IsName}
use Rattle.elem_core.specs.Codes.{text_code}
use Rattle.node_heap.specs.Heap.{Heap, form_at, HasSpares}
use Rattle.node_heap.specs.Calls.{Answered}
use Rattle.rrb_core.specs.Vector.{IsGoodVector}
use Rattle.champ_chain.specs.Entry.{Entry, entry, link_with, others}
use Rattle.champ_trie.specs.Reach.{alike_to}
use Rattle.champ_kinds.specs.Root.{Root}
use Rattle.champ_kinds.specs.Binding.{Binding, alike_keys, bind, unbind, value_with}
use Rattle.champ_kinds.specs.Kinds.{IsMapOf, IsSetOf}
use Rattle.champ_kinds.proofs.EditLemmas.{if-some}
use Rattle.shell_terms.specs.Edit.{Bytes}
use Rattle.plain_space.specs.Workspace.{Named, Names, State}
use Rattle.plain_space.specs.Cost.{alike}
use Rattle.state_rows.specs.Reading.{IsNamed, AreNames}
use Rattle.state_rows.specs.InHeap.{AreLinesIn, IsStateIn, AreVersionsIn}
use Rattle.state_rows.proofs.Contents.{map-at, set-at, bindings-alike, names-alike, named-there, named-insert, named-remove, names-insert, names-remove}
use Rattle.state_rows.proofs.Answering.{answered-more}
use Rattle.state_rows.proofs.Keys.{by_bytes}

-- the root is that of a map from these names to such values, by as many bits as codes have at most
pub record RootsMap {X : Type 0} (h : Heap Bytes) (bits : ℕ) (R : ℕ → X → Type 0) (m : Named X) (r : Root) : Type 0 where
  pub link : ℕ
  pub named : IsNamed (form_at h) (IsGoodVector h) bits R link m
  pub fits : bits ≤ CODE_BITS
  pub by : r.bits ≡ bits
  pub root : r.root ≡ link

-- the root is that of the set of these names
pub record RootsSet (h : Heap Bytes) (bits : ℕ) (names : Names) (r : Root) : Type 0 where
  pub link : ℕ
  pub named : AreNames (form_at h) (IsGoodVector h) bits link names
  pub fits : bits ≤ CODE_BITS
  pub by : r.bits ≡ bits
  pub root : r.root ≡ link

-- the roots that are read of a state are those of its buffers and of its stars
abbrev pub buffers-at : {h : Heap Bytes} {bits l : ℕ} {r : Root} → bits ≤ CODE_BITS → r.bits ≡ bits → ((s : State) (is : IsStateIn h bits l s) → r.root ≡ is.buffers) → (s : State) → IsStateIn h bits l s → RootsMap h bits (AreLinesIn h bits) s.buffers r
buffers-at fits by root s is = record { link = is.buffers; named = is.buffers_are; fits = fits; by = by; root = root s is }

abbrev pub stars-at : {h : Heap Bytes} {bits l : ℕ} {r : Root} → bits ≤ CODE_BITS → r.bits ≡ bits → ((s : State) (is : IsStateIn h bits l s) → r.root ≡ is.stars) → (s : State) → IsStateIn h bits l s → RootsSet h bits s.stars r
stars-at fits by root s is = record { link = is.stars; named = is.stars_are; fits = fits; by = by; root = root s is }

abbrev pub versions-at : {h : Heap Bytes} {r : Root} {m : Named State} → r.bits ≤ CODE_BITS → AreVersionsIn h r.bits r.root m → RootsMap h r.bits (IsStateIn h r.bits) m r
versions-at {r = r} fits is = record { link = r.root; named = is; fits = fits; by = refl; root = refl }

module _ {X : Type 0} {old : Heap Bytes} {bits : ℕ} {R : ℕ → X → Type 0} {m : Named X} {r : Root} (at : RootsMap old bits R m r) where
  pub map-is : IsMapOf by_bytes text_code old r at.named.bindings
  map-is = map-at old (IsGoodVector old) bits R r at.link m at.fits at.named at.root at.by

  map-alike : (key : Bytes) → alike_keys text_code r.bits key at.named.bindings ≡ alike bits (finite.keys m) key
  map-alike key = ap (λ b. alike_keys text_code b key at.named.bindings) at.by ∙ bindings-alike (form_at old) (IsGoodVector old) bits R at.link m at.named key

  -- what a call says where it has the spares that it may take
  pub map-ample : (key : Bytes) (n : ℕ) {c more : ℕ} {Said : Type 0} → ((M : List (Binding Bytes)) → IsMapOf by_bytes text_code old r M → HasSpares old c (n + alike_keys text_code r.bits key M) → Said) → HasSpares old c (more + alike bits (finite.keys m) key) → n ≤ more → Said
  map-ample key n said spares enough = said at.named.bindings map-is (spares.0, omega (arith, spares.1, map-alike key))

  -- a call finds a name that is there
  pub map-found : (key : Bytes) {Nothing : Type 0} → ((M : List (Binding Bytes)) → IsMapOf by_bytes text_code old r M → Nothing ↔ (value_with by_bytes key M ≡ None)) → IsSome (finite.get m key) → Nothing → ⊥
  map-found key absent some nothing =
      let there = sym (named-there (form_at old) (IsGoodVector old) bits R at.link m at.named key) ∙ ap is_some ((absent at.named.bindings map-is).0 nothing) in
      cc

  pub inserted-answered : {new : Heap Bytes} {v spent w k : ℕ} (key : Bytes) → v ≡ spent → k ≡ w → ((M : List (Binding Bytes)) → IsMapOf by_bytes text_code old r M → Answered old new (v ∷ []) w 1 (INSERT_NODES + alike_keys text_code r.bits key M))
      → Answered old new (spent ∷ []) k 1 (INSERT_NODES + alike bits (finite.keys m) key)
  inserted-answered {new} {v} {spent} {w} {k} key is root answers =
      let done = answered-more 1 (INSERT_NODES + alike bits (finite.keys m) key) (answers at.named.bindings map-is) (omega arith) (omega (arith, map-alike key)) in
      rw (← is, root) done

  pub removed-answered : {new : Heap Bytes} {found : Option Root} {w : Root} {k : ℕ} (key : Bytes) → found ≡ Some w → k ≡ w.root
      → ((M : List (Binding Bytes)) → IsMapOf by_bytes text_code old r M → IfSome found (λ q. Answered old new [] q.root 0 (LEVELS + alike_keys text_code r.bits key M)))
      → Answered old new [] k 0 (LEVELS + alike bits (finite.keys m) key)
  removed-answered {new} {found} {w} key there root answers =
      let done = if-some found w (λ (q : Root). Answered old new [] q.root 0 (LEVELS + alike_keys text_code r.bits key at.named.bindings)) there (answers at.named.bindings map-is) in
      rw root (answered-more 0 (LEVELS + alike bits (finite.keys m) key) done (omega arith) (omega (arith, map-alike key)))

  module _ {new : Heap Bytes} (S : ℕ → X → Type 0) (so : (k : ℕ) (x : X) → R k x → S k x) {w : Root} {k : ℕ} (key : Bytes) (root : k ≡ w.root) where
    here : (M : List (Binding Bytes)) → w.bits ≡ r.bits → IsMapOf by_bytes text_code new w M → IsMapOf by_bytes text_code new (record { root = k; bits = bits }) M
    here M same made =
        let is : w ≡ record { root = k; bits = bits } = λ i. record { root = (sym root) i; bits = (same ∙ at.by) i } in
        subst (λ (q : Root). IsMapOf by_bytes text_code new q M) is made

    pub inserted-is : (v : ℕ) (x : X) → IsName key → S v x → w.bits ≡ r.bits → ((M : List (Binding Bytes)) → IsMapOf by_bytes text_code old r M → IsMapOf by_bytes text_code new w (bind by_bytes M key v)) → IsNamed (form_at new) (IsGoodVector new) bits S k (finite.insert m key x)
    inserted-is v x named stands same made =
        named-insert old new (IsGoodVector old) (IsGoodVector new) bits R S so at.link m at.named k v key x named stands (here (bind by_bytes at.named.bindings key v) same (made at.named.bindings map-is))

    pub removed-is : (found : Option Root) → found ≡ Some w → IfSome found (λ q. q.bits ≡ r.bits) → ((M : List (Binding Bytes)) → IsMapOf by_bytes text_code old r M → IfSome found (λ q. IsMapOf by_bytes text_code new q (unbind by_bytes key M)))
        → IsNamed (form_at new) (IsGoodVector new) bits S k (finite.remove m key)
    removed-is found there same made =
        let gone : List (Binding Bytes) = unbind by_bytes key at.named.bindings in
        let left = if-some found w (λ (q : Root). IsMapOf by_bytes text_code new q gone) there (made at.named.bindings map-is) in
        named-remove old new (IsGoodVector old) (IsGoodVector new) bits R S so at.link m at.named k key (here gone (if-some found w (λ (q : Root). q.bits ≡ r.bits) there same) left)

module _ {old : Heap Bytes} {bits : ℕ} {names : Names} {r : Root} (at : RootsSet old bits names r) where
  pub set-is : IsSetOf by_bytes text_code old r at.named.entries
  set-is = set-at old (IsGoodVector old) bits r at.link names at.fits at.named at.root at.by

  set-alike : (key : Bytes) → alike_to text_code r.bits key at.named.entries ≡ alike bits (finite.keys names) key
  set-alike key = ap (λ b. alike_to text_code b key at.named.entries) at.by ∙ names-alike (form_at old) (IsGoodVector old) bits at.link names at.named key

  pub set-ample : (key : Bytes) (n : ℕ) {c more : ℕ} {Said : Type 0} → ((E : List (Entry Bytes)) → IsSetOf by_bytes text_code old r E → HasSpares old c (n + alike_to text_code r.bits key E) → Said) → HasSpares old c (more + alike bits (finite.keys names) key) → n ≤ more → Said
  set-ample key n said spares enough = said at.named.entries set-is (spares.0, omega (arith, spares.1, set-alike key))

  pub set-found : (key : Bytes) {Nothing : Type 0} → ((E : List (Entry Bytes)) → IsSetOf by_bytes text_code old r E → Nothing ↔ (link_with by_bytes key E ≡ None)) → finite.contains_key names key ≡ true → Nothing → ⊥
  set-found key absent some nothing =
      let there = sym (at.named.reads key) ∙ ap is_some ((absent at.named.entries set-is).0 nothing) in
      cc

  pub added-answered : {new : Heap Bytes} {w k : ℕ} (key : Bytes) → k ≡ w → ((E : List (Entry Bytes)) → IsSetOf by_bytes text_code old r E → Answered old new [] w 1 (ADD_NODES + alike_to text_code r.bits key E))
      → Answered old new [] k 1 (ADD_NODES + alike bits (finite.keys names) key)
  added-answered key root answers =
      rw root (answered-more 1 (ADD_NODES + alike bits (finite.keys names) key) (answers at.named.entries set-is) (omega arith) (omega (arith, set-alike key)))

  pub taken-answered : {new : Heap Bytes} {found : Option Root} {w : Root} {k : ℕ} (key : Bytes) → found ≡ Some w → k ≡ w.root
      → ((E : List (Entry Bytes)) → IsSetOf by_bytes text_code old r E → IfSome found (λ q. Answered old new [] q.root 0 (LEVELS + alike_to text_code r.bits key E)))
      → Answered old new [] k 0 (LEVELS + alike bits (finite.keys names) key)
  taken-answered {new} {found} {w} key there root answers =
      let done = if-some found w (λ (q : Root). Answered old new [] q.root 0 (LEVELS + alike_to text_code r.bits key at.named.entries)) there (answers at.named.entries set-is) in
      rw root (answered-more 0 (LEVELS + alike bits (finite.keys names) key) done (omega arith) (omega (arith, set-alike key)))

  module _ {new : Heap Bytes} {w : Root} {k : ℕ} (key : Bytes) (root : k ≡ w.root) where
    set-here : (E : List (Entry Bytes)) → w.bits ≡ r.bits → IsSetOf by_bytes text_code new w E → IsSetOf by_bytes text_code new (record { root = k; bits = bits }) E
    set-here E same made =
        let is : w ≡ record { root = k; bits = bits } = λ i. record { root = (sym root) i; bits = (same ∙ at.by) i } in
        subst (λ (q : Root). IsSetOf by_bytes text_code new q E) is made

    pub added-is : (x : ℕ) → IsName key → w.bits ≡ r.bits → IsSetOf by_bytes text_code new w (entry key x ∷ at.named.entries) → AreNames (form_at new) (IsGoodVector new) bits k (finite.insert names key tt)
    added-is x named same made =
        names-insert old new (IsGoodVector old) (IsGoodVector new) bits at.link names at.named k x key named (set-here (entry key x ∷ at.named.entries) same made)

    pub taken-is : (found : Option Root) → found ≡ Some w → IfSome found (λ q. q.bits ≡ r.bits) → ((E : List (Entry Bytes)) → IsSetOf by_bytes text_code old r E → IfSome found (λ q. IsSetOf by_bytes text_code new q (others by_bytes key E)))
        → AreNames (form_at new) (IsGoodVector new) bits k (finite.remove names key)
    taken-is found there same made =
        let gone : List (Entry Bytes) = others by_bytes key at.named.entries in
        let left = if-some found w (λ (q : Root). IsSetOf by_bytes text_code new q gone) there (made at.named.entries set-is) in
        names-remove old new (IsGoodVector old) (IsGoodVector new) bits at.link names at.named k key (set-here gone (if-some found w (λ (q : Root). q.bits ≡ r.bits) there same) left)
