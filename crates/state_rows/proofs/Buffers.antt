-- A state row that was made its holder's own, and the map of its buffers, to which a buffer comes.
use Rattle.std.proofs.Common.{◌≡◌, ◌≢◌, ℕ, ◌+◌, ◌<◌, ◌≤◌, List, [], ◌∷◌, length, remove, set, Bool, true, false, cond, Option, Some, None, get_or, ap, sym, subst, refl, ◌∙◌, arith}
use Rattle.champ_kinds.specs.declared.map.TheConstants.{INSERT_NODES}
use Rattle.std.specs.Prelude.{option_to_list, option_map, ◌==◌, if◌then◌else◌}
use Rattle.std.specs.List.{All, find}
use Rattle.std.proofs.lemmas.List.Elements.{All-head, All-tail}
use Rattle.std.proofs.lemmas.Bool.Decides.{nat_tests}
use Rattle.elem_core.specs.Naming.{IsName}
use Rattle.std.specs.Option.{is_some}
use Rattle.std.specs.FinMap as finite
use Rattle.elem_core.specs.Codes.{text_code}
use Rattle.elem_core.specs.declared.codes.TheConstants.{CODE_BITS}
use Rattle.node_heap.specs.Links.{count, HasLink, Reaches, here, below}
use Rattle.node_heap.specs.Forms.{Row, Kind, kind_of, cell, node, state, links_of, head_of, form_of}
use Rattle.node_heap.specs.Heap.{Heap, row_at, form_at, links_at, holds_at, owners_at, IsGraph, HasSpares}
use Rattle.node_heap.specs.Calls.{Builds, KeepsBelow, KeepsHeld, Trades}
use Rattle.node_heap.specs.InPlace.{child_at, Changes}
use Rattle.node_heap.specs.declared.owner.Owner.TheVariants.{Hold as by_hold, Child as by_place}
use Rattle.node_heap.specs.Owner.{relinked, with_root, links_beside, KeepsBeside, EditsBy}
use Rattle.node_heap.proofs.Counts.{test_same, one_at-flip}
use Rattle.node_heap.proofs.BuildLemmas.{count-cons}
use Rattle.node_heap.proofs.EditLaws.{roots-off}
use Rattle.node_heap.proofs.OwnerLemmas.{held-root, EditsBy-hold, EditsBy-more, KeepsHeld-EditsBy}
use Rattle.node_heap.proofs.GraphLemmas.{IsGraph-acyclic}
use Rattle.rrb_core.specs.Vector.{IsGoodVector}
use Rattle.champ_chain.proofs.FrameLemmas.{links-form}
use Rattle.champ_kinds.specs.Root.{Root}
use Rattle.champ_kinds.specs.Binding.{Binding, alike_keys, bind, binds, value_with}
use Rattle.champ_kinds.specs.Kinds.{IsMapOf}
use Rattle.edit_trie.specs.Edit.{PutsValue}
use Rattle.edit_trie.specs.Laws.{EditsKeepValues}
use Rattle.shell_terms.specs.Edit.{Bytes}
use Rattle.plain_space.specs.Workspace.{State, with_lines}
use Rattle.plain_space.specs.Cost.{alike_buffers}
use Rattle.state_rows.specs.declared.edited_states.TheConstants.{BUFFER_MADE_NODES}
use Rattle.state_rows.specs.InHeap.{AreLinesIn, IsStateIn}
use Rattle.state_rows.proofs.Keys.{by_bytes}
use Rattle.state_rows.proofs.Contents.{bindings-alike, named-there}
use Rattle.state_rows.proofs.Staying.{buffers-grown, names-grown, grown, states-stay}
use Rattle.state_rows.proofs.Placed.{state-placed}
use Rattle.state_rows.proofs.Steps.{RootsMap, map-is, map-ample}

none-of : (o : Option ℕ) → is_some o ≡ false → o ≡ None
none-of None is = refl
none-of (Some k) is = absurd cc

module _ {old mid : Heap Bytes} {l r : ℕ} (graph : IsGraph old) (held : 0 < holds_at old l) (row : row_at mid r ≡ row_at old l) (sole : owners_at mid r ≡ 1) (builds : Builds old mid (l ∷ []) (r ∷ []) 0 1) where
  -- what is handed in beside the state is held still, and doesn't reach its row
  pub apart-row : (v : ℕ) → count v (l ∷ v ∷ []) ≤ holds_at old v → ¬ Reaches (links_at mid) v r
  apart-row v enough =
      roots-off mid r v (held-root graph held sole builds) sole
      (omega (arith, enough, builds.holds v, count-cons v l (v ∷ []), count-cons v v [], count-cons v l [], count-cons v r [], test_same v v refl, one_at-flip v r))

  module _ {bits : ℕ} (fits : bits ≤ CODE_BITS) {s : State} (is : IsStateIn old bits l s) where
    names-mid : child_at mid r 0 ≡ is.buffers
    names-mid = ap (λ w. get_or (links_of w) 0 0) row ∙ ap (λ ks. get_or ks 0 0) (sym (links-form old l) ∙ ap links_of is.row)

    pub buffers-mid : RootsMap mid bits (AreLinesIn mid bits) s.buffers (record { root = child_at mid r 0; bits = bits })
    buffers-mid = record { link = is.buffers; named = buffers-grown old mid builds.extends bits is.buffers s.buffers is.buffers_are; fits = fits; by = refl; root = names-mid }

    -- what a call says where it has the spares that it may take
    pub never-refused : (key : Bytes) {Said : Type 0} → ((M : List (Binding Bytes)) → IsMapOf by_bytes text_code mid (record { root = child_at mid r 0; bits = bits }) M → HasSpares mid 1 (INSERT_NODES + alike_keys text_code bits key M) → Said)
        → HasSpares old 1 (BUFFER_MADE_NODES + alike_buffers bits s key) → Said
    never-refused key said spares =
        map-ample buffers-mid key INSERT_NODES {more = INSERT_NODES} said
        (omega (arith, spares.0, builds.makes.spare_cells, builds.few_cells), omega (arith, spares.1, builds.makes.spare_nodes, builds.few_nodes)) (omega arith)

  -- the change at the row is an edit by the state's hold
  module _ {new : Heap Bytes} {v c n : ℕ} (given : Option ℕ) (change : Changes r mid new (v ∷ []) (option_to_list given) c n) where
    edits : EditsBy (by_hold l) old new r (v ∷ []) (option_to_list given) c (1 + n)
    edits = EditsBy-hold graph held sole builds change

    pub keeps-row : KeepsHeld (λ k. count k (l ∷ v ∷ [])) old new
    keeps-row = KeepsHeld-EditsBy edits

    pub trades-row : (m : ℕ) → given ≡ None → 1 + n ≤ m → Trades old new (l ∷ v ∷ []) (r ∷ []) c m
    trades-row m none more = subst (λ (q : Option ℕ). Trades old new (l ∷ v ∷ []) (r ∷ option_to_list q) c m) none (EditsBy-more c m edits (omega arith) more).trades

-- the state is held
pub held-first : (h : Heap Bytes) (l v : ℕ) → ((k : ℕ) → count k (l ∷ v ∷ []) ≤ holds_at h k) → 0 < holds_at h l
held-first h l v held = omega (arith, held l, count-cons l l (v ∷ []), test_same l l refl)

module _ {h : Heap Bytes} {bits : ℕ} (s : State) {r : Root} (at : RootsMap h bits (AreLinesIn h bits) s.buffers r) where
  pub absent-row : (key : Bytes) → finite.get s.buffers key ≡ None → value_with by_bytes key at.named.bindings ≡ None
  absent-row key none = none-of (value_with by_bytes key at.named.bindings) (named-there (form_at h) (IsGoodVector h) bits (AreLinesIn h bits) at.link s.buffers at.named key ∙ ap is_some none)

  pub alike-row : (key : Bytes) → alike_keys text_code bits key at.named.bindings ≡ alike_buffers bits s key
  alike-row key = bindings-alike (form_at h) (IsGoodVector h) bits (AreLinesIn h bits) at.link s.buffers at.named key

-- ## What the state stands for then

row-test : (p : ℕ) → (p == p) ≡ true
row-test p = grind (arith, nat_tests)

other-row : (l p : ℕ) → l ≢ p → (l == p) ≡ false
other-row l p other = grind (arith, nat_tests)

-- a state row with another map
relinked-state : (row : Option (Row Bytes)) {a b : ℕ} (root : ℕ) → option_map form_of row ≡ Some (node state (a ∷ b ∷ [])) → option_map form_of (relinked 0 root row) ≡ Some (node state (root ∷ b ∷ []))
relinked-state None root is = absurd (let h = is in cc)
relinked-state (Some (cell x)) root is = absurd (let h = is in cc)
relinked-state (Some (node head links)) {a} {b} root is =
    let kinds : Some (kind_of head) ≡ Some state = ap head_of is in
    let same : kind_of head ≡ state = cc in
    let all : links ≡ a ∷ b ∷ [] = ap links_of is in
    ap (λ (k : Kind). Some (node k (set links 0 root))) same ∙ ap (λ (ks : List ℕ). Some (node state (set ks 0 root))) all

module _ {mid new : Heap Bytes} {bits r v root : ℕ} {s : State} {key : Bytes} {xs : List Bytes} (graph : IsGraph mid) (held : 0 < holds_at mid r) (is : IsStateIn mid bits r s) (beside : KeepsBeside (by_place r 0) root (λ _. 0) mid new)
    (below_values : All (λ (b : Binding Bytes). KeepsBelow mid new b.value) is.buffers_are.bindings) (made : IsMapOf by_bytes text_code new (record { root = root; bits = bits }) (bind by_bytes is.buffers_are.bindings key v))
    (named : IsName key) (lines : AreLinesIn mid bits v xs) (line_held : 0 < holds_at mid v) (off : ¬ Reaches (links_at mid) v r) where
  way : (x y : ℕ) → Reaches (links_at mid) x y → ¬ Reaches (links_at mid) x r → Reaches (links_beside mid (by_place r 0)) x y
  way x y (here k) apart = here k
  way x y (below k j z has rest) apart =
      let other : k ≢ r = λ same. apart (subst (Reaches (links_at mid) k) same (here k)) in
      below k j z (subst (λ (t : Bool). 0 < count j (if t then remove (links_at mid k) 0 else links_at mid k)) (sym (other-row k r other)) has) (way j z rest (λ up. apart (below k j r has up)))

  stays-off : (m : ℕ) → m ≢ r → row_at new m ≡ with_root (by_place r 0) root m (row_at mid m) → row_at new m ≡ row_at mid m
  stays-off m other same = same ∙ ap (λ (t : Bool). if t then relinked 0 root (row_at mid m) else row_at mid m) (other-row m r other)

  lines-keep : KeepsBelow mid new v
  lines-keep m down = stays-off m (λ same. off (subst (Reaches (links_at mid) v) same down)) (beside v m line_held (way v m down off))

  links-row : links_at mid r ≡ is.buffers ∷ is.stars ∷ []
  links-row = sym (links-form mid r) ∙ ap links_of is.row

  stars-linked : HasLink (links_at mid) r is.stars
  stars-linked = omega (arith, ap (count is.stars) links-row, count-cons is.stars is.buffers (is.stars ∷ []), count-cons is.stars is.stars [], test_same is.stars is.stars refl)

  stars-off : ¬ Reaches (links_at mid) is.stars r
  stars-off = IsGraph-acyclic mid graph r is.stars stars-linked

  stars-beside : HasLink (links_beside mid (by_place r 0)) r is.stars
  stars-beside =
      subst (λ (t : Bool). 0 < count is.stars (if t then remove (links_at mid r) 0 else links_at mid r)) (sym (row-test r))
      (subst (λ (ks : List ℕ). 0 < count is.stars (remove ks 0)) (sym links-row) (omega (arith, count-cons is.stars is.stars [], test_same is.stars is.stars refl)))

  stars-keep : KeepsBelow mid new is.stars
  stars-keep m down = stays-off m (λ same. stars-off (subst (Reaches (links_at mid) is.stars) same down)) (beside r m held (below r is.stars m stars-beside (way is.stars m down stars-off)))

  row-new : form_at new r ≡ Some (node state (root ∷ is.stars ∷ []))
  row-new =
      ap (option_map form_of) (beside r r held (here r) ∙ ap (λ (t : Bool). if t then relinked 0 root (row_at mid r) else row_at mid r) (row-test r))
      ∙ relinked-state (row_at mid r) root is.row

  value-keeps : (M : List (Binding Bytes)) → All (λ (b : Binding Bytes). KeepsBelow mid new b.value) M → (name : Bytes) (k : ℕ) → value_with by_bytes name M ≡ Some k → KeepsBelow mid new k
  value-keeps [] all name k found = absurd cc
  value-keeps (b ∷ bs) all name k found = by_test (binds by_bytes name b) refl (λ rest. value-keeps bs (All-tail (λ (b : Binding Bytes). KeepsBelow mid new b.value) b bs all) name k rest)
    where
      by_test : (t : Bool) → binds by_bytes name b ≡ t → (value_with by_bytes name bs ≡ Some k → KeepsBelow mid new k) → KeepsBelow mid new k
      by_test true at rec =
          let first : Some b.value ≡ Some k = sym (ap (λ t. option_map (λ (d : Binding Bytes). d.value) (cond t (Some b) (find (binds by_bytes name) bs))) at) ∙ found in
          let same : b.value ≡ k = cc in
          subst (KeepsBelow mid new) same (All-head (λ (b : Binding Bytes). KeepsBelow mid new b.value) b bs all)
      by_test false at rec = rec (sym (ap (λ t. option_map (λ (d : Binding Bytes). d.value) (cond t (Some b) (find (binds by_bytes name) bs))) at) ∙ found)

  pub buffer-stands : IsStateIn new bits r (with_lines s key xs)
  buffer-stands =
      state-placed is r root v key xs named row-new made ((states-stay mid new bits v lines-keep).lines xs lines)
      (λ name other k found. value-keeps is.buffers_are.bindings below_values name k found) stars-keep

-- the whole call, over the law of edit_trie
module _ (keep : EditsKeepValues by_bytes text_code) {old mid new : Heap Bytes} {bits l r v : ℕ} {key : Bytes} {given : Option ℕ} (graph : IsGraph old) (held : (k : ℕ) → count k (l ∷ v ∷ []) ≤ holds_at old k) (row : row_at mid r ≡ row_at old l) (sole : owners_at mid r ≡ 1)
    (builds : Builds old mid (l ∷ []) (r ∷ []) 0 1) (fits : bits ≤ CODE_BITS) (named : IsName key)
    (puts : (M : List (Binding Bytes)) → IsMapOf by_bytes text_code mid (record { root = child_at mid r 0; bits = bits }) M → PutsValue by_bytes text_code (by_place r 0) bits mid new (child_at new r 0) M key v given) where
  pub buffer-is : (s : State) (xs : List Bytes) → IsStateIn old bits l s → AreLinesIn old bits v xs → IsStateIn new bits r (with_lines s key xs)
  buffer-is s xs is lines =
      let first = held-first old l v held in
      let at = buffers-mid graph first row sole builds fits is in
      let form : form_at mid r ≡ Some (node state (is.buffers ∷ is.stars ∷ [])) = ap (option_map form_of) row ∙ is.row in
      let did = puts at.named.bindings (map-is at) in
      let inside : 0 < length (links_at mid r) = omega (arith, ap length (sym (links-form mid r) ∙ ap links_of form)) in
      let kept = keep (by_place r 0) mid new (child_at new r 0) bits at.named.bindings key builds.graph inside (map-is at) did.others in
      let rows : form_at mid r ≡ Some (node state (at.link ∷ is.stars ∷ [])) = form ∙ ap (λ (k : ℕ). Some (node state (k ∷ is.stars ∷ []))) (sym (names-mid graph first row sole builds fits is) ∙ at.root) in
      buffer-stands builds.graph (held-root graph first sole builds)
      (record { buffers = at.link; stars = is.stars; row = rows; buffers_are = at.named; stars_are = names-grown old mid builds.extends bits is.stars s.stars is.stars_are })
      kept.beside kept.below did.map named ((grown old mid builds.extends bits v).lines xs lines)
      (omega (arith, builds.holds v, held v, count-cons v l (v ∷ []), count-cons v v [], count-cons v l [], count-cons v r [], test_same v v refl))
      (apart-row graph first row sole builds v (held v))
