-- Maps that are edited in place of others, and what an edit by a hold makes of a root.
use Rattle.std.proofs.Common.{◌≡◌, ℕ, ◌+◌, ◌<◌, ◌≤◌, not, List, [], ◌∷◌, length, Option, Some, None, refl, ap, sym, ◌∙◌, subst, arith}
use Rattle.std.specs.Prelude.{IsSome, is_some}
use Rattle.std.specs.Cmp.{IsTotalOrder}
use Rattle.std.specs.FinMap.{put}
use Rattle.std.specs.List.{All}
use Rattle.std.specs.declared.cmp.Ordering.{Ordering}
use Rattle.std.proofs.lemmas.List.Elements.{All-filter}
use Rattle.elem_core.specs.declared.codes.TheConstants.{CODE_BITS}
use Rattle.node_heap.specs.Links.{count, here}
use Rattle.node_heap.specs.Forms.{cell, value_of}
use Rattle.node_heap.specs.Heap.{Heap, row_at, holds_at, hold_count, one_at, IsGraph}
use Rattle.node_heap.specs.Calls.{Adds, Extends, KeepsBelow, KeepsHeld, Releases, Unchanged}
use Rattle.node_heap.specs.declared.owner.Owner.TheVariants.{Hold as by_hold}
use Rattle.node_heap.specs.Owner.{EditsBy}
use Rattle.node_heap.proofs.CallerLemmas.{count-link, count-one, test_same, Extends-row, Extends-trans, KeepsHeld-EditsBy}
use Rattle.node_heap.proofs.Frames.{Reaches-live}
use Rattle.champ_kinds.specs.Root.{Root}
use Rattle.champ_kinds.specs.Binding.{bind, binds, unbind, value_with}
use Rattle.champ_kinds.specs.Kinds.{IsMapOf}
use Rattle.champ_kinds.proofs.StayLemmas.{map-live, map-reaches}
use Rattle.edit_trie.specs.Edit.{by_bits, CutsKey, PutsValue}
use Rattle.edit_trie.proofs.CallerLemmas.{cuts-keep-values, edits-keep-values}
use Rattle.versions.specs.declared.piece.Piece.{Piece}
use Rattle.versions.specs.declared.piece.Piece.TheVariants.{Key, Value}
use Rattle.versions.specs.Roots.{Edits, IsKind}
use Rattle.versions.specs.Rooted.{value_at}
use Rattle.versions.specs.Sorted.{remove_entry}
use Rattle.versions.specs.Keyed.{by_root}
use Rattle.versions.specs.Pieces.{piece_code, piece_order}
use Rattle.versions.specs.Bound.{IsKeyMap}
use Rattle.versions.proofs.EditLemmas.{one-held}
use Rattle.versions.proofs.MadeLemmas.{stays-extended}
use Rattle.versions.proofs.MakingLemmas.{cell-value}
use Rattle.versions.proofs.SortLemmas.{bound-by_keys, cut-by_keys, kept, other_keys}
use Rattle.versions.proofs.KeyedLemmas.{root-at}
use Rattle.versions.proofs.BoundLemmas.{bound-stays, map-kind, map-lacks, map-once, zip-bound, zip-others, zip-stays}

-- a map that was opened
pub map-opened : {K V : Type 0} (cmp : K → K → Ordering) (value_cmp : V → V → Ordering) (o : IsTotalOrder cmp) (p : IsTotalOrder value_cmp) (code : K → ℕ) (old new : Heap (Piece K V)) (l : ℕ) (r : Root) (es : List (K × V)) (is : IsKeyMap cmp value_cmp code old l es)
    → r.bits ≡ CODE_BITS → Extends old new → IsMapOf (piece_order cmp value_cmp) (piece_code code) new r is.bindings → IsKeyMap cmp value_cmp code new r.root es
map-opened cmp value_cmp o p code old new l r es is bits extends made = record {
  bindings = is.bindings;
  stands = subst (λ (q : Root). IsMapOf (piece_order cmp value_cmp) (piece_code code) new q is.bindings) (sym (root-at r bits)) made;
  entries = is.entries;
  bound = bound-stays cmp value_cmp o p code old new l es (extends.kept l (map-live old (by_root l) l refl is.stands)) is;
  sorted = is.sorted;
}

-- a root was opened, over links that are to be spent, and edited then, which gave links
module _ {T V : Type 0} {Is : Heap T → ℕ → V → Type 0} {read : Heap T → ℕ → V} (kind : IsKind Is read) {a o i : Heap T} (l : ℕ) {v w c n : ℕ} {spent given : List ℕ} (held : 0 < holds_at a l) (extends : Extends a o)
    (opened : (q : ℕ) → holds_at o q + one_at l q ≡ holds_at a q + count q spent + one_at v q) (more : hold_count o ≡ hold_count a + length spent) (did : EditsBy (by_hold v) o i w spent given c n) where
  edit-holds : (q : ℕ) → holds_at i q + one_at l q ≡ holds_at a q + one_at w q + count q given
  edit-holds q = omega (arith, opened q, did.trades.holds q, count-link q v spent, count-link q w given)

  edit-keeps : (q : ℕ) (y : V) → one_at l q < holds_at a q → Is a q y → Is i q y
  edit-keeps q y beside is =
      let on = KeepsHeld-EditsBy did in
      kind.stays o i q y (on.kept q (omega (arith, opened q, count-link q v spent, beside))) (stays-extended Is read kind a o extends q y is)

  pub edits-alone : (x : V) → given ≡ [] → Is i w x → Edits Is a i l w x
  edits-alone x none is = record {
    is = is;
    keeps = edit-keeps;
    holds = λ q. omega (arith, edit-holds q, ap (count q) none);
    count = omega (arith, more, did.trades.total, ap length none);
  }

  -- what came back is held
  pub edits-give : (g : ℕ) → given ≡ g ∷ [] → 0 < holds_at i g
  edits-give g some = omega (arith, edit-holds g, one-held a l g held, ap (count g) some, count-link g g [], test_same g g refl)

  pub edits-released : (d : Heap T) (g : ℕ) (x : V) → given ≡ g ∷ [] → Releases i d g → KeepsHeld (one_at g) i d → Is i w x → Edits Is a d l w x
  edits-released d g x some gone left is =
      let holds : (q : ℕ) → holds_at i q + one_at l q ≡ holds_at a q + one_at w q + one_at g q = λ q. omega (arith, edit-holds q, ap (count q) some, count-link q g []) in
      record {
        is = kind.stays i d w x (left.kept w (omega (arith, holds w, test_same w w refl, one-held a l w held))) is;
        keeps = λ q y beside was. kind.stays i d q y (left.kept q (omega (arith, holds q, beside))) (edit-keeps q y beside was);
        holds = λ q. omega (arith, holds q, gone.holds q);
        count = omega (arith, more, did.trades.total, ap length some, gone.count);
      }

module _ {K V : Type 0} (cmp : K → K → Ordering) (value_cmp : V → V → Ordering) (o : IsTotalOrder cmp) (p : IsTotalOrder value_cmp) (code : K → ℕ) (old new : Heap (Piece K V)) (v w bits : ℕ) (key : K) (es : List (K × V)) (is : IsKeyMap cmp value_cmp code old v es) (graph : IsGraph old) (held : 0 < holds_at old v) (all : bits ≡ CODE_BITS) where
  abbrev order : Piece K V → Piece K V → Ordering
  order = piece_order cmp value_cmp

  as-bits : IsMapOf order (piece_code code) old (by_bits bits v) is.bindings
  as-bits = subst (λ b. IsMapOf order (piece_code code) old (by_bits b v) is.bindings) (sym all) is.stands

  -- the map has the value at the key
  pub put-here : (value : V) (link : ℕ) (given : Option ℕ) → value_at old link ≡ Some (Value value) → KeepsBelow old new link → PutsValue order (piece_code code) (by_hold v) bits old new w is.bindings (Key key) link given → IsKeyMap cmp value_cmp code new w (put cmp key value es)
  put-here value link given at stays puts =
      let keep = edits-keep-values order (piece_code code) (by_hold v) old new w bits is.bindings (Key key) graph held as-bits puts.others in
      let same : All (λ b. value_at new b.value ≡ value_at old b.value) is.bindings = λ k d inside. ap value_of (keep.below k d inside _ (here _)) in
      record {
        bindings = bind order is.bindings (Key key) link;
        stands = subst (λ b. IsMapOf order (piece_code code) new (by_bits b w) (bind order is.bindings (Key key) link)) all puts.map;
        entries = (kept cmp key is.entries, value) ∷ other_keys cmp key is.entries;
        bound = zip-bound cmp value_cmp new key value link is.bindings is.entries (ap value_of (stays link (here link)) ∙ at) (zip-stays cmp value_cmp o p code old new is.bindings is.entries same is.bound);
        sorted = ap (put cmp key value) is.sorted ∙ sym (bound-by_keys cmp o key value is.entries (map-once cmp value_cmp o p code old v es is));
      }

  -- the map is without the key
  pub cut-here : (given : ℕ) → IsGraph new → CutsKey order (piece_code code) (by_hold v) bits old new w is.bindings (Key key) given → IsKeyMap cmp value_cmp code new w (remove_entry cmp es key)
  cut-here given graph' cuts =
      let left = unbind order (Key key) is.bindings in
      let keep = cuts-keep-values order (piece_code code) (by_hold v) old new w bits is.bindings (Key key) graph graph' held as-bits cuts.others in
      let keep-left = All-filter (λ b. not (binds order (Key key) b)) (λ b. IsSome (row_at new b.value) → KeepsBelow old new b.value) is.bindings keep in
      let live = map-live new (by_bits bits w) w refl cuts.map in
      let there : All (λ b. IsSome (row_at new b.value)) left = λ k d inside. Reaches-live new graph' w _ (map-reaches order (piece_code code) new (by_bits bits w) left cuts.map k d inside) live in
      let same : All (λ b. value_at new b.value ≡ value_at old b.value) left = λ k d inside. ap value_of (keep-left k d inside (there k d inside) _ (here _)) in
      record {
        bindings = left;
        stands = subst (λ b. IsMapOf order (piece_code code) new (by_bits b w) left) all cuts.map;
        entries = other_keys cmp key is.entries;
        bound = zip-stays cmp value_cmp o p code old new left (other_keys cmp key is.entries) same (zip-others cmp value_cmp old key is.bindings is.entries is.bound);
        sorted = ap (λ ds. remove_entry cmp ds key) is.sorted ∙ sym (cut-by_keys cmp o key is.entries);
      }

-- the steps of an edit of a map by its root: room is made, and the map opened over it, with a cell for a value before
module _ {K V : Type 0} (cmp : K → K → Ordering) (value_cmp : V → V → Ordering) (o : IsTotalOrder cmp) (p : IsTotalOrder value_cmp) (code : K → ℕ) (a r : Heap (Piece K V)) (l : ℕ) (held : 0 < holds_at a l) (rest : Unchanged a r) (first : Extends a r) where
  abbrev IsHere : Heap (Piece K V) → ℕ → List (K × V) → Type 0
  IsHere = IsKeyMap cmp value_cmp code

  module _ (f b : Heap (Piece K V)) (c : ℕ) (value : V) (edit : Root) (adds : Adds r f c (cell (Value value))) (more : Extends r f) (one : hold_count f ≡ hold_count r + 1) (opens : Extends f b) (did : EditsBy (by_hold l) f b edit.root [] [] 0 1) (bits : edit.bits ≡ CODE_BITS) where
    cell-holds : (q : ℕ) → holds_at f q ≡ holds_at a q + one_at c q
    cell-holds q = let put : holds_at f q + 0 ≡ holds_at r q + one_at c q = adds.holds q in omega (arith, put, rest.holds q)

    pub cell-held : 0 < holds_at f l
    cell-held = omega (arith, cell-holds l, held)

    put-holds : (q : ℕ) → holds_at b q + one_at l q ≡ holds_at a q + count q (c ∷ []) + one_at edit.root q
    put-holds q = omega (arith, cell-holds q, did.trades.holds q, count-one q l, count-one q edit.root, count-one q c)

    put-count : hold_count b ≡ hold_count a + 1
    put-count = omega (arith, one, rest.count, did.trades.total)

    pub put-both : (q : ℕ) → count q (edit.root ∷ c ∷ []) ≤ holds_at b q
    put-both q = omega (arith, put-holds q, one-held a l q held, count-link q edit.root (c ∷ []))

    put-owner : 0 < holds_at b edit.root
    put-owner = omega (arith, put-both edit.root, count-link edit.root edit.root (c ∷ []), test_same edit.root edit.root refl)

    put-cell : value_at b c ≡ Some (Value value)
    put-cell = ap value_of (Extends-row opens c (ap is_some adds.here)) ∙ cell-value r f c (Value value) adds

    module _ (es : List (K × V)) (is : IsHere a l es) (key : K) (made : IsMapOf (piece_order cmp value_cmp) (piece_code code) b edit is.bindings) (i : Heap (Piece K V)) (w : ℕ) (stays : KeepsBelow b i c) where
      put-extends : Extends a b
      put-extends = Extends-trans first (Extends-trans more opens)

      there : IsHere b edit.root es
      there = map-opened cmp value_cmp o p code a b l edit es is bits put-extends made

      now : (given : Option ℕ) → PutsValue (piece_order cmp value_cmp) (piece_code code) (by_hold edit.root) edit.bits b i w is.bindings (Key key) c given → IsHere i w (put cmp key value es)
      unfolding there map-opened
      now given puts = put-here cmp value_cmp o p code b i edit.root w edit.bits key es there did.trades.graph put-owner bits value c given put-cell stays puts

      pub put-alone : PutsValue (piece_order cmp value_cmp) (piece_code code) (by_hold edit.root) edit.bits b i w is.bindings (Key key) c None → Edits IsHere a i l w (put cmp key value es)
      put-alone puts = edits-alone (map-kind cmp value_cmp o p code) l held put-extends put-holds put-count puts.edits (put cmp key value es) refl (now None puts)

      pub put-over : (d : Heap (Piece K V)) (g : ℕ) → PutsValue (piece_order cmp value_cmp) (piece_code code) (by_hold edit.root) edit.bits b i w is.bindings (Key key) c (Some g) → Releases i d g → KeepsHeld (one_at g) i d → Edits IsHere a d l w (put cmp key value es)
      put-over d g puts gone left = edits-released (map-kind cmp value_cmp o p code) l held put-extends put-holds put-count puts.edits d g (put cmp key value es) refl gone left (now (Some g) puts)

      pub put-given : (g : ℕ) → PutsValue (piece_order cmp value_cmp) (piece_code code) (by_hold edit.root) edit.bits b i w is.bindings (Key key) c (Some g) → 0 < holds_at i g
      put-given g puts = edits-give (map-kind cmp value_cmp o p code) l held put-extends put-holds put-count puts.edits g refl

  module _ (b : Heap (Piece K V)) (edit : Root) (opens : Extends r b) (did : EditsBy (by_hold l) r b edit.root [] [] 0 1) (bits : edit.bits ≡ CODE_BITS) where
    pub room-held : 0 < holds_at r l
    room-held = omega (arith, rest.holds l, held)

    cut-holds : (q : ℕ) → holds_at b q + one_at l q ≡ holds_at a q + count q [] + one_at edit.root q
    cut-holds q = let none : count q [] ≡ 0 = refl in omega (arith, none, rest.holds q, did.trades.holds q, count-one q l, count-one q edit.root)

    cut-count : hold_count b ≡ hold_count a + 0
    cut-count = omega (arith, rest.count, did.trades.total)

    pub cut-owner : 0 < holds_at b edit.root
    cut-owner = let none : count edit.root [] ≡ 0 = refl in omega (arith, none, cut-holds edit.root, one-held a l edit.root held, test_same edit.root edit.root refl)

    module _ (es : List (K × V)) (is : IsHere a l es) (key : K) (made : IsMapOf (piece_order cmp value_cmp) (piece_code code) b edit is.bindings) where
      left-there : IsHere b edit.root es
      left-there = map-opened cmp value_cmp o p code a b l edit es is bits (Extends-trans first opens) made

      pub cut-none : value_with (piece_order cmp value_cmp) (Key key) is.bindings ≡ None → Edits IsHere a b l edit.root (remove_entry cmp es key)
      cut-none none =
          let same : remove_entry cmp es key ≡ es = map-lacks cmp value_cmp o p code a l key es is none in
          let nothing : (q : ℕ) → holds_at r q + one_at l q ≡ holds_at a q + count q [] + one_at l q = λ q. let empty : count q [] ≡ 0 = refl in omega (arith, empty, rest.holds q) in
          edits-alone (map-kind cmp value_cmp o p code) l {spent = []} held first nothing (omega (arith, rest.count)) did (remove_entry cmp es key) refl (subst (IsHere b edit.root) (sym same) left-there)

      module _ (i : Heap (Piece K V)) (w g : ℕ) (cuts : CutsKey (piece_order cmp value_cmp) (piece_code code) (by_hold edit.root) edit.bits b i w is.bindings (Key key) g) where
        pub cut-given : 0 < holds_at i g
        cut-given = edits-give (map-kind cmp value_cmp o p code) l held (Extends-trans first opens) cut-holds cut-count cuts.edits g refl

        pub cut-over : (d : Heap (Piece K V)) → Releases i d g → KeepsHeld (one_at g) i d → Edits IsHere a d l w (remove_entry cmp es key)
        unfolding left-there map-opened
        cut-over d gone left =
            edits-released (map-kind cmp value_cmp o p code) l held (Extends-trans first opens) cut-holds cut-count cuts.edits d g (remove_entry cmp es key) refl gone left
            (cut-here cmp value_cmp o p code b i edit.root w edit.bits key es left-there did.trades.graph cut-owner bits g cuts.edits.trades.graph cuts)
