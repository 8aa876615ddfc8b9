-- Where the images of a pool's rows stand, the images of its roots stand for the same workspace by the new rules.
use Rattle.std.proofs.Common.{◌≡◌, ℕ, ◌+◌, Bool, true, false, cond, List, [], ◌∷◌, map, Option, Some, None, option_map, is_some, refl, ap, sym, subst, ◌∙◌}
use Rattle.std.specs.List.{All, AllZip, find}
use Rattle.std.specs.Ordering.{nat_cmp}
use Rattle.std.specs.Cmp.Lexicographic.{slice_cmp}
use Rattle.std.specs.FinMap as finite
use Rattle.std.proofs.lemmas.List.Elements.{All-nil, All-cons, All-head, All-tail, All-map}
use Rattle.elem_core.specs.Naming.{IsName}
use Rattle.node_heap.specs.Forms.{Forms, cell, node, trie, pair, state}
use Rattle.rrb_core.specs.Seq.{seq, IsWellShaped}
use Rattle.champ_chain.specs.Entry.{Entry, SameSet, link_with, has_key}
use Rattle.champ_trie.specs.Trie.{IsCanonTo, code_by}
use Rattle.champ_trie.proofs.GatherLemmas.{same-map}
use Rattle.champ_kinds.specs.Binding.{Binding, binds, value_with}
use Rattle.champ_kinds.specs.Kinds.{IsKeyCell, IsPair}
use Rattle.pool_text.specs.Rules.{Rules}
use Rattle.pool_text.specs.Pool.{forms_in, row_count}
use Rattle.pool_text.specs.declared.pool.Pool.{Pool}
use Rattle.pool_check.specs.Tries.{entries_below}
use Rattle.pool_check.specs.Kinds.{is_trie_root}
use Rattle.pool_check.specs.Readings.{moved}
use Rattle.pool_check.specs.Damages.{IsValidBy}
use Rattle.pool_check.proofs.PoolLaws.{get-low, trie-roots-canonical}
use Rattle.shell_terms.specs.Edit.{Bytes}
use Rattle.plain_space.specs.Workspace.{Named, Names, State, Workspace}
use Rattle.state_rows.specs.Reading.{StandsIfThere, IsVectorOver, IsTrieOfNamesBy, IsNamedBy, AreNamesBy, IsText, AreLines, IsStateBy, AreVersionsBy, IsHistoryBy}
use Rattle.state_rows.specs.Standing.{IsBase, StandForBy}
use Rattle.state_rows.proofs.Renamed.{moved_binding, zip-moved}
use Rattle.state_rows.proofs.TrieSets.{one-set}
use Rattle.pool_carry.specs.Carried.{AreImages}
use Rattle.pool_carry.proofs.OwnVectors.{VectorsStand, OwnStand, own-vectors, own-stand, elements-stand, shaped-stands}
use Rattle.pool_carry.proofs.CanonOrder.{canon-order, root-row}

-- what stands for a value at a name has an image that stands for it
reads-stand : {X : Type 0} (f : ℕ → ℕ) (R S : ℕ → X → Type 0) → ((k : ℕ) (x : X) → R k x → S (f k) x) → (name : Bytes) (M : List (Binding Bytes)) (x : Option X)
    → StandsIfThere R (value_with (slice_cmp nat_cmp) name M) x → StandsIfThere S (value_with (slice_cmp nat_cmp) name (map (moved_binding f) M)) x
reads-stand f R S so name [] None stands = tt
reads-stand f R S so name [] (Some x) stands = absurd stands
reads-stand {X} f R S so name (b ∷ M) x stands = at_head (binds (slice_cmp nat_cmp) name b) x (reads-stand f R S so name M) stands
  where
    at_head : (here : Bool) (x : Option X)
        → ((y : Option X) → StandsIfThere R (value_with (slice_cmp nat_cmp) name M) y → StandsIfThere S (value_with (slice_cmp nat_cmp) name (map (moved_binding f) M)) y)
        → StandsIfThere R (option_map (λ (c : Binding Bytes). c.value) (cond here (Some b) (find (binds (slice_cmp nat_cmp) name) M))) x
        → StandsIfThere S (option_map (λ (c : Binding Bytes). c.value) (cond here (Some (moved_binding f b)) (find (binds (slice_cmp nat_cmp) name) (map (moved_binding f) M)))) x
    at_head true None later is = absurd is
    at_head true (Some y) later is = so b.value y is
    at_head false y later is = later y is

-- a name that is there is there under its new link
has-moved : (f : ℕ → ℕ) (name : Bytes) (E : List (Entry Bytes)) → is_some (link_with (slice_cmp nat_cmp) name (map (moved f) E)) ≡ is_some (link_with (slice_cmp nat_cmp) name E)
has-moved f name [] = refl
has-moved f name (e ∷ E) = at_head (has_key (slice_cmp nat_cmp) name e) (has-moved f name E)
  where
    at_head : (here : Bool) → is_some (link_with (slice_cmp nat_cmp) name (map (moved f) E)) ≡ is_some (link_with (slice_cmp nat_cmp) name E)
        → is_some (option_map (λ (d : Entry Bytes). d.link) (cond here (Some (moved f e)) (find (has_key (slice_cmp nat_cmp) name) (map (moved f) E))))
        ≡ is_some (option_map (λ (d : Entry Bytes). d.link) (cond here (Some e) (find (has_key (slice_cmp nat_cmp) name) E)))
    at_head true later = refl
    at_head false later = later

-- own rows under their images: cells of keys, and pairs
module _ (f : ℕ → ℕ) (F G : Forms Bytes) (own : OwnStand f F G) where
  cells-stand : (E : List (Entry Bytes)) → All (IsKeyCell F) E → All (IsKeyCell G) (map (moved f) E)
  cells-stand [] cells = All-nil (IsKeyCell G)
  cells-stand (e ∷ E) cells =
      All-cons (IsKeyCell G) (moved f e) (map (moved f) E) (own e.link (cell e.key) (All-head (IsKeyCell F) e E cells) refl) (cells-stand E (All-tail (IsKeyCell F) e E cells))

  pair-stands : (e : Entry Bytes) (b : Binding Bytes) → IsPair F e b → IsPair G (moved f e) (moved_binding f b)
  pair-stands e b is = record { key_cell = f is.key_cell; cell = own is.key_cell (cell e.key) is.cell refl; row = own e.link (node pair (is.key_cell ∷ b.value ∷ [])) is.row refl; key = is.key }

  pairs-stand : (E : List (Entry Bytes)) (M : List (Binding Bytes)) → AllZip (IsPair F) E M → AllZip (IsPair G) (map (moved f) E) (map (moved_binding f) M)
  pairs-stand [] [] pairs = tt
  pairs-stand [] (b ∷ M) pairs = absurd pairs
  pairs-stand (e ∷ E) [] pairs = absurd pairs
  pairs-stand (e ∷ E) (b ∷ M) pairs = (pair-stands e b pairs.0, pairs-stand E M pairs.1)

module _ (from to : Rules) (bits : ℕ) (P : Pool) (valid : IsValidBy from P) (f : ℕ → ℕ) (G : Forms Bytes) (images : AreImages to bits P f G) where
  abbrev F : Forms Bytes
  F = forms_in P

  abbrev V : ℕ → Type 0
  V = IsWellShaped (forms_in P)

  abbrev W : ℕ → Type 0
  W = IsWellShaped G

  own : OwnStand f (forms_in P) G
  own = own-stand to bits P f G images

  vectors : VectorsStand f (forms_in P) G
  vectors = own-vectors f (forms_in P) G own

  -- the image of the root of a trie is that of the trie of the entries' images
  canon-stands : (l : ℕ) (E : List (Entry Bytes)) → IsCanonTo (slice_cmp nat_cmp) (code_by from.code_of P.bits) from.deepest F l E → IsCanonTo (slice_cmp nat_cmp) (code_by to.code_of bits) to.deepest G (f l) (map (moved f) E)
  canon-stands l E canon =
      let code : Bytes → ℕ = code_by from.code_of P.bits in
      let D : List (Entry Bytes) = entries_below (row_count P) F l in
      let row = root-row code F from.deepest l E canon in
      let root : is_trie_root (F l) ≡ true = ap is_trie_root row.3 in
      let same : SameSet D E = one-set code F (from.deepest + 1) 0 l D E (trie-roots-canonical P valid l root).trie canon.trie in
      canon-order (code_by to.code_of bits) G to.deepest (f l) (map (moved f) D) (map (moved f) E) (same-map (moved f) D E same) (images.tries l (get-low P.rows l (node (trie 0 row.0 row.1) row.2) row.3) root)

  trie-stands : (l : ℕ) (E : List (Entry Bytes)) → IsTrieOfNamesBy from F V P.bits l E → IsTrieOfNamesBy to G W bits (f l) (map (moved f) E)
  trie-stands l E is = record { trie = canon-stands l E is.trie; names = All-map (λ e. IsName e.key) (moved f) E is.names }

  vector-stands : {X : Type 0} (R S : ℕ → X → Type 0) → ((k : ℕ) (x : X) → R k x → S (f k) x) → (l : ℕ) (xs : List X) → IsVectorOver F V P.bits R l xs → IsVectorOver G W bits S (f l) xs
  vector-stands R S so l xs is = record {
    vector = shaped-stands f F G vectors l is.vector;
    values = subst (λ (ks : List ℕ). AllZip S ks xs) (sym (elements-stand f F G vectors l is.vector)) (zip-moved f (λ _. Unit {0}) R S (λ k x _ is. so k x is) (seq F l) xs (λ i d low. tt) is.values);
  }

  named-stands : {X : Type 0} (R S : ℕ → X → Type 0) → ((k : ℕ) (x : X) → R k x → S (f k) x) → (l : ℕ) (m : Named X) → IsNamedBy from F V P.bits R l m → IsNamedBy to G W bits S (f l) m
  named-stands R S so l m is = record {
    entries = map (moved f) is.entries;
    bindings = map (moved_binding f) is.bindings;
    trie = trie-stands l is.entries is.trie;
    pairs = pairs-stand f F G own is.entries is.bindings is.pairs;
    reads = λ name. reads-stand f R S so name is.bindings (finite.get m name) (is.reads name);
  }

  names-stand : (l : ℕ) (names : Names) → AreNamesBy from F V P.bits l names → AreNamesBy to G W bits (f l) names
  names-stand l names is = record {
    entries = map (moved f) is.entries;
    trie = trie-stands l is.entries is.trie;
    cells = cells-stand f F G own is.entries is.cells;
    reads = λ name. has-moved f name is.entries ∙ is.reads name;
  }

  text-stands : (l : ℕ) (text : Bytes) → IsText F V P.bits l text → IsText G W bits (f l) text
  text-stands l text is = record { row = own l (cell text) is.row refl; line = is.line }

  lines-stand : (l : ℕ) (xs : List Bytes) → AreLines F V P.bits l xs → AreLines G W bits (f l) xs
  lines-stand l xs is = vector-stands (IsText F V P.bits) (IsText G W bits) text-stands l xs is

  pub state-stands : (l : ℕ) (now : State) → IsStateBy from F V P.bits l now → IsStateBy to G W bits (f l) now
  state-stands l now is = record {
    buffers = f is.buffers;
    stars = f is.stars;
    row = own l (node state (is.buffers ∷ is.stars ∷ [])) is.row refl;
    buffers_are = named-stands (AreLines F V P.bits) (AreLines G W bits) lines-stand is.buffers now.buffers is.buffers_are;
    stars_are = names-stand is.stars now.stars is.stars_are;
  }

  versions-stand : (l : ℕ) (m : Named State) → AreVersionsBy from F V P.bits l m → AreVersionsBy to G W bits (f l) m
  versions-stand l m is = named-stands (IsStateBy from F V P.bits) (IsStateBy to G W bits) state-stands l m is

  history-stands : (l : ℕ) (states : List State) → IsHistoryBy from F V P.bits l states → IsHistoryBy to G W bits (f l) states
  history-stands l states is = vector-stands (IsStateBy from F V P.bits) (IsStateBy to G W bits) state-stands l states is

  base-stands : (base : List ℕ) (now : Option State) → IsBase (IsStateBy from F V P.bits) base now → IsBase (IsStateBy to G W bits) (map f base) now
  base-stands [] None is = tt
  base-stands [] (Some now) is = absurd is
  base-stands (l ∷ []) None is = absurd is
  base-stands (l ∷ []) (Some now) is = state-stands l now is
  base-stands (l ∷ m ∷ ls) now is = absurd is

  -- the images of roots that stand for a workspace stand for it
  pub images-stand : (roots : List ℕ) (space : Workspace) → StandForBy from F V P.bits roots space → StandForBy to G W bits (map f roots) space
  images-stand [] space is = absurd is
  images-stand (c ∷ []) space is = absurd is
  images-stand (c ∷ v ∷ []) space is = absurd is
  images-stand (c ∷ v ∷ u ∷ []) space is = absurd is
  images-stand (c ∷ v ∷ u ∷ r ∷ base) space is = (
    state-stands c space.current is.0,
    versions-stand v space.versions is.1,
    history-stands u space.undo is.2,
    history-stands r space.redo is.3,
    base-stands base space.base is.4,
  )
