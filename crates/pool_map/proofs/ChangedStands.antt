-- Where the rows of vectors have other links and the lines are changed, the roots stand for the workspace with its lines changed. What is
-- known of its lines alone may tell that they are changed to lines.
use Rattle.std.proofs.Common.{◌≡◌, ℕ, zero, suc, ◌<◌, true, false, List, [], ◌∷◌, map, Option, Some, None, option_map, refl, ap, sym, subst, ◌∙◌}
use Rattle.std.specs.Prelude.{slice_get}
use Rattle.std.specs.List.{All, AllZip}
use Rattle.std.specs.Ordering.{nat_cmp}
use Rattle.std.specs.Cmp.Lexicographic.{slice_cmp}
use Rattle.std.specs.FinMap as finite
use Rattle.std.proofs.lemmas.List.Elements.{All-nil, All-cons, All-head, All-tail}
use Rattle.elem_core.specs.Cell.{IsCell}
use Rattle.node_heap.specs.Links.{count}
use Rattle.node_heap.specs.Forms.{Form, Forms, cell, node, leaf, pair, state, links_in}
use Rattle.rrb_core.specs.Seq.{height_in, seq_at, seq, IsWell, IsWellShaped}
use Rattle.rrb_core.proofs.LinkCounts.{all-counted}
use Rattle.champ_chain.specs.Entry.{Entry}
use Rattle.champ_trie.specs.Trie.{code_by}
use Rattle.champ_kinds.specs.Binding.{Binding, value_with}
use Rattle.champ_kinds.specs.Kinds.{IsKeyCell, IsPair}
use Rattle.pool_order.proofs.Places.{flat_map-found}
use Rattle.pool_text.specs.Rows.{Bytes}
use Rattle.pool_text.specs.Rules.{Rules}
use Rattle.pool_text.specs.Pool.{relink}
use Rattle.pool_check.proofs.VectorReadings.{all-at}
use Rattle.plain_space.specs.Workspace.{Named, Names, State, Workspace}
use Rattle.plain_space.specs.Lines.{is_current, is_version, is_undone, is_redone, IsLineOf, IsLineIn}
use Rattle.state_rows.specs.Reading.{StandsIfThere, IsVectorOver, IsTrieOfNamesBy, IsNamedBy, AreNamesBy, IsText, AreLines, IsStateBy, AreVersionsBy, IsHistoryBy}
use Rattle.state_rows.specs.Standing.{IsBase, StandForBy}
use Rattle.pool_map.specs.Lines.{is_cell}
use Rattle.pool_map.specs.Plain.{with_values, changed_state, changed_space}
use Rattle.pool_carry.proofs.OwnVectors.{is_of_vector, VectorsStand, elements-stand, shaped-stands}
use Rattle.pool_map.proofs.TrieFrame.{KeepsOthers, canon-kept}
use Rattle.pool_map.proofs.PlainMaps.{get-values}

-- In G a row of a vector has the images of its links and each other row stays. A line cell has a changed cell for an image, and each
-- row that is no cell has itself.
pub record IsChanged (F G : Forms Bytes) (image : ℕ → ℕ) (change : Bytes → Bytes) (IsLine : ℕ → Type 0) : Type 0 where
  pub others : KeepsOthers F G
  pub vectors : (l : ℕ) (row : Form Bytes) → F l ≡ Some row → is_of_vector row ≡ true → G l ≡ Some (relink image row)
  pub stays : (l : ℕ) → is_cell (F l) ≡ false → image l ≡ l
  pub lines : (l : ℕ) (text : Bytes) → F l ≡ Some (cell text) → IsLine l → G (image l) ≡ Some (cell (change text))
  pub elements : (l k : ℕ) (links : List ℕ) → F l ≡ Some (node leaf links) → 0 < count k links → IsLine k

-- both are there or neither is, and so are they once changed
there-changed : {X Y : Type 0} (f : X → Y) (R : ℕ → X → Type 0) (S : ℕ → Y → Type 0) (A : X → Type 0) → ((k : ℕ) (x : X) → A x → R k x → S k (f x)) → (o : Option ℕ) (x : Option X) → ((y : X) → x ≡ Some y → A y) → StandsIfThere R o x → StandsIfThere S o (option_map f x)
there-changed f R S A so None None each stands = tt
there-changed f R S A so None (Some x) each stands = absurd stands
there-changed f R S A so (Some l) None each stands = absurd stands
there-changed f R S A so (Some l) (Some x) each stands = so l x (each x refl) stands

-- what stands for values one by one, under new links and once changed
zip-changed : {X Y : Type 0} (g : ℕ → ℕ) (f : X → Y) (P : ℕ → Type 0) (A : X → Type 0) (R : ℕ → X → Type 0) (S : ℕ → Y → Type 0) → ((k : ℕ) (x : X) → P k → A x → R k x → S (g k) (f x)) → (ks : List ℕ) (xs : List X)
    → All P ks → ((i : ℕ) (x : X) → slice_get xs i ≡ Some x → A x) → AllZip R ks xs → AllZip S (map g ks) (map f xs)
zip-changed g f P A R S so [] [] all each zip = tt
zip-changed g f P A R S so [] (x ∷ xs) all each zip = absurd zip
zip-changed g f P A R S so (k ∷ ks) [] all each zip = absurd zip
zip-changed g f P A R S so (k ∷ ks) (x ∷ xs) all each zip = (so k x (All-head P k ks all) (each 0 x refl) zip.0, zip-changed g f P A R S so ks xs (All-tail P k ks all) (λ i y is. each (suc i) y is) zip.1)

module _ (rules : Rules) (bits : ℕ) (F G : Forms Bytes) (image : ℕ → ℕ) (change : Bytes → Bytes) (IsLine : ℕ → Type 0) (is_changed : IsChanged F G image change IsLine)
    (Fits : Bytes → Type 0) (fits : (l : ℕ) (text : Bytes) → F l ≡ Some (cell text) → IsLine l → Fits text → IsCell (change text)) where
  abbrev V : ℕ → Type 0
  V = IsWellShaped F

  abbrev W : ℕ → Type 0
  W = IsWellShaped G

  -- the root of a vector keeps its name
  root-stays : (n l : ℕ) → IsWell F n l → image l ≡ l
  unfolding IsWell
  root-stays zero l well = is_changed.stays l (ap is_cell well.kind)
  root-stays (suc n) l well = is_changed.stays l (ap is_cell well.kind)

  vectors-stand : VectorsStand image F G
  vectors-stand l row is vector = ap G (is_changed.stays l (ap is_cell is ∙ no-cell row vector)) ∙ is_changed.vectors l row is vector
    where
      no-cell : (row : Form Bytes) → is_of_vector row ≡ true → is_cell (Some row) ≡ false
      no-cell (cell text) vector = cc
      no-cell (node kind links) vector = refl

  -- each element of a vector stands in a leaf
  seq-lines : (n l k : ℕ) → IsWell F n l → 0 < count k (seq_at F n l) → IsLine k
  unfolding IsWell seq_at
  seq-lines zero l k well some = is_changed.elements l k (links_in F l) well.kind some
  seq-lines (suc n) l k well some =
      let from = flat_map-found (seq_at F n) (links_in F l) k some in
      seq-lines n from.0 k (all-at (IsWell F n) (links_in F l) well.children from.0 from.1) from.2

  vector-stands : {X Y : Type 0} (f : X → Y) (A : X → Type 0) (R : ℕ → X → Type 0) (S : ℕ → Y → Type 0) → ((k : ℕ) (x : X) → IsLine k → A x → R k x → S (image k) (f x)) → (l : ℕ) (xs : List X)
      → ((i : ℕ) (x : X) → slice_get xs i ≡ Some x → A x) → IsVectorOver F V bits R l xs → IsVectorOver G W bits S l (map f xs)
  vector-stands f A R S so l xs each is =
      let same : image l ≡ l = root-stays (height_in F l) l is.vector.well in
      record {
        vector = subst W same (shaped-stands image F G vectors-stand l is.vector);
        values =
            subst (λ (ks : List ℕ). AllZip S ks (map f xs)) (sym (elements-stand image F G vectors-stand l is.vector) ∙ ap (seq G) same)
            (zip-changed image f IsLine A R S so (seq F l) xs (all-counted IsLine (seq F l) (λ k some. seq-lines (height_in F l) l k is.vector.well some)) each is.values);
      }

  text-stands : (l : ℕ) (text : Bytes) → IsLine l → Fits text → IsText F V bits l text → IsText G W bits (image l) (change text)
  text-stands l text line fit is = record { row = is_changed.lines l text is.row line; line = fits l text is.row line fit }

  -- each of these lines fits
  abbrev AllFit : List Bytes → Type 0
  AllFit xs = (i : ℕ) (text : Bytes) → slice_get xs i ≡ Some text → Fits text

  lines-stand : (l : ℕ) (xs : List Bytes) → AllFit xs → AreLines F V bits l xs → AreLines G W bits l (map change xs)
  lines-stand l xs fit is = vector-stands change Fits (IsText F V bits) (IsText G W bits) text-stands l xs fit is

  trie-stands : (l : ℕ) (E : List (Entry Bytes)) → IsTrieOfNamesBy rules F V bits l E → IsTrieOfNamesBy rules G W bits l E
  trie-stands l E is = record { trie = canon-kept F G is_changed.others (slice_cmp nat_cmp) (code_by rules.code_of bits) rules.deepest l E is.trie; names = is.names }

  cells-stand : (E : List (Entry Bytes)) → All (IsKeyCell F) E → All (IsKeyCell G) E
  cells-stand [] cells = All-nil (IsKeyCell G)
  cells-stand (e ∷ E) cells = All-cons (IsKeyCell G) e E (is_changed.others.kept e.link (cell e.key) (All-head (IsKeyCell F) e E cells) refl) (cells-stand E (All-tail (IsKeyCell F) e E cells))

  pairs-stand : (E : List (Entry Bytes)) (M : List (Binding Bytes)) → AllZip (IsPair F) E M → AllZip (IsPair G) E M
  pairs-stand [] [] pairs = tt
  pairs-stand [] (b ∷ M) pairs = absurd pairs
  pairs-stand (e ∷ E) [] pairs = absurd pairs
  pairs-stand (e ∷ E) (b ∷ M) pairs =
      let is = pairs.0 in (
        record { key_cell = is.key_cell; cell = is_changed.others.kept is.key_cell (cell e.key) is.cell refl; row = is_changed.others.kept e.link (node pair (is.key_cell ∷ b.value ∷ [])) is.row refl; key = is.key },
        pairs-stand E M pairs.1,
      )

  named-stands : {X Y : Type 0} (f : X → Y) (A : X → Type 0) (R : ℕ → X → Type 0) (S : ℕ → Y → Type 0) → ((k : ℕ) (x : X) → A x → R k x → S k (f x)) → (l : ℕ) (m : Named X) → ((name : Bytes) (x : X) → finite.get m name ≡ Some x → A x)
      → IsNamedBy rules F V bits R l m → IsNamedBy rules G W bits S l (with_values f m)
  named-stands f A R S so l m each is = record {
    entries = is.entries;
    bindings = is.bindings;
    trie = trie-stands l is.entries is.trie;
    pairs = pairs-stand is.entries is.bindings is.pairs;
    reads = λ name.
        subst (StandsIfThere S (value_with (slice_cmp nat_cmp) name is.bindings)) (sym (get-values f m name))
        (there-changed f R S A so (value_with (slice_cmp nat_cmp) name is.bindings) (finite.get m name) (each name) (is.reads name));
  }

  names-stand : (l : ℕ) (names : Names) → AreNamesBy rules F V bits l names → AreNamesBy rules G W bits l names
  names-stand l names is = record { entries = is.entries; trie = trie-stands l is.entries is.trie; cells = cells-stand is.entries is.cells; reads = is.reads }

  -- each line of the state fits
  abbrev StateFits : State → Type 0
  StateFits now = (text : Bytes) → IsLineOf now text → Fits text

  state-stands : (l : ℕ) (now : State) → StateFits now → IsStateBy rules F V bits l now → IsStateBy rules G W bits l (changed_state change now)
  state-stands l now fit is = record {
    buffers = is.buffers;
    stars = is.stars;
    row = is_changed.others.kept l (node state (is.buffers ∷ is.stars ∷ [])) is.row refl;
    buffers_are =
        named-stands (map change) AllFit (AreLines F V bits) (AreLines G W bits) lines-stand is.buffers now.buffers
        (λ name lines found i text line. fit text (record { name = name; lines = lines; index = i; buffer = found; line = line })) is.buffers_are;
    stars_are = names-stand is.stars now.stars is.stars_are;
  }

  versions-stand : (l : ℕ) (m : Named State) → ((name : Bytes) (now : State) → finite.get m name ≡ Some now → StateFits now) → AreVersionsBy rules F V bits l m → AreVersionsBy rules G W bits l (with_values (changed_state change) m)
  versions-stand l m fit is = named-stands (changed_state change) StateFits (IsStateBy rules F V bits) (IsStateBy rules G W bits) state-stands l m fit is

  history-stands : (l : ℕ) (states : List State) → ((i : ℕ) (now : State) → slice_get states i ≡ Some now → StateFits now) → IsHistoryBy rules F V bits l states → IsHistoryBy rules G W bits l (map (changed_state change) states)
  history-stands l states fit is =
      vector-stands (changed_state change) StateFits (IsStateBy rules F V bits) (IsStateBy rules G W bits)
      (λ k now _ fit is. subst (λ j. IsStateBy rules G W bits j (changed_state change now)) (sym (is_changed.stays k (ap is_cell is.row))) (state-stands k now fit is)) l states fit is

  base-stands : (base : List ℕ) (now : Option State) → ((s : State) → now ≡ Some s → StateFits s) → IsBase (IsStateBy rules F V bits) base now → IsBase (IsStateBy rules G W bits) base (option_map (changed_state change) now)
  base-stands [] None fit is = tt
  base-stands [] (Some now) fit is = absurd is
  base-stands (l ∷ []) None fit is = absurd is
  base-stands (l ∷ []) (Some now) fit is = state-stands l now (fit now refl) is
  base-stands (l ∷ m ∷ ls) now fit is = absurd is

  -- the roots stand for the changed workspace
  pub roots-stand : (roots : List ℕ) (space : Workspace) → ((text : Bytes) → IsLineIn space text → Fits text) → ((s : State) → space.base ≡ Some s → StateFits s)
      → StandForBy rules F V bits roots space → StandForBy rules G W bits roots (changed_space change space)
  roots-stand [] space fit fit_base is = absurd is
  roots-stand (c ∷ []) space fit fit_base is = absurd is
  roots-stand (c ∷ v ∷ []) space fit fit_base is = absurd is
  roots-stand (c ∷ v ∷ u ∷ []) space fit fit_base is = absurd is
  roots-stand (c ∷ v ∷ u ∷ r ∷ base) space fit fit_base is = (
    state-stands c space.current (λ text line. fit text (record { now = space.current; state = is_current refl; line = line })) is.0,
    versions-stand v space.versions (λ name now found text line. fit text (record { now = now; state = is_version name found; line = line })) is.1,
    history-stands u space.undo (λ i now found text line. fit text (record { now = now; state = is_undone i found; line = line })) is.2,
    history-stands r space.redo (λ i now found text line. fit text (record { now = now; state = is_redone i found; line = line })) is.3,
    base-stands base space.base fit_base is.4,
  )
