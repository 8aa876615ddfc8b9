-- What rows stand for they stand for under other links too, in whatever forms.
use Rattle.std.proofs.Common.{◌≡◌, ℕ, ◌+◌, ◌<◌, Bool, List, [], ◌∷◌, Option, Some, None, option_map, is_some, true, false, cond, map, refl, ap, sym, subst, ◌∙◌, arith}
use Rattle.std.specs.List.{All, AllZip, find}
use Rattle.std.specs.Ordering.{nat_cmp}
use Rattle.std.specs.Cmp.Lexicographic.{slice_cmp}
use Rattle.std.specs.FinMap as finite
use Rattle.std.proofs.lemmas.List.Elements.{All-nil, All-cons, All-head, All-tail, All-map}
use Rattle.elem_core.specs.Naming.{IsName}
use Rattle.node_heap.specs.Links.{count, HasLink, Reaches, here, below}
use Rattle.node_heap.specs.Forms.{Forms, Kind, node, state, links_of, links_in}
use Rattle.node_heap.proofs.Counts.{test_same, count-cons}
use Rattle.node_heap.proofs.Reach.{Reaches-then, Reaches-trans}
use Rattle.rrb_core.specs.Seq.{seq}
use Rattle.champ_chain.specs.Entry.{Entry, link_with, has_key}
use Rattle.champ_trie.specs.Trie.{code_by}
use Rattle.champ_trie.proofs.StayLemmas.{trie-reach}
use Rattle.champ_kinds.specs.Binding.{Binding, binding, binds, value_with}
use Rattle.champ_kinds.specs.Kinds.{IsKeyCell, IsPair}
use Rattle.pool_text.specs.Rules.{Rules}
use Rattle.pool_text.specs.Pool.{relink}
use Rattle.pool_text.specs.Renaming.{IsRenamed}
use Rattle.pool_text.proofs.Renamed.{renamed-below}
use Rattle.pool_check.specs.Readings.{moved}
use Rattle.pool_check.proofs.VectorReadings.{vector-reads-the-same}
use Rattle.pool_check.proofs.TrieReadings.{trie-reads-the-same}
use Rattle.shell_terms.specs.Edit.{Bytes}
use Rattle.plain_space.specs.Workspace.{Named, Names, State, Workspace}
use Rattle.state_rows.specs.Reading.{StandsIfThere, IsVectorOver, IsText, AreLines, IsTrieOfNamesBy, IsNamedBy, AreNamesBy, IsStateBy, AreVersionsBy, IsHistoryBy}
use Rattle.state_rows.specs.Standing.{IsBase, StandForBy}

-- the links of a row with two links are below it
pub first-link : {K : Type 0} (F : Forms K) (l k m : ℕ) (kind : Kind) → F l ≡ Some (node kind (k ∷ m ∷ [])) → HasLink (links_in F) l k
first-link F l k m kind is = omega (arith, ap (λ r. count k (links_of r)) is, count-cons k k (m ∷ []), test_same k k refl)

pub second-link : {K : Type 0} (F : Forms K) (l k m : ℕ) (kind : Kind) → F l ≡ Some (node kind (k ∷ m ∷ [])) → HasLink (links_in F) l m
second-link F l k m kind is = omega (arith, ap (λ r. count m (links_of r)) is, count-cons m k (m ∷ []), count-cons m m [], test_same m m refl)

-- what holds of each element and its value, where the element is so, holds under other links
pub zip-moved : {A B X : Type 0} (g : A → B) (P : A → Type 0) (R : A → X → Type 0) (S : B → X → Type 0) → ((a : A) (x : X) → P a → R a x → S (g a) x)
    → (ks : List A) (xs : List X) → All P ks → AllZip R ks xs → AllZip S (map g ks) xs
zip-moved g P R S so [] [] all zip = tt
zip-moved g P R S so [] (x ∷ xs) all zip = absurd zip
zip-moved g P R S so (k ∷ ks) [] all zip = absurd zip
zip-moved g P R S so (k ∷ ks) (x ∷ xs) all zip = (so k x (All-head P k ks all) zip.0, zip-moved g P R S so ks xs (All-tail P k ks all) zip.1)

module _ {K : Type 0} (f : ℕ → ℕ) where
  -- the binding under its new link
  abbrev pub moved_binding : Binding K → Binding K
  moved_binding b = binding b.key (f b.value)

module _ (f : ℕ → ℕ) (G H : Forms Bytes) where
  -- the rows that the link reaches stand under other links
  pub keys-moved : (l : ℕ) → IsRenamed f G H l → (E : List (Entry Bytes)) → All (λ e. Reaches (links_in G) l e.link) E → All (IsKeyCell G) E → All (IsKeyCell H) (map (moved f) E)
  keys-moved l image [] down cells = All-nil (IsKeyCell H)
  keys-moved l image (e ∷ E) down cells =
      let Down = λ (d : Entry Bytes). Reaches (links_in G) l d.link in
      All-cons (IsKeyCell H) (moved f e) (map (moved f) E) (image e.link (All-head Down e E down) ∙ ap (option_map (relink f)) (All-head (IsKeyCell G) e E cells))
      (keys-moved l image E (All-tail Down e E down) (All-tail (IsKeyCell G) e E cells))

  pair-moved : (l : ℕ) → IsRenamed f G H l → (e : Entry Bytes) (b : Binding Bytes) → Reaches (links_in G) l e.link → IsPair G e b → IsPair H (moved f e) (moved_binding f b)
  pair-moved l image e b down is = record {
    key_cell = f is.key_cell;
    cell = image is.key_cell (Reaches-then (links_in G) l e.link is.key_cell down (first-link G e.link is.key_cell b.value _ is.row)) ∙ ap (option_map (relink f)) is.cell;
    row = image e.link down ∙ ap (option_map (relink f)) is.row;
    key = is.key;
  }

  pub pairs-moved : (l : ℕ) → IsRenamed f G H l → (E : List (Entry Bytes)) (M : List (Binding Bytes)) → All (λ e. Reaches (links_in G) l e.link) E
      → AllZip (IsPair G) E M → AllZip (IsPair H) (map (moved f) E) (map (moved_binding f) M)
  pairs-moved l image [] [] down pairs = tt
  pairs-moved l image [] (b ∷ M) down pairs = absurd pairs
  pairs-moved l image (e ∷ E) [] down pairs = absurd pairs
  pairs-moved l image (e ∷ E) (b ∷ M) down pairs =
      let Down = λ (d : Entry Bytes). Reaches (links_in G) l d.link in
      (pair-moved l image e b (All-head Down e E down) pairs.0, pairs-moved l image E M (All-tail Down e E down) pairs.1)

-- the root of entries reaches their values
pub values-below : (F : Forms Bytes) (l : ℕ) (E : List (Entry Bytes)) (M : List (Binding Bytes)) → All (λ e. Reaches (links_in F) l e.link) E
    → AllZip (IsPair F) E M → All (λ b. Reaches (links_in F) l b.value) M
values-below F l [] [] down pairs = All-nil (λ b. Reaches (links_in F) l b.value)
values-below F l [] (b ∷ M) down pairs = absurd pairs
values-below F l (e ∷ E) [] down pairs = absurd pairs
values-below F l (e ∷ E) (b ∷ M) down pairs =
    let Down = λ (d : Entry Bytes). Reaches (links_in F) l d.link in
    All-cons (λ c. Reaches (links_in F) l c.value) b M (Reaches-then (links_in F) l e.link b.value (All-head Down e E down) (second-link F e.link pairs.0.key_cell b.value _ pairs.0.row))
    (values-below F l E M (All-tail Down e E down) pairs.1)

-- a value that stands at a name stands there under its new link
reads-moved : {X : Type 0} (f : ℕ → ℕ) (P : ℕ → Type 0) (R S : ℕ → X → Type 0) → ((k : ℕ) (x : X) → P k → R k x → S (f k) x) → (name : Bytes) (M : List (Binding Bytes)) (x : Option X)
    → All (λ b. P b.value) M → StandsIfThere R (value_with (slice_cmp nat_cmp) name M) x → StandsIfThere S (value_with (slice_cmp nat_cmp) name (map (moved_binding f) M)) x
reads-moved f P R S so name [] None all stands = tt
reads-moved f P R S so name [] (Some x) all stands = absurd stands
reads-moved {X} f P R S so name (b ∷ M) x all stands =
    at_head (binds (slice_cmp nat_cmp) name b) x (All-head (λ c. P c.value) b M all) (λ y is. reads-moved f P R S so name M y (All-tail (λ c. P c.value) b M all) is) stands
  where
    at_head : (here : Bool) (x : Option X) → P b.value
        → ((y : Option X) → StandsIfThere R (value_with (slice_cmp nat_cmp) name M) y → StandsIfThere S (value_with (slice_cmp nat_cmp) name (map (moved_binding f) M)) y)
        → StandsIfThere R (option_map (λ (c : Binding Bytes). c.value) (cond here (Some b) (find (binds (slice_cmp nat_cmp) name) M))) x
        → StandsIfThere S (option_map (λ (c : Binding Bytes). c.value) (cond here (Some (moved_binding f b)) (find (binds (slice_cmp nat_cmp) name) (map (moved_binding f) M)))) x
    at_head true None p later is = absurd is
    at_head true (Some y) p later is = so b.value y p is
    at_head false y p later is = later y is

-- a name that is there is there under its new link
has-moved : (f : ℕ → ℕ) (name : Bytes) (E : List (Entry Bytes)) → is_some (link_with (slice_cmp nat_cmp) name (map (moved f) E)) ≡ is_some (link_with (slice_cmp nat_cmp) name E)
has-moved f name [] = refl
has-moved f name (e ∷ E) = at_head (has_key (slice_cmp nat_cmp) name e) (has-moved f name E)
  where
    at_head : (here : Bool) → is_some (link_with (slice_cmp nat_cmp) name (map (moved f) E)) ≡ is_some (link_with (slice_cmp nat_cmp) name E)
        → is_some (option_map (λ (d : Entry Bytes). d.link) (cond here (Some (moved f e)) (find (has_key (slice_cmp nat_cmp) name) (map (moved f) E))))
        ≡ is_some (option_map (λ (d : Entry Bytes). d.link) (cond here (Some e) (find (has_key (slice_cmp nat_cmp) name) E)))
    at_head true later = refl
    at_head false later = later

-- the rows that a link reaches stand under other links, and the vectors among them are vectors there
pub record GoesOver (f : ℕ → ℕ) (G H : Forms Bytes) (V W : ℕ → Type 0) (l : ℕ) : Type 0 where
  pub renamed : IsRenamed f G H l
  pub vectors : (k : ℕ) → Reaches (links_in G) l k → V k → W (f k)

module _ (f : ℕ → ℕ) (G H : Forms Bytes) (V W : ℕ → Type 0) (bits : ℕ) where
  pub goes-below : (l k : ℕ) → Reaches (links_in G) l k → GoesOver f G H V W l → GoesOver f G H V W k
  goes-below l k down over = record {
    renamed = renamed-below f G H l k down over.renamed;
    vectors = λ m more. over.vectors m (Reaches-trans (links_in G) l k m down more);
  }

  pub text-over : (l : ℕ) (text : Bytes) → GoesOver f G H V W l → IsText G V bits l text → IsText H W bits (f l) text
  text-over l text over is = record { row = over.renamed l (here l) ∙ ap (option_map (relink f)) is.row; line = is.line }

  pub vector-over : {X : Type 0} (R S : ℕ → X → Type 0) (l : ℕ) (xs : List X) → GoesOver f G H V W l → ((k : ℕ) (x : X) → GoesOver f G H V W k → R k x → S (f k) x)
      → IsVectorOver G V bits R l xs → IsVectorOver H W bits S (f l) xs
  vector-over R S l xs over so is =
      let reads = vector-reads-the-same f G H ℕ l over.renamed in
      record {
        vector = over.vectors l (here l) is.vector;
        values =
            subst (λ (ks : List ℕ). AllZip S ks xs) (sym reads.elements)
            (zip-moved f (Reaches (links_in G) l) R S (λ k x down. so k x (goes-below l k down over)) (seq G l) xs reads.reached is.values);
      }

  pub lines-over : (l : ℕ) (xs : List Bytes) → GoesOver f G H V W l → AreLines G V bits l xs → AreLines H W bits (f l) xs
  lines-over l xs over is = vector-over (IsText G V bits) (IsText H W bits) l xs over text-over is

  module _ {rules : Rules} where
    trie-over : (l : ℕ) (E : List (Entry Bytes)) → GoesOver f G H V W l → IsTrieOfNamesBy rules G V bits l E → IsTrieOfNamesBy rules H W bits (f l) (map (moved f) E)
    trie-over l E over is = record {
      trie = (trie-reads-the-same f G H l over.renamed ℕ).canonical (slice_cmp nat_cmp) (code_by rules.code_of bits) rules.deepest E is.trie;
      names = All-map (λ e. IsName e.key) (moved f) E is.names;
    }

    entries-below : (l : ℕ) (E : List (Entry Bytes)) → IsTrieOfNamesBy rules G V bits l E → All (λ e. Reaches (links_in G) l e.link) E
    entries-below l E is = trie-reach (slice_cmp nat_cmp) (code_by rules.code_of bits) G (rules.deepest + 1) 0 l E is.trie.trie

    pub named-over : {X : Type 0} (R S : ℕ → X → Type 0) (l : ℕ) (m : Named X) → GoesOver f G H V W l → ((k : ℕ) (x : X) → GoesOver f G H V W k → R k x → S (f k) x)
        → IsNamedBy rules G V bits R l m → IsNamedBy rules H W bits S (f l) m
    named-over R S l m over so is =
        let down = entries-below l is.entries is.trie in
        record {
          entries = map (moved f) is.entries;
          bindings = map (moved_binding f) is.bindings;
          trie = trie-over l is.entries over is.trie;
          pairs = pairs-moved f G H l over.renamed is.entries is.bindings down is.pairs;
          reads = λ name.
              reads-moved f (Reaches (links_in G) l) R S (λ k x to. so k x (goes-below l k to over)) name is.bindings (finite.get m name)
              (values-below G l is.entries is.bindings down is.pairs) (is.reads name);
        }

    pub names-over : (l : ℕ) (names : Names) → GoesOver f G H V W l → AreNamesBy rules G V bits l names → AreNamesBy rules H W bits (f l) names
    names-over l names over is = record {
      entries = map (moved f) is.entries;
      trie = trie-over l is.entries over is.trie;
      cells = keys-moved f G H l over.renamed is.entries (entries-below l is.entries is.trie) is.cells;
      reads = λ name. has-moved f name is.entries ∙ is.reads name;
    }

    pub state-over : (l : ℕ) (s : State) → GoesOver f G H V W l → IsStateBy rules G V bits l s → IsStateBy rules H W bits (f l) s
    state-over l s over is =
        let names = below l is.buffers is.buffers (first-link G l is.buffers is.stars state is.row) (here is.buffers) in
        let stars = below l is.stars is.stars (second-link G l is.buffers is.stars state is.row) (here is.stars) in
        record {
          buffers = f is.buffers;
          stars = f is.stars;
          row = over.renamed l (here l) ∙ ap (option_map (relink f)) is.row;
          buffers_are = named-over (AreLines G V bits) (AreLines H W bits) is.buffers s.buffers (goes-below l is.buffers names over) lines-over is.buffers_are;
          stars_are = names-over is.stars s.stars (goes-below l is.stars stars over) is.stars_are;
        }

    pub versions-over : (l : ℕ) (m : Named State) → GoesOver f G H V W l → AreVersionsBy rules G V bits l m → AreVersionsBy rules H W bits (f l) m
    versions-over l m over is = named-over (IsStateBy rules G V bits) (IsStateBy rules H W bits) l m over state-over is

    pub history-over : (l : ℕ) (ss : List State) → GoesOver f G H V W l → IsHistoryBy rules G V bits l ss → IsHistoryBy rules H W bits (f l) ss
    history-over l ss over is = vector-over (IsStateBy rules G V bits) (IsStateBy rules H W bits) l ss over state-over is

  base-over : (rules : Rules) (base : List ℕ) (b : Option State) → ((r : ℕ) → 0 < count r base → GoesOver f G H V W r) → IsBase (IsStateBy rules G V bits) base b → IsBase (IsStateBy rules H W bits) (map f base) b
  base-over rules [] None over is = tt
  base-over rules [] (Some s) over is = absurd is
  base-over rules (l ∷ []) None over is = absurd is
  base-over rules (l ∷ []) (Some s) over is = state-over l s (over l (omega (arith, count-cons l l [], test_same l l refl))) is
  base-over rules (l ∷ k ∷ more) b over is = absurd is

  -- roots that stand for a workspace stand for it under other links
  pub roots-over : (rules : Rules) (roots : List ℕ) (W' : Workspace) → ((r : ℕ) → 0 < count r roots → GoesOver f G H V W r) → StandForBy rules G V bits roots W' → StandForBy rules H W bits (map f roots) W'
  roots-over rules [] work over stand = absurd stand
  roots-over rules (c ∷ []) work over stand = absurd stand
  roots-over rules (c ∷ v ∷ []) work over stand = absurd stand
  roots-over rules (c ∷ v ∷ u ∷ []) work over stand = absurd stand
  roots-over rules (c ∷ v ∷ u ∷ r ∷ base) work over stand =
      let counts : (k : ℕ) → count k (c ∷ v ∷ u ∷ r ∷ base) ≡ count k (c ∷ []) + count k (v ∷ []) + count k (u ∷ []) + count k (r ∷ []) + count k base =
      λ k. omega (arith, count-cons k c (v ∷ u ∷ r ∷ base), count-cons k v (u ∷ r ∷ base), count-cons k u (r ∷ base), count-cons k r base, count-cons k c [], count-cons k v [], count-cons k u [], count-cons k r []) in (
        state-over c work.current (over c (omega (arith, counts c, count-cons c c [], test_same c c refl))) stand.0,
        versions-over v work.versions (over v (omega (arith, counts v, count-cons v v [], test_same v v refl))) stand.1,
        history-over u work.undo (over u (omega (arith, counts u, count-cons u u [], test_same u u refl))) stand.2,
        history-over r work.redo (over r (omega (arith, counts r, count-cons r r [], test_same r r refl))) stand.3,
        base-over rules base work.base (λ k some. over k (omega (arith, counts k, some))) stand.4,
      )
