-- Rows that were loaded of a pool of maps are those of the maps.
use Rattle.std.proofs.Common.{◌≡◌, ℕ, ◌<◌, Bool, true, false, List, [], ◌∷◌, length, get_or, Option, Some, refl, ap, sym, subst, ◌∙◌, arith}
use Rattle.std.specs.Prelude.{option_map, slice_index_or}
use Rattle.std.specs.List.{All, AllZip}
use Rattle.std.specs.Ordering.{nat_cmp}
use Rattle.std.specs.Cmp.{IsTotalOrder}
use Rattle.std.specs.Cmp.Lexicographic.{slice_cmp}
use Rattle.std.specs.declared.cmp.Ordering.{Ordering}
use Rattle.std.proofs.lemmas.List.Elements.{All-nil, All-cons, All-head, All-tail}
use Rattle.elem_core.specs.Codes.{text_code}
use Rattle.elem_core.specs.declared.codes.TheConstants.{CODE_BITS, DEEPEST}
use Rattle.node_heap.specs.Links.{count, Reaches, here}
use Rattle.node_heap.specs.Forms.{Forms, cell, node, pair, value_of, links_in}
use Rattle.node_heap.specs.Heap.{Heap, row_at, form_at, links_at}
use Rattle.node_heap.proofs.Reach.{Reaches-then, Reaches-by}
use Rattle.champ_chain.specs.Entry.{Entry}
use Rattle.champ_trie.specs.Trie.{code_by}
use Rattle.champ_trie.proofs.StayLemmas.{canon-reach, has-first, has-next}
use Rattle.champ_kinds.specs.Binding.{Binding}
use Rattle.champ_kinds.specs.Kinds.{IsPair, IsMapOf}
use Rattle.pool_order.specs.Order.{order_of}
use Rattle.pool_text.specs.Rows.{Bytes}
use Rattle.pool_text.specs.Pool.{forms_in, place_in, relink, text_forms}
use Rattle.pool_text.specs.declared.pool.Pool.{Pool}
use Rattle.pool_text.proofs.Gathered.{links-of-text, order-of}
use Rattle.pool_text.proofs.Placed.{place-is}
use Rattle.pool_load.specs.Kinds.{IsCellLink, IsMapTo, rooted}
use Rattle.pool_load.specs.Loads.{AreRowsLoaded, AreValuedByPlace}
use Rattle.pool_load.specs.Laws.{LoadedRootsAreOfKinds}
use Rattle.pool_load.proofs.LoadedRoots.{listed}
use Rattle.pool_load.proofs.RootKinds.{loaded-of-kinds}
use Rattle.pool_load.proofs.TrieTexts.{form-links}
use Rattle.pool_check.specs.declared.root.RootKind.TheVariants.{CellMap}
use Rattle.rrb_core.proofs.LinkCounts.{count-at}
use Rattle.versions.specs.declared.piece.Piece.{Piece}
use Rattle.versions.specs.declared.piece.Piece.TheVariants.{Key, Value}
use Rattle.versions.specs.Pieces.{piece_code, piece_order}
use Rattle.versions.specs.Keyed.{by_root}
use Rattle.versions.specs.Bound.{map_at, IsBoundTo, IsKeyMap}
use Rattle.versions.specs.Sorted.{by_keys}
use Rattle.versions.proofs.BoundLemmas.{map-kind}
use Rattle.versions.proofs.KeyedLemmas.{form-value}
use Rattle.versions_pool.specs.Loading.{AreSaid, AreLoadedWith}
use Rattle.versions_pool.specs.Apart.{piece_text, piece_of, is_value_in, are_apart, AreMarked}
use Rattle.versions_pool.proofs.ApartLemmas.{pair-sorted}
use Rattle.versions_pool.proofs.LoadLemmas.{of-kind}
use Rattle.versions_pool.proofs.PieceTries.{IsKey, IsKeyed, canon-own}
use Rattle.versions_pool.proofs.SetSays.{form-cell}
use Rattle.versions_pool.proofs.TrieTexted.{text-node}

module _ {K V : Type 0} (key_text : K → Bytes) (value_text : V → Bytes) (cmp : K → K → Ordering) (value_cmp : V → V → Ordering) (code : K → ℕ)
    (order : (x y : K) → cmp x y ≡ slice_cmp nat_cmp (key_text x) (key_text y)) (codes : (x : K) → code x ≡ text_code (key_text x)) (total : IsTotalOrder cmp) (value_total : IsTotalOrder value_cmp)
    (of_key : Bytes → K) (of_value : Bytes → V) (marks : List Bool) (h : Heap (Piece K V)) (roots : List ℕ) (P : Pool)
    (loaded : AreRowsLoaded (piece_text key_text value_text) h roots P) (valued : AreValuedByPlace (piece_text key_text value_text) (λ p. piece_of of_key of_value (slice_index_or marks p false)) h roots)
    (apart : are_apart P.rows ≡ true) (marked : AreMarked P.rows marks) where
  abbrev text : Piece K V → Bytes
  text = piece_text key_text value_text

  abbrev F : Forms (Piece K V)
  F = form_at h

  abbrev ks : List ℕ
  ks = order_of h roots

  -- the order and the codes of texts, by which the pool's tries go
  abbrev by_text : Piece K V → Piece K V → Ordering
  by_text x y = slice_cmp nat_cmp (text x) (text y)

  abbrev code_of_text : Piece K V → ℕ
  code_of_text x = text_code (text x)

  listed-below : (r m : ℕ) → 0 < count r roots → Reaches (links_in F) r m → 0 < count m ks
  listed-below r m root way = (order-of h roots loaded.graph loaded.live).all r m root (Reaches-by (links_in F) (links_at h) (λ k. sym (form-links text (row_at h k) ∙ links-of-text text (row_at h k))) r m way)

  -- the mark of a listed link's place
  mark-of : (m : ℕ) → 0 < count m ks → slice_index_or marks (place_in ks m) false ≡ is_value_in P.rows (place_in ks m)
  mark-of m some = marked.each (place_in ks m) (omega (arith, (place-is ks m some).0, (listed text h roots P loaded).many))

  made-of : (m : ℕ) (y : Piece K V) (b : Bool) → 0 < count m ks → F m ≡ Some (cell y) → is_value_in P.rows (place_in ks m) ≡ b → y ≡ piece_of of_key of_value b (text y)
  made-of m y b some is mark = valued m y some (form-cell (row_at h m) y is) ∙ ap (λ c. piece_of of_key of_value c (text y)) (mark-of m some ∙ mark)

  -- a pair's cells are those of a key and of a value
  pub record AreSorted (kc vc : ℕ) : Type 0 where
    pub key_made : (y : Piece K V) → F kc ≡ Some (cell y) → y ≡ Key (of_key (text y))
    pub value_made : (y : Piece K V) → F vc ≡ Some (cell y) → y ≡ Value (of_value (text y))

  sorted : (r m kc vc : ℕ) → 0 < count r roots → Reaches (links_in F) r m → F m ≡ Some (node pair (kc ∷ vc ∷ [])) → AreSorted kc vc
  sorted r m kc vc root way row =
      let f : ℕ → ℕ = place_in ks in
      let by_texts : Reaches (links_in (text_forms text h)) r m = Reaches-by (links_in F) (links_in (text_forms text h)) (λ k. sym (form-links text (row_at h k))) r m way in
      let placed : forms_in P (f m) ≡ Some (node pair (f kc ∷ f vc ∷ [])) =
      (listed text h roots P loaded).renamed r r root (here r) m by_texts ∙ ap (option_map (relink f)) (text-node text (row_at h m) pair (kc ∷ vc ∷ []) row) in
      let sorts = pair-sorted P.rows apart (f m) (f kc) (f vc) placed in
      let key_listed = listed-below r kc root (Reaches-then (links_in F) r m kc way (has-first F m kc pair (vc ∷ []) row)) in
      let value_listed = listed-below r vc root (Reaches-then (links_in F) r m vc way (has-next F m kc vc pair row)) in
      record {
        key_made = λ y is. made-of kc y false key_listed is sorts.0;
        value_made = λ y is. made-of vc y true value_listed is sorts.1;
      }

  -- the entries of such pairs
  record AreEntries (E : List (Entry (Piece K V))) (M : List (Binding (Piece K V))) : Type 0 where
    pub entries : List (K × V)
    pub keyed : All IsKeyed E
    pub bound : AllZip (IsBoundTo cmp h) M entries

  entries-of : (r : ℕ) → 0 < count r roots → (E : List (Entry (Piece K V))) (M : List (Binding (Piece K V))) → All (λ e. Reaches (links_in F) r e.link) E → AllZip (IsPair F) E M → All (λ b. IsCellLink by_text code_of_text P.bits h b.value) M → AreEntries E M
  entries-of r root [] [] down pairs values = record { entries = []; keyed = All-nil IsKeyed; bound = tt }
  entries-of r root [] (b ∷ M) down pairs values = absurd pairs
  entries-of r root (x ∷ E) [] down pairs values = absurd pairs
  entries-of r root (x ∷ E) (b ∷ M) down pairs values =
      let Down = λ (e : Entry (Piece K V)). Reaches (links_in F) r e.link in
      let IsCell = λ (c : Binding (Piece K V)). IsCellLink by_text code_of_text P.bits h c.value in
      let rest = entries-of r root E M (All-tail Down x E down) pairs.1 (All-tail IsCell b M values) in
      let pair_is = pairs.0 in
      let at = sorted r x.link pair_is.key_cell b.value root (All-head Down x E down) pair_is.row in
      let key_is : x.key ≡ Key (of_key (text x.key)) = at.key_made x.key pair_is.cell in
      let value = All-head IsCell b M values in
      let value_is : value.0 ≡ Value (of_value (text value.0)) = at.value_made value.0 value.1 in
      record {
        entries = (of_key (text x.key), of_value (text value.0)) ∷ rest.entries;
        keyed = All-cons IsKeyed x E (subst IsKey (sym key_is) tt) rest.keyed;
        bound = (
          record {
            key = pair_is.key ∙ key_is;
            value = sym (form-value (row_at h b.value)) ∙ ap value_of value.1 ∙ ap (λ (y : Piece K V). Some y) value_is;
          },
          rest.bound,
        );
      }

  -- a root of a map by its texts is that of the map which is read there
  pub mapped-root : (r : ℕ) → 0 < count r roots → P.bits ≡ CODE_BITS → IsMapTo by_text code_of_text P.bits h (IsCellLink by_text code_of_text P.bits h) r → IsKeyMap cmp value_cmp code h r (map_at cmp h r)
  mapped-root r root all is =
      let E : List (Entry (Piece K V)) = is.map.entries in
      let down = canon-reach by_text (code_by code_of_text P.bits) F r E is.map.rooted.trie in
      let made = entries-of r root E is.bindings down is.map.pairs is.values in
      let stands : IsMapOf (piece_order cmp value_cmp) (piece_code code) h (rooted by_text code_of_text P.bits h r) is.bindings = record {
        entries = E;
        rooted = record {
          bits = is.map.rooted.bits;
          trie = canon-own key_text value_text cmp value_cmp code order codes P.bits F DEEPEST r E made.keyed is.map.rooted.trie;
        };
        pairs = is.map.pairs;
      } in
      let whole : IsMapOf (piece_order cmp value_cmp) (piece_code code) h (by_root r) is.bindings = subst (λ b. IsMapOf (piece_order cmp value_cmp) (piece_code code) h (record { root = r; bits = b }) is.bindings) all stands in
      let own : IsKeyMap cmp value_cmp code h r (by_keys cmp made.entries) = record { bindings = is.bindings; stands = whole; entries = made.entries; bound = made.bound; sorted = refl } in
      subst (IsKeyMap cmp value_cmp code h r) (sym ((map-kind cmp value_cmp total value_total code).one h r _ own)) own

-- tries by the order and the codes of texts are of their kinds
pub kinds-by-text : {T : Type 0} (text : T → Bytes) → LoadedRootsAreOfKinds text (λ x y. slice_cmp nat_cmp (text x) (text y)) (λ x. text_code (text x))
kinds-by-text text h roots P kinds i kind loaded are at = loaded-of-kinds text h roots P loaded (λ x y. slice_cmp nat_cmp (text x) (text y)) (λ x. text_code (text x)) (λ x y. refl) (λ x. refl) kinds are i kind at

module _ {K V : Type 0} (key_text : K → Bytes) (value_text : V → Bytes) (cmp : K → K → Ordering) (value_cmp : V → V → Ordering) (code : K → ℕ)
    (order : (x y : K) → cmp x y ≡ slice_cmp nat_cmp (key_text x) (key_text y)) (codes : (x : K) → code x ≡ text_code (key_text x)) (total : IsTotalOrder cmp) (value_total : IsTotalOrder value_cmp)
    (of_key : Bytes → K) (of_value : Bytes → V) (marks : List Bool) (names : List ℕ) (P : Pool) (h : Heap (Piece K V)) (slots : List (Option ℕ))
    (loaded : AreLoadedWith (piece_text key_text value_text) (λ p. piece_of of_key of_value (slice_index_or marks p false)) names P h slots) where
  -- each loaded root is that of a map
  pub loaded-maps : (format bytes : Bytes) → AreSaid format CellMap bytes names P → are_apart P.rows ≡ true → AreMarked P.rows marks → (i : ℕ) → i < length loaded.loaded.roots
      → IsKeyMap cmp value_cmp code h (get_or loaded.loaded.roots i 0) (map_at cmp h (get_or loaded.loaded.roots i 0))
  loaded-maps format bytes said apart marked i low =
      let text : Piece K V → Bytes = piece_text key_text value_text in
      let by_text : Piece K V → Piece K V → Ordering = λ x y. slice_cmp nat_cmp (text x) (text y) in
      let code_of_text : Piece K V → ℕ = λ x. text_code (text x) in
      mapped-root key_text value_text cmp value_cmp code order codes total value_total of_key of_value marks h loaded.loaded.roots P loaded.loaded.rows loaded.valued apart marked
      (get_or loaded.loaded.roots i 0) (count-at loaded.loaded.roots i 0 low) (ap (λ (Q : Pool). Q.bits) said.pool)
      (of-kind text (IsKeyMap cmp value_cmp code) (map_at cmp) names P h slots loaded.loaded format CellMap bytes by_text code_of_text (kinds-by-text text) said i low)
