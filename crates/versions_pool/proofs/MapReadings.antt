-- The entries of a heap's maps are read of a pool that lists their rows.
use Rattle.std.proofs.Common.{◌≡◌, ℕ, ◌+◌, ◌<◌, true, List, [], ◌∷◌, map, get_or, Option, Some, None, option_map, refl, ap, sym, subst, ◌∙◌, arith}
use Rattle.std.specs.List.{All, AllZip, filter_map, cons_option}
use Rattle.std.specs.Ordering.{nat_cmp}
use Rattle.std.specs.Cmp.{IsTotalOrder}
use Rattle.std.specs.Cmp.Lexicographic.{slice_cmp}
use Rattle.std.specs.declared.cmp.Ordering.{Ordering}
use Rattle.std.proofs.lemmas.List.Elements.{All-nil, All-cons, All-head, All-tail, All-map, All-weaker}
use Rattle.elem_core.specs.Cell.{IsCell}
use Rattle.elem_core.specs.Codes.{text_code}
use Rattle.elem_core.specs.declared.codes.TheConstants.{CODE_BITS, DEEPEST}
use Rattle.node_heap.specs.Links.{count, Reaches, here}
use Rattle.node_heap.specs.Forms.{Row, Forms, cell, node, pair, value_of, form_of, links_of, links_in}
use Rattle.node_heap.specs.Heap.{Heap, row_at, form_at}
use Rattle.node_heap.proofs.Reach.{Reaches-then, Reaches-by}
use Rattle.champ_chain.specs.Entry.{Entry, SameSet}
use Rattle.champ_chain.proofs.SetLemmas.{same-sym}
use Rattle.champ_trie.specs.Trie.{code_by, IsCanonTo}
use Rattle.champ_trie.proofs.StayLemmas.{canon-reach, has-first, has-next}
use Rattle.champ_kinds.specs.Binding.{Binding}
use Rattle.champ_kinds.specs.Kinds.{IsPair}
use Rattle.pool_text.specs.Rows.{Bytes}
use Rattle.pool_text.specs.Pool.{forms_in, row_count, place_in, relink, text_forms}
use Rattle.pool_text.specs.Renaming.{IsPoolOf}
use Rattle.pool_text.specs.declared.pool.Pool.{Pool}
use Rattle.pool_text.proofs.Renamed.{count-map}
use Rattle.pool_check.specs.Rows.{links_lead_back}
use Rattle.pool_check.specs.Readings.{moved}
use Rattle.pool_check.proofs.TestLemmas.{leads-down, roots-low}
use Rattle.pool_check.proofs.TrieReadings.{trie-reads-the-same}
use Rattle.pool_load.specs.Laws.{entries_in}
use Rattle.pool_load.proofs.TrieTexts.{texted, form-links}
use Rattle.state_rows.proofs.PassesTries.{entries-same}
use Rattle.versions.specs.declared.piece.Piece.{Piece}
use Rattle.versions.specs.declared.piece.Piece.TheVariants.{Key, Value}
use Rattle.versions.specs.Pieces.{piece_code, piece_order}
use Rattle.versions.specs.Bound.{map_at, IsBoundTo, IsKeyMap}
use Rattle.versions.proofs.BoundLemmas.{map-once}
use Rattle.versions.proofs.KeyedLemmas.{same-filter_map}
use Rattle.versions.proofs.SortLemmas.{same-by_keys}
use Rattle.versions_pool.specs.Apart.{piece_text}
use Rattle.versions_pool.specs.Maps.{second_text, entry_read, map_in}
use Rattle.versions_pool.proofs.Readings.{map-each, map-both}
use Rattle.versions_pool.proofs.SetRoots.{whole_code}
use Rattle.versions_pool.proofs.MapRoots.{IsTextPair, IsMapRoot}
use Rattle.versions_pool.proofs.PairRows.{IsCellPair}
use Rattle.versions_pool.proofs.PieceTries.{IsKey, IsKeyed, keys-texted}
use Rattle.versions_pool.proofs.TrieTexted.{text-node, text-cell}

value-form : {T : Type 0} (r : Option (Row T)) (x : T) → value_of r ≡ Some x → option_map form_of r ≡ Some (cell x)
value-form None x is = absurd cc
value-form (Some (cell y)) x is = let both : Some y ≡ Some x = is in let same : y ≡ x = cc in ap (λ z. Some (cell z)) same
value-form (Some (node head links)) x is = absurd cc

-- a map from cells to cells under other links is one
pub root-moved : (f : ℕ → ℕ) (G H : Forms Bytes) (r : ℕ) → ((m : ℕ) → Reaches (links_in G) r m → H (f m) ≡ option_map (relink f) (G m)) → IsMapRoot G r → IsMapRoot H (f r)
root-moved f G H r image is =
    let reached = canon-reach (slice_cmp nat_cmp) whole_code G r is.entries is.trie in
    record {
      entries = map (moved f) is.entries;
      trie = (trie-reads-the-same f G H r image ℕ).canonical (slice_cmp nat_cmp) whole_code DEEPEST is.entries is.trie;
      pairs = All-map (IsTextPair H) (moved f) is.entries (λ i d low.
          let e : Entry Bytes = get_or is.entries i d in
          let at = is.pairs i d low in
          let down : Reaches (links_in G) r e.link = reached i d low in
          record {
            key_cell = f at.key_cell;
            value_cell = f at.value_cell;
            value = at.value;
            row = image e.link down ∙ ap (option_map (relink f)) at.row;
            key_row = image at.key_cell (Reaches-then (links_in G) r e.link at.key_cell down (has-first G e.link at.key_cell pair (at.value_cell ∷ []) at.row)) ∙ ap (option_map (relink f)) at.key_row;
            value_row = image at.value_cell (Reaches-then (links_in G) r e.link at.value_cell down (has-next G e.link at.key_cell at.value_cell pair at.row)) ∙ ap (option_map (relink f)) at.value_row;
            key_line = at.key_line;
            value_line = at.value_line;
          });
    }

module _ {K V : Type 0} (h : Heap (Piece K V)) where
  -- the entry is a pair of the cells of a key and of a value
  pub record IsTypedPair (x : Entry (Piece K V)) : Type 0 where
    pub key_cell : ℕ
    pub value_cell : ℕ
    pub key : K
    pub value : V
    pub key_is : x.key ≡ Key key
    pub row : form_at h x.link ≡ Some (node pair (key_cell ∷ value_cell ∷ []))
    pub key_row : form_at h key_cell ≡ Some (cell x.key)
    pub value_row : form_at h value_cell ≡ Some (cell (Value value))

  pub is-keyed : (x : Entry (Piece K V)) → IsTypedPair x → IsKeyed x
  is-keyed x is = subst IsKey (sym is.key_is) tt

  pub is-cell-pair : (x : Entry (Piece K V)) → IsTypedPair x → IsCellPair (form_at h) x
  is-cell-pair x is = record { key_cell = is.key_cell; value_cell = is.value_cell; key = x.key; value = Value is.value; row = is.row; key_row = is.key_row; value_row = is.value_row }

  module _ (cmp : K → K → Ordering) where
    typed-pair : (x : Entry (Piece K V)) (b : Binding (Piece K V)) (e : K × V) → IsPair (form_at h) x b → IsBoundTo cmp h b e → IsTypedPair x
    typed-pair x b e is bound = record {
      key_cell = is.key_cell;
      value_cell = b.value;
      key = e.0;
      value = e.1;
      key_is = sym is.key ∙ bound.key;
      row = is.row;
      key_row = is.cell;
      value_row = value-form (row_at h b.value) (Value e.1) bound.value;
    }

    pub typed-pairs : (E : List (Entry (Piece K V))) (M : List (Binding (Piece K V))) (es : List (K × V)) → AllZip (IsPair (form_at h)) E M → AllZip (IsBoundTo cmp h) M es → All IsTypedPair E
    typed-pairs [] M es pairs zip = All-nil IsTypedPair
    typed-pairs (x ∷ E) [] es pairs zip = absurd pairs
    typed-pairs (x ∷ E) (b ∷ M) [] pairs zip = absurd zip
    typed-pairs (x ∷ E) (b ∷ M) (e ∷ es) pairs zip = All-cons IsTypedPair x E (typed-pair x b e pairs.0 zip.0) (typed-pairs E M es pairs.1 zip.1)

module _ {K V : Type 0} (key_text : K → Bytes) (value_text : V → Bytes) (cmp : K → K → Ordering) (value_cmp : V → V → Ordering) (code : K → ℕ)
    (order : (x y : K) → cmp x y ≡ slice_cmp nat_cmp (key_text x) (key_text y)) (codes : (x : K) → code x ≡ text_code (key_text x)) (h : Heap (Piece K V)) where
  abbrev text : Piece K V → Bytes
  text = piece_text key_text value_text

  abbrev G : Forms Bytes
  G = text_forms text h

  abbrev F : Forms (Piece K V)
  F = form_at h

  module _ (l : ℕ) (es : List (K × V)) (is : IsKeyMap cmp value_cmp code h l es) where
    pub typed : All (IsTypedPair h) is.stands.entries
    typed = typed-pairs h cmp is.stands.entries is.bindings is.entries is.stands.pairs is.bound

    canon-texts : IsCanonTo (slice_cmp nat_cmp) whole_code DEEPEST G l (map (texted text) is.stands.entries)
    canon-texts = keys-texted key_text value_text cmp value_cmp code order codes h l is.stands.entries (All-weaker (IsTypedPair h) IsKeyed (is-keyed h) is.stands.entries typed) is.stands.rooted.trie

    pub entries-reached : All (λ x. Reaches (links_in F) l x.link) is.stands.entries
    entries-reached = canon-reach (piece_order cmp value_cmp) (code_by (piece_code code) CODE_BITS) F l is.stands.entries is.stands.rooted.trie

    -- whose cells have texts of cells
    module _ (line : (m : ℕ) (y : Piece K V) → Reaches (links_in F) l m → F m ≡ Some (cell y) → IsCell (text y)) where
      text-pair : (x : Entry (Piece K V)) → Reaches (links_in F) l x.link → IsTypedPair h x → IsTextPair G (texted text x)
      text-pair x down t = record {
        key_cell = t.key_cell;
        value_cell = t.value_cell;
        value = value_text t.value;
        row = text-node text (row_at h x.link) pair (t.key_cell ∷ t.value_cell ∷ []) t.row;
        key_row = text-cell text (row_at h t.key_cell) x.key t.key_row;
        value_row = text-cell text (row_at h t.value_cell) (Value t.value) t.value_row;
        key_line = line t.key_cell x.key (Reaches-then (links_in F) l x.link t.key_cell down (has-first F x.link t.key_cell pair (t.value_cell ∷ []) t.row)) t.key_row;
        value_line = line t.value_cell (Value t.value) (Reaches-then (links_in F) l x.link t.value_cell down (has-next F x.link t.key_cell t.value_cell pair t.row)) t.value_row;
      }

      pub root-by-text : IsMapRoot G l
      root-by-text = record {
        entries = map (texted text) is.stands.entries;
        trie = canon-texts;
        pairs = All-map (IsTextPair G) (texted text) is.stands.entries (λ i d low. text-pair (get_or is.stands.entries i d) (entries-reached i d low) (typed i d low));
      }

  module _ (total : IsTotalOrder cmp) (value_total : IsTotalOrder value_cmp) (of_key : Bytes → K) (of_value : Bytes → V) (key_back : (x : K) → of_key (key_text x) ≡ x) (value_back : (x : V) → of_value (value_text x) ≡ x)
      (roots ks : List ℕ) (P : Pool) (listed : IsPoolOf G roots ks P) (lead_back : links_lead_back P ≡ true) where
    abbrev f : ℕ → ℕ
    f = place_in ks

    abbrev read : Entry Bytes → Option (K × V)
    read = entry_read cmp of_key of_value P

    module _ (r : ℕ) (root : 0 < count r roots) (es : List (K × V)) (is : IsKeyMap cmp value_cmp code h r es) where
      abbrev E : List (Entry (Piece K V))
      E = is.stands.entries

      abbrev D : List (Entry Bytes)
      D = map (moved f) (map (texted text) E)

      low : f r < row_count P
      low = roots-low P lead_back (f r) (omega (arith, count-map f r roots root, ap (count (f r)) listed.tops))

      found : SameSet (entries_in P (f r)) D
      found =
          entries-same (forms_in P) (leads-down P lead_back) (row_count P) whole_code DEEPEST (DEEPEST + 1) 0 (f r) D low
          ((trie-reads-the-same f G (forms_in P) r (listed.renamed r r root (here r)) ℕ).canonical (slice_cmp nat_cmp) whole_code DEEPEST (map (texted text) E) (canon-texts r es is)).trie

      by-texts : (m : ℕ) → Reaches (links_in F) r m → Reaches (links_in G) r m
      by-texts m way = Reaches-by (links_in F) (links_in G) (λ k. sym (form-links text (row_at h k))) r m way

      entry-back : (x : Entry (Piece K V)) (b : Binding (Piece K V)) (e : K × V) → Reaches (links_in F) r x.link → IsPair F x b → IsBoundTo cmp h b e → read (moved f (texted text x)) ≡ Some e
      entry-back x b e down pairs bound =
          let row : forms_in P (f x.link) ≡ Some (node pair (f pairs.key_cell ∷ f b.value ∷ [])) =
          listed.renamed r r root (here r) x.link (by-texts x.link down) ∙ ap (option_map (relink f)) (text-node text (row_at h x.link) pair (pairs.key_cell ∷ b.value ∷ []) pairs.row) in
          let under : Reaches (links_in F) r b.value = Reaches-then (links_in F) r x.link b.value down (has-next F x.link pairs.key_cell b.value pair pairs.row) in
          let value : forms_in P (f b.value) ≡ Some (cell (value_text e.1)) =
          listed.renamed r r root (here r) b.value (by-texts b.value under) ∙ ap (option_map (relink f)) (text-cell text (row_at h b.value) (Value e.1) (value-form (row_at h b.value) (Value e.1) bound.value)) in
          let key : of_key (text x.key) ≡ e.0 = ap (λ (y : Piece K V). of_key (text y)) (sym pairs.key ∙ bound.key) ∙ key_back e.0 in
          ap (λ q. option_map (λ t. (of_key (text x.key), of_value t)) (second_text P (links_of q))) row
          ∙ ap (λ q. option_map (λ t. (of_key (text x.key), of_value t)) (value_of q)) value
          ∙ ap (λ (k : K). Some (k, of_value (value_text e.1))) key ∙ ap (λ (v : V). Some (e.0, v)) (value_back e.1)

      entries-back : (xs : List (Entry (Piece K V))) (M : List (Binding (Piece K V))) (ds : List (K × V)) → All (λ x. Reaches (links_in F) r x.link) xs → AllZip (IsPair F) xs M → AllZip (IsBoundTo cmp h) M ds
          → filter_map read (map (moved f) (map (texted text) xs)) ≡ ds
      entries-back [] [] [] down pairs zip = refl
      entries-back [] [] (d ∷ ds) down pairs zip = absurd zip
      entries-back [] (b ∷ M) ds down pairs zip = absurd pairs
      entries-back (x ∷ xs) [] ds down pairs zip = absurd pairs
      entries-back (x ∷ xs) (b ∷ M) [] down pairs zip = absurd zip
      entries-back (x ∷ xs) (b ∷ M) (d ∷ ds) down pairs zip =
          let Down = λ (y : Entry (Piece K V)). Reaches (links_in F) r y.link in
          ap (λ o. cons_option o (filter_map read (map (moved f) (map (texted text) xs)))) (entry-back x b d (All-head Down x xs down) pairs.0 zip.0)
          ∙ ap (λ ys. d ∷ ys) (entries-back xs M ds (All-tail Down x xs down) pairs.1 zip.1)

      pub map-read : map_in cmp of_key of_value P (f r) ≡ es
      map-read =
          let back = entries-back E is.bindings is.entries (entries-reached r es is) is.stands.pairs is.bound in
          let all : SameSet (filter_map read (entries_in P (f r))) is.entries = subst (λ xs. SameSet (filter_map read (entries_in P (f r))) xs) back (same-filter_map read (entries_in P (f r)) D found) in
          sym (same-by_keys cmp total is.entries (filter_map read (entries_in P (f r))) (same-sym _ _ all) (map-once cmp value_cmp total value_total code h r es is)) ∙ sym is.sorted

    -- the entries of the maps with these roots
    pub maps-same : ((r : ℕ) → 0 < count r roots → IsKeyMap cmp value_cmp code h r (map_at cmp h r)) → map (map_in cmp of_key of_value P) P.roots ≡ map (map_at cmp h) roots
    maps-same each =
        ap (map (map_in cmp of_key of_value P)) listed.tops ∙ map-both (map_in cmp of_key of_value P) f roots
        ∙ map-each (λ r. map_in cmp of_key of_value P (f r)) (map_at cmp h) roots (λ r some. map-read r some (map_at cmp h r) (each r some))
