-- What is written of a store of maps says its maps, and no cell of it is a key and a value.
use Rattle.std.proofs.Common.{◌≡◌, ℕ, ◌<◌, true, List, [], ◌∷◌, Option, Some, ap, sym, subst, ◌∙◌, arith}
use Rattle.std.specs.Prelude.{IsSome, option_map, slice_index}
use Rattle.std.specs.Ordering.{nat_cmp}
use Rattle.std.specs.Cmp.{IsTotalOrder}
use Rattle.std.specs.Cmp.Lexicographic.{slice_cmp}
use Rattle.std.specs.declared.cmp.Ordering.{Ordering}
use Rattle.std.proofs.lemmas.List.Elements.{All-weaker}
use Rattle.elem_core.specs.Cell.{IsCell}
use Rattle.elem_core.specs.Codes.{text_code}
use Rattle.elem_core.specs.declared.codes.TheConstants.{DEEPEST}
use Rattle.node_heap.specs.Links.{count, Reaches, here}
use Rattle.node_heap.specs.Forms.{Form, Forms, cell, node, pair, links_in}
use Rattle.node_heap.specs.Heap.{Heap, row_at, form_at, links_at, IsGraph}
use Rattle.node_heap.proofs.Reach.{Reaches-by}
use Rattle.champ_chain.specs.Entry.{Entry}
use Rattle.pool_text.specs.Rows.{Bytes}
use Rattle.pool_text.specs.Pool.{forms_in, row_count, place_in, relink, text_forms}
use Rattle.pool_text.specs.Renaming.{PoolsAreRenamed}
use Rattle.pool_text.specs.declared.pool.Pool.{Pool}
use Rattle.pool_text.proofs.Gathered.{links-of-text}
use Rattle.pool_text.proofs.PoolRows.{order-of-pool}
use Rattle.pool_text.proofs.Renamed.{map-found}
use Rattle.pool_load.proofs.TrieTexts.{form-links, form-node}
use Rattle.pool_load.proofs.LoadedRoots.{ways-renamed}
use Rattle.pool_check.specs.Passing.{PoolsPassAsMade}
use Rattle.pool_check.specs.declared.root.RootKind.TheVariants.{CellMap}
use Rattle.pool_check.proofs.PoolLaws.{get-low}
use Rattle.pool_check.proofs.TestLemmas.{leads-down}
use Rattle.state_rows.proofs.CoverRows.{IsKnown}
use Rattle.versions.specs.declared.piece.Piece.{Piece}
use Rattle.versions.specs.declared.piece.Piece.TheVariants.{Key, Value}
use Rattle.versions.specs.Pieces.{piece_order}
use Rattle.versions.specs.Roots.{values_in, HasRoots}
use Rattle.versions.specs.Bound.{map_at, IsKeyMap}
use Rattle.versions.proofs.BoundLemmas.{map-kind}
use Rattle.versions_pool.specs.Saved.{Saved}
use Rattle.versions_pool.specs.Stores.{Says}
use Rattle.versions_pool.specs.Loading.{roots_in, AreCells, CanBeSaved, IsSavedOf}
use Rattle.versions_pool.specs.Apart.{piece_text, are_apart}
use Rattle.versions_pool.specs.Maps.{map_in}
use Rattle.versions_pool.proofs.KnownRows.{known-fits, fits-text}
use Rattle.versions_pool.proofs.ListRoots.{kinds-are}
use Rattle.versions_pool.proofs.SetRoots.{whole_code}
use Rattle.versions_pool.proofs.SetSays.{form-cell}
use Rattle.versions_pool.proofs.MapRoots.{IsMapRoot, map-known, map-is}
use Rattle.versions_pool.proofs.MapReadings.{IsTypedPair, is-cell-pair, typed, root-moved, root-by-text, maps-same}
use Rattle.versions_pool.proofs.PairRows.{IsCellPair, all-among, pair-entry}
use Rattle.versions_pool.proofs.ApartLemmas.{apart-from}
use Rattle.versions_pool.proofs.Passes.{all-in-range, all-passed, reached}
use Rattle.versions_pool.proofs.SaysLemmas.{root-from, rooted, saved_pool, saved_order, saved-bits, saved-listed, saved-passes, listed-as, saved-says}

module _ {K V : Type 0} (key_text : K → Bytes) (value_text : V → Bytes) (cmp : K → K → Ordering) (value_cmp : V → V → Ordering) (code : K → ℕ)
    (order : (x y : K) → cmp x y ≡ slice_cmp nat_cmp (key_text x) (key_text y)) (codes : (x : K) → code x ≡ text_code (key_text x)) (total : IsTotalOrder cmp) (value_total : IsTotalOrder value_cmp)
    (h : Heap (Piece K V)) (slots : List (Option ℕ)) (has : HasRoots (IsKeyMap cmp value_cmp code) (map_at cmp) h slots) (graph : IsGraph h) where
  abbrev text : Piece K V → Bytes
  text = piece_text key_text value_text

  abbrev G : Forms Bytes
  G = text_forms text h

  abbrev F : Forms (Piece K V)
  F = form_at h

  root-is : (r : ℕ) → 0 < count r (roots_in slots) → IsKeyMap cmp value_cmp code h r (map_at cmp h r)
  root-is r root = let at = root-from slots 0 r root in has.stands at.0 r at.1

  pub root-live : (r : ℕ) → 0 < count r (roots_in slots) → IsSome (row_at h r)
  root-live r root = (map-kind cmp value_cmp total value_total code).live h r (map_at cmp h r) (root-is r root)

  by-texts : (r m : ℕ) → Reaches (links_in F) r m → Reaches (links_in G) r m
  by-texts r m way = Reaches-by (links_in F) (links_in G) (λ k. sym (form-links text (row_at h k))) r m way

  by-forms : (r m : ℕ) → Reaches (links_in G) r m → Reaches (links_in F) r m
  by-forms r m way = Reaches-by (links_in G) (links_in F) (λ k. form-links text (row_at h k)) r m way

  module _ (cells : AreCells text h slots) where
    -- the keys and the values of a map are listed
    line : (r : ℕ) → 0 < count r (roots_in slots) → (m : ℕ) (y : Piece K V) → Reaches (links_in F) r m → F m ≡ Some (cell y) → IsCell (text y)
    line r root m y way is =
        cells m y (listed-as text h slots graph root-live m ((order-of-pool _ G (roots_in slots) (rooted text h slots graph root-live)).all r m root (by-texts r m way))) (form-cell (row_at h m) y is)

    map-root : (r : ℕ) → 0 < count r (roots_in slots) → IsMapRoot G r
    map-root r root = root-by-text key_text value_text cmp value_cmp code order codes h r (map_at cmp h r) (root-is r root) (line r root)

  pub maps-can : CanBeSaved text h slots
  maps-can = record {
    live = root-live;
    fits = λ cells r l root way.
        fits-text text (row_at h l) ∙ known-fits G whole_code DEEPEST l (map-known G r l (map-root cells r root) (Reaches-by (links_at h) (links_in G) (λ k. links-of-text text (row_at h k)) r l way));
  }

  module _ (renames : PoolsAreRenamed) (passes : PoolsPassAsMade) (s : Saved) (is : IsSavedOf text h slots s) where
    abbrev P : Pool
    P = saved_pool text h slots graph root-live

    abbrev ks : List ℕ
    ks = saved_order text h slots graph root-live

    abbrev f : ℕ → ℕ
    f = place_in ks

    abbrev g : ℕ → ℕ
    g = slice_index ks

    found-root : (p : ℕ) → 0 < count p P.roots → (r : ℕ) × (0 < count r (roots_in slots)) × (f r ≡ p)
    found-root p some = let listed = saved-listed text h slots graph root-live renames in map-found f (roots_in slots) p (omega (arith, some, ap (count p) listed.tops))

    placed-root : (p : ℕ) → 0 < count p P.roots → IsMapRoot (forms_in P) p
    placed-root p some =
        let listed = saved-listed text h slots graph root-live renames in
        let found = found-root p some in
        subst (IsMapRoot (forms_in P)) found.2 (root-moved f G (forms_in P) found.0 (listed.renamed found.0 found.0 found.1 (here found.0)) (map-root is.cells found.0 found.1))

    pub maps-say : (of_key : Bytes → K) (of_value : Bytes → V) → ((x : K) → of_key (key_text x) ≡ x) → ((x : V) → of_value (value_text x) ≡ x) → Says (map_in cmp of_key of_value) CellMap (values_in (map_at cmp) h slots) s
    maps-say of_key of_value key_back value_back =
        let made = saved-passes text h slots graph root-live passes in
        let known : (r l : ℕ) → 0 < count r P.roots → Reaches (links_in (forms_in P)) r l → IsKnown (forms_in P) whole_code DEEPEST l = λ r l root way. map-known (forms_in P) r l (placed-root r root) way in
        saved-says text h slots graph root-live (map_at cmp) (map_in cmp of_key of_value) CellMap has.holds.few renames s is
        (all-in-range P made.lead_back made.in_order (saved-bits text h slots graph root-live) known)
        (all-passed P made.lead_back made.in_order (saved-bits text h slots graph root-live) known _ (kinds-are CellMap P (λ r root. map-is (forms_in P) (leads-down P made.lead_back) (row_count P) (λ l row at. get-low P.rows l row at) r (placed-root r root))))
        (maps-same key_text value_text cmp value_cmp code order codes h total value_total of_key of_value key_back value_back (roots_in slots) ks P (saved-listed text h slots graph root-live renames) made.lead_back root-is)

    -- ## Cells of keys and cells of values

    abbrev IsKeyPlace : ℕ → Type 0
    IsKeyPlace p = (a : K) × (F (g p) ≡ Some (cell (Key a)))

    abbrev IsValuePlace : ℕ → Type 0
    IsValuePlace p = (b : V) × (F (g p) ≡ Some (cell (Value b)))

    two-same : (a b k v : ℕ) → ◌≡◌ {A = List ℕ} (a ∷ b ∷ []) (k ∷ v ∷ []) → (a ≡ k) × (b ≡ v)
    two-same a b k v e = (let first : a ≡ k = cc in first, let second : b ≡ v = cc in second)

    typed-places : (x : Entry (Piece K V)) (m k v : ℕ) → IsTypedPair h x → x.link ≡ m → F m ≡ Some (node pair (g k ∷ g v ∷ [])) → IsKeyPlace k × IsValuePlace v
    typed-places x m k v t at row =
        let both : Some (node pair (t.key_cell ∷ t.value_cell ∷ [])) ≡ Some (node pair (g k ∷ g v ∷ [])) = sym t.row ∙ ap F at ∙ row in
        let links : ◌≡◌ {A = List ℕ} (t.key_cell ∷ t.value_cell ∷ []) (g k ∷ g v ∷ []) = cc in
        let same = two-same t.key_cell t.value_cell (g k) (g v) links in (
          (t.key, ap F (sym same.0) ∙ t.key_row ∙ ap (λ y. Some (cell y)) t.key_is),
          (t.value, ap F (sym same.1) ∙ t.value_row),
        )

    sorted : (i k v : ℕ) → forms_in P i ≡ Some (node pair (k ∷ v ∷ [])) → IsKeyPlace k × IsValuePlace v
    sorted i k v row =
        let listed = saved-listed text h slots graph root-live renames in
        let made = saved-passes text h slots graph root-live passes in
        let from = reached P made.lead_back made.in_order i (get-low P.rows i (node pair (k ∷ v ∷ [])) row) in
        let found = found-root from.0 from.1 in
        let r : ℕ = found.0 in
        let way : Reaches (links_in (forms_in P)) (f r) i = subst (λ p. Reaches (links_in (forms_in P)) p i) (sym found.2) from.2 in
        let back = listed.back r r found.1 (here r) in
        let moved : Reaches (links_in G) (g (f r)) (g i) = ways-renamed g (forms_in P) G (f r) i way back in
        let down : Reaches (links_in F) r (g i) = by-forms r (g i) (subst (λ l. Reaches (links_in G) l (g i)) (listed.same r r found.1 (here r)) moved) in
        let text_row : G (g i) ≡ Some (node pair (g k ∷ g v ∷ [])) = back i way ∙ ap (option_map (relink g)) row in
        let heap_row : F (g i) ≡ Some (node pair (g k ∷ g v ∷ [])) = form-node text (row_at h (g i)) pair (g k ∷ g v ∷ []) text_row in
        let map_is = root-is r found.1 in
        let pairs = typed key_text value_text cmp value_cmp code order codes h r (map_at cmp h r) map_is in
        let entry = pair-entry (piece_order cmp value_cmp) _ F DEEPEST 0 r (g i) map_is.stands.entries (g k ∷ g v ∷ []) map_is.stands.rooted.trie.trie (All-weaker (IsTypedPair h) (IsCellPair F) (is-cell-pair h) map_is.stands.entries pairs) down heap_row in
        typed-places entry.0 (g i) k v (all-among (IsTypedPair h) entry.0 map_is.stands.entries pairs entry.1) entry.2 heap_row

    never : (p : ℕ) → IsKeyPlace p → IsValuePlace p → ⊥
    never p key value =
        let both : ◌≡◌ {A = Option (Form (Piece K V))} (Some (cell (Key key.0))) (Some (cell (Value value.0))) = sym key.1 ∙ value.1 in
        cc

    pub maps-apart : are_apart s.rows ≡ true
    maps-apart = ap (λ (Q : Pool). are_apart Q.rows) is.pool ∙ apart-from IsKeyPlace IsValuePlace never P.rows sorted
