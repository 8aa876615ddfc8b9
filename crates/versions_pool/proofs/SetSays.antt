-- What is written of a store of sets says its sets.
use Rattle.std.proofs.Common.{◌≡◌, ℕ, ◌<◌, List, get_or, Option, Some, ap, sym, subst, ◌∙◌, arith}
use Rattle.std.specs.Prelude.{IsSome, option_map, None}
use Rattle.std.specs.List.{All}
use Rattle.std.specs.Ordering.{nat_cmp}
use Rattle.std.specs.Cmp.{IsTotalOrder}
use Rattle.std.specs.Cmp.Lexicographic.{slice_cmp}
use Rattle.std.specs.declared.cmp.Ordering.{Ordering}
use Rattle.elem_core.specs.Cell.{IsCell}
use Rattle.elem_core.specs.Codes.{text_code}
use Rattle.elem_core.specs.declared.codes.TheConstants.{DEEPEST}
use Rattle.node_heap.specs.Links.{count, Reaches, here}
use Rattle.node_heap.specs.Forms.{Row, Forms, cell, node, links_in, form_of}
use Rattle.node_heap.specs.Heap.{Heap, row_at, form_at, links_at, IsGraph}
use Rattle.node_heap.proofs.Reach.{Reaches-by}
use Rattle.champ_chain.specs.Entry.{Entry}
use Rattle.champ_trie.proofs.StayLemmas.{canon-reach}
use Rattle.pool_text.specs.Rows.{Bytes}
use Rattle.pool_text.specs.Pool.{forms_in, row_count, place_in, text_forms}
use Rattle.pool_text.specs.Renaming.{PoolsAreRenamed}
use Rattle.pool_text.specs.declared.pool.Pool.{Pool}
use Rattle.pool_text.proofs.Gathered.{links-of-text}
use Rattle.pool_text.proofs.PoolRows.{order-of-pool}
use Rattle.pool_text.proofs.Renamed.{map-found}
use Rattle.pool_load.proofs.TrieTexts.{form-links}
use Rattle.pool_check.specs.Passing.{PoolsPassAsMade}
use Rattle.pool_check.specs.declared.root.RootKind.TheVariants.{Cells}
use Rattle.pool_check.proofs.PoolLaws.{get-low}
use Rattle.pool_check.proofs.TestLemmas.{leads-down}
use Rattle.state_rows.proofs.CoverRows.{IsKnown}
use Rattle.versions.specs.Roots.{values_in, HasRoots}
use Rattle.versions.specs.Keyed.{keys_at, IsKeySet}
use Rattle.versions.proofs.KeyedLemmas.{set-kind}
use Rattle.versions_pool.specs.Saved.{Saved}
use Rattle.versions_pool.specs.Stores.{Says}
use Rattle.versions_pool.specs.Loading.{roots_in, AreCells, CanBeSaved, IsSavedOf}
use Rattle.versions_pool.specs.Sets.{set_in}
use Rattle.versions_pool.proofs.KnownRows.{known-fits, fits-text}
use Rattle.versions_pool.proofs.ListRoots.{kinds-are}
use Rattle.versions_pool.proofs.SetRoots.{whole_code, IsSetRoot, set-known, set-is}
use Rattle.versions_pool.proofs.SetReadings.{root-moved, root-by-text, sets-same}
use Rattle.versions_pool.proofs.Passes.{all-in-range, all-passed}
use Rattle.versions_pool.proofs.SaysLemmas.{root-from, rooted, saved_pool, saved_order, saved-bits, saved-listed, saved-passes, listed-as, saved-says}

pub form-cell : {T : Type 0} (r : Option (Row T)) (x : T) → option_map form_of r ≡ Some (cell x) → r ≡ Some (cell x)
form-cell None x is = absurd cc
form-cell (Some (cell y)) x is = let same : y ≡ x = cc in ap (λ z. Some (cell z)) same
form-cell (Some (node head links)) x is = absurd cc

module _ {K : Type 0} (text : K → Bytes) (cmp : K → K → Ordering) (code : K → ℕ) (order : (x y : K) → cmp x y ≡ slice_cmp nat_cmp (text x) (text y)) (codes : (x : K) → code x ≡ text_code (text x)) (total : IsTotalOrder cmp)
    (h : Heap K) (slots : List (Option ℕ)) (has : HasRoots (IsKeySet cmp code) (keys_at cmp) h slots) (graph : IsGraph h) where
  abbrev G : Forms Bytes
  G = text_forms text h

  root-is : (r : ℕ) → 0 < count r (roots_in slots) → IsKeySet cmp code h r (keys_at cmp h r)
  root-is r root = let at = root-from slots 0 r root in has.stands at.0 r at.1

  pub root-live : (r : ℕ) → 0 < count r (roots_in slots) → IsSome (row_at h r)
  root-live r root = (set-kind cmp total code).live h r (keys_at cmp h r) (root-is r root)

  module _ (cells : AreCells text h slots) where
    -- the keys of a set are listed
    lines-are : (r : ℕ) (root : 0 < count r (roots_in slots)) → All (λ (e : Entry K). IsCell (text e.key)) (root-is r root).entries
    lines-are r root i d low =
        let is = root-is r root in
        let e : Entry K = get_or is.entries i d in
        let down : Reaches (links_in (form_at h)) r e.link = canon-reach cmp _ (form_at h) r is.entries is.set.rooted.trie i d low in
        let by_text : Reaches (links_in G) r e.link = Reaches-by (links_in (form_at h)) (links_in G) (λ k. sym (form-links text (row_at h k))) r e.link down in
        cells e.link e.key (listed-as text h slots graph root-live e.link ((order-of-pool _ G (roots_in slots) (rooted text h slots graph root-live)).all r e.link root by_text)) (form-cell (row_at h e.link) e.key (is.set.cells i d low))

    set-root : (r : ℕ) → 0 < count r (roots_in slots) → IsSetRoot G r
    set-root r root = let is = root-is r root in root-by-text text cmp code order codes h r is.entries is.set (lines-are r root)

  pub sets-can : CanBeSaved text h slots
  sets-can = record {
    live = root-live;
    fits = λ cells r l root way.
        fits-text text (row_at h l) ∙ known-fits G whole_code DEEPEST l (set-known G r l (set-root cells r root) (Reaches-by (links_at h) (links_in G) (λ k. links-of-text text (row_at h k)) r l way));
  }

  module _ (renames : PoolsAreRenamed) (passes : PoolsPassAsMade) (s : Saved) (is : IsSavedOf text h slots s) (of_bytes : Bytes → K) (back : (x : K) → of_bytes (text x) ≡ x) where
    abbrev P : Pool
    P = saved_pool text h slots graph root-live

    abbrev f : ℕ → ℕ
    f = place_in (saved_order text h slots graph root-live)

    placed-root : (p : ℕ) → 0 < count p P.roots → IsSetRoot (forms_in P) p
    placed-root p some =
        let listed = saved-listed text h slots graph root-live renames in
        let found = map-found f (roots_in slots) p (omega (arith, some, ap (count p) listed.tops)) in
        subst (IsSetRoot (forms_in P)) found.2 (root-moved f G (forms_in P) found.0 (listed.renamed found.0 found.0 found.1 (here found.0)) (set-root is.cells found.0 found.1))

    pub sets-say : Says (set_in cmp of_bytes) Cells (values_in (keys_at cmp) h slots) s
    sets-say =
        let made = saved-passes text h slots graph root-live passes in
        let known : (r l : ℕ) → 0 < count r P.roots → Reaches (links_in (forms_in P)) r l → IsKnown (forms_in P) whole_code DEEPEST l = λ r l root way. set-known (forms_in P) r l (placed-root r root) way in
        saved-says text h slots graph root-live (keys_at cmp) (set_in cmp of_bytes) Cells has.holds.few renames s is
        (all-in-range P made.lead_back made.in_order (saved-bits text h slots graph root-live) known)
        (all-passed P made.lead_back made.in_order (saved-bits text h slots graph root-live) known _ (kinds-are Cells P (λ r root. set-is (forms_in P) (leads-down P made.lead_back) (row_count P) (λ l row at. get-low P.rows l row at) r (placed-root r root))))
        (sets-same text cmp code order codes h total of_bytes back (roots_in slots) (saved_order text h slots graph root-live) P (saved-listed text h slots graph root-live renames) made.lead_back root-is)
