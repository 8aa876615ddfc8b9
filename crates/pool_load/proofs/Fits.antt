-- Rows that are in range fit a pool, and so do loaded rows.
use Rattle.std.proofs.Common.{◌≡◌, ℕ, ◌<◌, true, Option, Some, None, IsSome, option_map, List, map, refl, ap, sym, ◌∙◌}
use Rattle.std.specs.Prelude.{◌==◌}
use Rattle.std.proofs.lemmas.List.{length-map}
use Rattle.node_heap.specs.Links.{count, Reaches, here}
use Rattle.node_heap.specs.Forms.{Row, Kind, cell, node, leaf, inner, trie, chain, pair, state, kind_of, form_of, links_in}
use Rattle.node_heap.specs.Heap.{Heap, row_at, form_at, links_at}
use Rattle.node_heap.proofs.Reach.{Reaches-by}
use Rattle.pool_text.specs.Rows.{Bytes, is_in_range}
use Rattle.pool_text.specs.Pool.{forms_in, relink, fits_pool, text_form, text_forms}
use Rattle.pool_text.specs.declared.pool.Pool.{Pool}
use Rattle.pool_text.proofs.Gathered.{links-of-text}
use Rattle.pool_text.proofs.Held.{rooted-heap}
use Rattle.pool_check.specs.Rows.{rows_in_range, rows_in_range_by}
use Rattle.pool_check.proofs.TestLemmas.{all-at}
use Rattle.pool_load.specs.Loads.{AreRowsLoaded}
use Rattle.pool_load.specs.Laws.{place_at}
use Rattle.pool_load.proofs.LoadedRoots.{rows-listed}

-- a node that is in range under other links fits a pool, whatever cells are
pub node-fits : (K L : Type 0) (f : ℕ → ℕ) (kind : Kind) (links : List ℕ) → is_in_range {K = K} (node kind (map f links)) ≡ true → fits_pool {K = L} (Some (node kind links)) ≡ true
node-fits K L f leaf links in_range = refl
node-fits K L f (inner height) links in_range = refl
node-fits K L f (trie depth entries nodes) links in_range = refl
node-fits K L f chain links in_range = refl
node-fits K L f pair links in_range = sym (ap (λ n. n == 2) (length-map links f)) ∙ in_range
node-fits K L f state links in_range = sym (ap (λ n. n == 2) (length-map links f)) ∙ in_range

module _ {T : Type 0} (text : T → Bytes) (f : ℕ → ℕ) where
  -- a row whose row in a pool is in range fits
  range-fits : (row : Row T) → is_in_range (relink f (text_form text row)) ≡ true → fits_pool (Some (form_of row)) ≡ true
  range-fits (cell x) in_range = refl
  range-fits (node head links) in_range = node-fits Bytes T f (kind_of head) links in_range

  listed-fits : (P : Pool) (place : ℕ) (row : Option (Row T)) → rows_in_range P ≡ true → IsSome (option_map (text_form text) row) → forms_in P place ≡ option_map (relink f) (option_map (text_form text) row) → fits_pool (option_map form_of row) ≡ true
  unfolding rows_in_range_by
  listed-fits P place None passes there image = absurd (let h = there in cc)
  listed-fits P place (Some row) passes there image = range-fits row (all-at is_in_range P.rows passes place (relink f (text_form text row)) image)

pub loaded-fits : {T : Type 0} (text : T → Bytes) (h : Heap T) (roots : List ℕ) (P : Pool) → AreRowsLoaded text h roots P → (r l : ℕ) → 0 < count r roots → Reaches (links_at h) r l → fits_pool (form_at h l) ≡ true
loaded-fits text h roots P loaded r l root down =
    let below : Reaches (links_in (text_forms text h)) r l = Reaches-by (links_at h) (links_in (text_forms text h)) (λ k. links-of-text text (row_at h k)) r l down in
    listed-fits text (place_at h roots) P (place_at h roots l) (row_at h l) loaded.checked.rows.in_range ((rooted-heap text h roots loaded.graph loaded.live).there r l root below)
    ((rows-listed text h roots P loaded).rows.renamed r l root below l (here l))
