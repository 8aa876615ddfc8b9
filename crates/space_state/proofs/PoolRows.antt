-- The rows that the roots of a space reach fit a pool.
use Rattle.std.proofs.Common.{◌≡◌, ℕ, ◌<◌, true, Option, Some, None, IsSome, option_map, [], length, refl, subst}
use Rattle.node_heap.specs.Links.{count, Reaches, here}
use Rattle.node_heap.specs.Forms.{Form, cell, node, links_in}
use Rattle.node_heap.specs.Heap.{row_at, form_at, links_at}
use Rattle.node_heap.proofs.Reach.{Reaches-by}
use Rattle.node_heap.proofs.Trees.{links_of-form}
use Rattle.pool_order.specs.Order.{order}
use Rattle.pool_text.specs.Rows.{is_in_range}
use Rattle.pool_text.specs.Pool.{forms_in, place_in, relink, settings_by, fits_pool, pool}
use Rattle.pool_text.specs.Renaming.{IsRooted}
use Rattle.pool_text.specs.declared.pool.Pool.{Pool}
use Rattle.pool_text.proofs.Held.{rooted-forms, texts-are-forms}
use Rattle.pool_text.proofs.PoolRows.{pool-renamed}
use Rattle.pool_check.specs.Rows.{rows_in_range, rows_in_range_by}
use Rattle.pool_check.proofs.TestLemmas.{all-at}
use Rattle.pool_load.proofs.Fits.{node-fits}
use Rattle.shell_terms.specs.Edit.{Bytes}
use Rattle.plain_space.specs.Workspace.{Workspace}
use Rattle.space_state.specs.declared.roots.RootedHeap.{RootedHeap}
use Rattle.space_state.specs.Roots.{root_list, Keeps}
use Rattle.space_state.proofs.Keeping.{root-held, held-live}
use Rattle.space_state.proofs.Front.{pool-valid}

-- a row that is in range under other links fits a pool
range-fits : (f : ℕ → ℕ) (row : Form Bytes) → is_in_range (relink f row) ≡ true → fits_pool (Some row) ≡ true
range-fits f (cell text) in_range = refl
range-fits f (node kind links) in_range = node-fits Bytes Bytes f kind links in_range

rows-pass : (P : Pool) (place : ℕ) (row : Form Bytes) → rows_in_range P ≡ true → forms_in P place ≡ Some row → is_in_range row ≡ true
unfolding rows_in_range_by
rows-pass P place row passes is = all-at is_in_range P.rows passes place row is

fits-renamed : (P : Pool) (f : ℕ → ℕ) (place : ℕ) (row : Option (Form Bytes)) → rows_in_range P ≡ true → IsSome row → forms_in P place ≡ option_map (relink f) row → fits_pool row ≡ true
fits-renamed P f place None passes there image = absurd (let h = there in cc)
fits-renamed P f place (Some row) passes there image = range-fits f row (rows-pass P place (relink f row) passes image)

module _ (s : RootedHeap) (W : Workspace) (K : Keeps s [] W) where
  pub roots-live : (r : ℕ) → 0 < count r (root_list s.roots) → IsSome (row_at s.heap r)
  roots-live r root = held-live K r (root-held K r root)

  rooted : IsRooted (length s.heap.rows) (form_at s.heap) (root_list s.roots)
  rooted = rooted-forms s.heap (root_list s.roots) K.graph roots-live

  pub rows-fit : (r l : ℕ) → 0 < count r (root_list s.roots) → Reaches (links_at s.heap) r l → fits_pool (form_at s.heap l) ≡ true
  rows-fit r l root down =
      let P : Pool = pool (length s.heap.rows) (form_at s.heap) (root_list s.roots) (settings_by s.bits s.history) in
      let f : ℕ → ℕ = place_in (order (length s.heap.rows) (links_in (form_at s.heap)) (root_list s.roots)) in
      let below : Reaches (links_in (form_at s.heap)) r l = Reaches-by (links_at s.heap) (links_in (form_at s.heap)) (λ k. links_of-form (row_at s.heap k)) r l down in
      let passes : rows_in_range P ≡ true = subst (λ (Q : Pool). rows_in_range Q ≡ true) (texts-are-forms s.heap (root_list s.roots) (settings_by s.bits s.history)) (pool-valid s W K).in_range in
      fits-renamed P f (f l) (form_at s.heap l) passes (rooted.there r l root below)
      (pool-renamed (length s.heap.rows) (form_at s.heap) (root_list s.roots) rooted (settings_by s.bits s.history) r r root (here r) l below)
