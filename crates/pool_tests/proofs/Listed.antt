-- The rows of a pool, as a list from which another pool is made.
use Rattle.std.proofs.Common.{◌≡◌, ℕ, zero, suc, ◌<◌, true, List, [], ◌∷◌, length, slice_get, arith}
use Rattle.node_heap.specs.Links.{count}
use Rattle.node_heap.specs.Forms.{Form, links_of}
use Rattle.pool_order.specs.Laws.{AreLinkedBelow}
use Rattle.pool_text.specs.Rows.{Bytes}
use Rattle.pool_text.specs.Pool.{links_from}
use Rattle.pool_text.specs.declared.pool.Pool.{Pool}
use Rattle.pool_check.specs.Rows.{links_lead_back}
use Rattle.pool_check.proofs.TestLemmas.{leads-down}

-- a row that has a link stands in the list
has-place : (rows : List (Form Bytes)) (l k : ℕ) → 0 < count k (links_of (slice_get rows l)) → l < length rows
has-place [] l k some = absurd (omega arith)
has-place (row ∷ rows) zero k some = omega arith
has-place (row ∷ rows) (suc l) k some = omega (arith, has-place rows l k some)

-- links that lead back lead down
pub linked-below : (P : Pool) → links_lead_back P ≡ true → AreLinkedBelow (length P.rows) (links_from P.rows)
linked-below P back = record {
  rank = λ l. l;
  falls = leads-down P back;
  inside = λ l k has. omega (arith, leads-down P back l k has, has-place P.rows l k has);
}
