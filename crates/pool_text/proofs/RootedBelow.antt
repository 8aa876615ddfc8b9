-- Rows in a list that lead down are rooted.
use Rattle.std.proofs.Common.{ℕ, ◌<◌, List, length}
use Rattle.std.specs.Prelude.{slice_get}
use Rattle.node_heap.specs.Links.{count, Reaches, here, below}
use Rattle.node_heap.specs.Forms.{Form}
use Rattle.pool_order.specs.Laws.{AreLinkedBelow}
use Rattle.pool_order.proofs.Grounded.{grounded-below}
use Rattle.pool_text.specs.Rows.{Bytes}
use Rattle.pool_text.specs.Pool.{links_from}
use Rattle.pool_text.specs.Renaming.{IsRooted}
use Rattle.pool_text.proofs.Behind.{some-at}

module _ (rows : List (Form Bytes)) (linked : AreLinkedBelow (length rows) (links_from rows)) where
  reached-below : (r l : ℕ) → r < length rows → Reaches (links_from rows) r l → l < length rows
  reached-below r l low (here _) = low
  reached-below r l low (below _ k _ has rest) = reached-below k l (linked.inside r k has) rest

  pub rooted-below : (roots : List ℕ) → ((r : ℕ) → 0 < count r roots → r < length rows) → IsRooted (length rows) (slice_get rows) roots
  rooted-below roots low =
      let grounded = grounded-below (length rows) (links_from rows) linked in
      record { rank = grounded.rank; falls = grounded.falls; low = λ r root. grounded.low r (low r root); there = λ r l root reaches. some-at rows l (reached-below r l (low r root) reaches) }
