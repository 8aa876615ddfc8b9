use Rattle.std.proofs.Common.{◌≡◌, ℕ, drop}
use Rattle.node_heap.specs.Forms.{Forms}
use Rattle.pool_text.specs.Rows.{Bytes}
use Rattle.pool_check.specs.Roots.{are_of}
use Rattle.pool_check.specs.Facts.{facts_at, AreFacts}
use Rattle.pool_check.proofs.kinds.are_roots.Given as goal

abbrev pub invariant-loop-place : goal.invariant-loop-place
invariant-loop-place l = (n : ℕ) (F : Forms Bytes) → AreFacts (facts_at n F) l.fn.kept → are_of n F l.fn.kinds l.fn.roots ≡ are_of n F (drop l.place l.fn.kinds) (drop l.place l.fn.roots)
