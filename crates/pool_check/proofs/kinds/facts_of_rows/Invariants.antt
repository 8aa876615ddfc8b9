use Rattle.std.proofs.Common.{◌≡◌, ◌≤◌, length}
use Rattle.pool_text.specs.Pool.{row_count}
use Rattle.pool_check.specs.Facts.{AreFacts, facts_in}
use Rattle.pool_check.proofs.kinds.facts_of_rows.Given as goal

abbrev pub invariant-loop-place : goal.invariant-loop-place
invariant-loop-place l = record {
  facts : AreFacts (facts_in l.fn.pool) l.facts.items;
  count : length l.facts.items ≡ l._place;
  few : l._place ≤ row_count l.fn.pool;
}
