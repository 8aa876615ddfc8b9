use Rattle.std.proofs.Common.{◌≡◌, true, take, map}
use Rattle.pool_text.specs.Rows.{row_form}
use Rattle.pool_check.specs.Rows.{rows_lead_back}
use Rattle.pool_check.proofs.rows.links_lead_back.Given as goal

abbrev pub invariant-loop-place : goal.invariant-loop-place
invariant-loop-place l = rows_lead_back 0 (map row_form (take l.place l.rows)) ≡ true
