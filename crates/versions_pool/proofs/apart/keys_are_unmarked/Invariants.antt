use Rattle.std.proofs.Common.{◌≡◌, true, map, take}
use Rattle.std.specs.Prelude.{not}
use Rattle.std.specs.List.{filter_map, list_all}
use Rattle.pool_text.specs.Rows.{row_form}
use Rattle.versions_pool.specs.Apart.{key_link, is_value_in}
use Rattle.versions_pool.proofs.apart.keys_are_unmarked.Given as goal

abbrev pub invariant-loop-row : goal.invariant-loop-row
invariant-loop-row l = list_all (λ k. not (is_value_in (map row_form l.rows) k)) (filter_map key_link (map row_form (take l.row-index l.rows))) ≡ true
