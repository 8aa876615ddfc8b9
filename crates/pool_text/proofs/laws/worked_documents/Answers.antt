use Rattle.std.proofs.Common.{refl}
use Rattle.serde_json.proofs.OnLiterals.{serde_json_on_literals}
use Rattle.std.specs.Fmt.{digits}
use Rattle.std.specs.Str.{is_utf8, chars}
use Rattle.pool_order.specs.Order.{places, order}
use Rattle.pool_text.specs.Pool.{pool}
use Rattle.pool_text.specs.Document.{document, pool_in, value_damage, bytes_damage}
use Rattle.pool_text.proofs.laws.worked_documents.Goals as goal

pub returns : goal.returns
unfolding places order pool document pool_in value_damage bytes_damage digits is_utf8 chars serde_json_on_literals
returns c = record {
  start_itself = refl;
  two_cells_itself = refl;
  shared_empties_itself = refl;
  sub_node_itself = refl;
  one_line_twice_itself = refl;
  turned = refl;
  other_bits = refl;
  start_text = refl;
  cut_off = refl;
  three_roots = refl;
  later_version = refl;
  unknown_letter = refl;
  no_damage = refl;
  fewer_bits = refl;
  deepest_row = refl;
  second = refl;
  second_bounded = refl;
  third_unbounded = refl;
  history_too_great = refl;
  no_history = refl;
  later_bounded = refl;
  old = refl;
  old_pool = refl;
  old_by_few_bits = refl;
  old_by_more_bits = refl;
  old_by_all_bits = refl;
  too_deep = refl;
  old_written = refl;
}
