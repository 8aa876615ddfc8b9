use Rattle.std.proofs.Common.{refl}
use Rattle.serde_json.proofs.OnLiterals.{serde_json_on_literals}
use Rattle.std.specs.Fmt.{digits}
use Rattle.std.specs.Str.{is_utf8, chars}
use Rattle.elem_core.specs.Codes.{text_code, old_text_code}
use Rattle.elem_core.specs.Naming.{is_name}
use Rattle.champ_trie.specs.Walk.{rows_from}
use Rattle.champ_trie.specs.Bits.{rank}
use Rattle.pool_order.specs.Order.{places, order}
use Rattle.pool_text.specs.Document.{document, pool_in, value_damage, bytes_damage}
use Rattle.pool_check.specs.Rows.{rows_in_range_by, links_lead_back, texts_are_lines}
use Rattle.pool_check.specs.Vectors.{is_thick, length_at, are_children, vectors_stand}
use Rattle.pool_check.specs.Tries.{entries_below, are_branches, tries_stand_by}
use Rattle.pool_check.specs.Kinds.{elements_pass, are_roots, roots_are_of_kind, undo_fits}
use Rattle.pool_check.specs.Damages.{rows_in_order, damage_by, document_damage}
use Rattle.pool_check.proofs.laws.worked_damages.Goals as goal

pub returns : goal.returns
unfolding document pool_in value_damage bytes_damage digits is_utf8 chars serde_json_on_literals places order rows_in_range_by links_lead_back texts_are_lines is_thick length_at are_children vectors_stand entries_below are_branches tries_stand_by elements_pass are_roots roots_are_of_kind undo_fits rows_in_order damage_by document_damage text_code old_text_code is_name rows_from rank
returns c = record {
  is_start = refl;
  is_cut_off = refl;
  is_three_roots = refl;
  is_later_version = refl;
  is_other_bits = refl;
  is_tall_row = refl;
  is_tall_row_by_other_bits = refl;
  is_forward_link = refl;
  is_broken_text = refl;
  is_empty_leaf_below = refl;
  is_lone_below = refl;
  is_trie_for_state = refl;
  is_one_undone_of_none = refl;
  is_loose_row = refl;
  is_turned_roots = refl;
  is_old_start = refl;
  is_old_by_few_bits = refl;
  is_old_by_other_bits = refl;
  is_old_sub_node = refl;
  is_later_sub_node = refl;
}
