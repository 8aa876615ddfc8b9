use Rattle.std.proofs.Common.{refl}
use Rattle.serde_json.proofs.OnLiterals.{serde_json_on_literals}
use Rattle.std.specs.Fmt.{digits}
use Rattle.std.specs.Str.{is_utf8, chars}
use Rattle.elem_core.specs.Codes.{text_code, old_text_code}
use Rattle.elem_core.specs.Naming.{is_name}
use Rattle.champ_trie.specs.Walk.{rows_from}
use Rattle.champ_trie.specs.Bits.{rank}
use Rattle.pool_order.specs.Order.{places, order}
use Rattle.pool_text.specs.Pool.{pool}
use Rattle.pool_text.specs.Document.{document, pool_in, value_damage, bytes_damage, present_value_damage, present_bytes_damage}
use Rattle.pool_check.specs.Rows.{rows_in_range_by, links_lead_back, texts_are_lines}
use Rattle.pool_check.specs.Vectors.{is_thick, length_at, are_children, vectors_stand}
use Rattle.pool_check.specs.Tries.{entries_below, are_branches, tries_stand_by}
use Rattle.pool_check.specs.Kinds.{elements_pass, are_roots, roots_are_of_kind, undo_fits}
use Rattle.pool_check.specs.Damages.{rows_in_order, open_damage, damage_by, document_damage}
use Rattle.pool_delta.specs.Parts.{part_document, part_in, part_value_damage, part_bytes_damage}
use Rattle.pool_delta.specs.Chains.{start_damage, more_damage}
use Rattle.pool_delta.specs.Delta.{placing, delta}
use Rattle.pool_delta.proofs.laws.worked_chains.Goals as goal

pub returns : goal.returns
unfolding document pool_in value_damage bytes_damage digits is_utf8 chars serde_json_on_literals places order rows_in_range_by links_lead_back texts_are_lines is_thick length_at are_children vectors_stand entries_below are_branches tries_stand_by elements_pass are_roots roots_are_of_kind undo_fits rows_in_order damage_by document_damage text_code old_text_code is_name rows_from rank open_damage pool part_document part_in part_value_damage part_bytes_damage present_value_damage present_bytes_damage start_damage more_damage placing delta
returns c = record {
  is_whole = refl;
  is_more = refl;
  is_again = refl;
  is_cut_off = refl;
  is_other_bits = refl;
  is_first_version = refl;
  is_second_version = refl;
  is_form = refl;
  more_cut_off = refl;
  more_whole = refl;
  more_format = refl;
  more_history = refl;
  more_roots = refl;
  more_version = refl;
  more_bits = refl;
  more_row = refl;
  more_after = refl;
  more_after_more = refl;
  more_forward = refl;
  more_text = refl;
  more_vector = refl;
  more_trie = refl;
  more_kind = refl;
  more_undo = refl;
  more_loose = refl;
  more_turned = refl;
}
