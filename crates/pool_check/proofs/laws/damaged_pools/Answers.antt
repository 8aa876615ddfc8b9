use Rattle.std.proofs.Common.{refl}
use Rattle.elem_core.specs.Codes.{text_code, old_text_code}
use Rattle.elem_core.specs.Naming.{is_name}
use Rattle.champ_trie.specs.Walk.{rows_from}
use Rattle.champ_trie.specs.Bits.{rank}
use Rattle.pool_order.specs.Order.{places, order}
use Rattle.pool_check.specs.Rows.{rows_in_range_by, links_lead_back, texts_are_lines}
use Rattle.pool_check.specs.Vectors.{is_thick, length_at, are_children, vectors_stand}
use Rattle.pool_check.specs.Tries.{entries_below, are_branches, tries_stand_by}
use Rattle.pool_check.specs.Kinds.{elements_pass, are_roots, roots_are_of_kind, undo_fits}
use Rattle.pool_check.specs.Damages.{rows_in_order, open_damage, damage_by}
use Rattle.pool_check.proofs.History.{overfull_history-damaged, long_history-damaged}
use Rattle.pool_check.proofs.laws.damaged_pools.Goals as goal

pub returns : goal.returns
unfolding places order rows_in_range_by links_lead_back texts_are_lines is_thick length_at are_children vectors_stand entries_below are_branches tries_stand_by elements_pass are_roots roots_are_of_kind undo_fits rows_in_order open_damage damage_by text_code old_text_code is_name rows_from rank
returns c = record {
  is_tall_row = refl;
  is_long_pair = refl;
  is_forward_link = refl;
  is_root_past_end = refl;
  is_broken_text = refl;
  is_empty_leaf_below = refl;
  is_overfull_history = overfull_history-damaged;
  is_lone_below = refl;
  is_two_at_one = refl;
  is_wrong_position = refl;
  is_turned_chain = refl;
  is_trie_for_state = refl;
  is_one_undone_of_none = refl;
  is_long_history = long_history-damaged;
  is_loose_row = refl;
  is_turned_roots = refl;
  is_turned_lines = refl;
  is_old_sub_node = refl;
  is_old_chained = refl;
  is_later_sub_node = refl;
  is_later_chained = refl;
  is_open_loose_row = refl;
  is_open_turned_roots = refl;
}
