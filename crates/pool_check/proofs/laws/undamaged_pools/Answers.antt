use Rattle.std.proofs.Common.{refl}
use Rattle.elem_core.specs.Codes.{text_code, old_text_code}
use Rattle.elem_core.specs.Naming.{is_name}
use Rattle.champ_trie.specs.Walk.{rows_from}
use Rattle.champ_trie.specs.Bits.{rank}
use Rattle.pool_order.specs.Order.{places, order}
use Rattle.pool_check.specs.Rows.{rows_in_range_by, links_lead_back, texts_are_lines}
use Rattle.pool_check.specs.Vectors.{is_thick, length_at, are_children, vectors_stand}
use Rattle.pool_check.specs.Tries.{entries_below, are_branches, tries_stand_by}
use Rattle.pool_check.specs.Kinds.{elements_pass, are_roots, roots_are_of_kind, undo_fits}
use Rattle.pool_check.specs.Damages.{rows_in_order, damage_by}
use Rattle.pool_check.proofs.History.{full_history-undamaged}
use Rattle.pool_check.proofs.laws.undamaged_pools.Goals as goal

pub returns : goal.returns
unfolding places order rows_in_range_by links_lead_back texts_are_lines is_thick length_at are_children vectors_stand entries_below are_branches tries_stand_by elements_pass are_roots roots_are_of_kind undo_fits rows_in_order damage_by text_code old_text_code is_name rows_from rank
returns c = record {
  is_start = refl;
  is_two_cells = refl;
  is_shared_empties = refl;
  is_sub_node = refl;
  is_one_line_twice = refl;
  is_chained = refl;
  is_full_history = full_history-undamaged;
  is_one_undone = refl;
  is_old_start = refl;
  is_old_two_cells = refl;
  is_old_sub_node = refl;
  is_old_chained = refl;
}
