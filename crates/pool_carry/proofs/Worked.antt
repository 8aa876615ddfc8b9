-- Facts on worked pools.
use Rattle.std.proofs.Common.{refl}
use Rattle.elem_core.specs.Codes.{text_code, old_text_code}
use Rattle.elem_core.specs.Naming.{is_name}
use Rattle.champ_trie.specs.Bits.{rank}
use Rattle.champ_trie.specs.Walk.{rows_from}
use Rattle.pool_order.specs.Order.{places, order}
use Rattle.pool_text.specs.Pool.{pool}
use Rattle.pool_check.specs.Rows.{rows_in_range_by, links_lead_back, texts_are_lines}
use Rattle.pool_check.specs.Vectors.{is_thick, length_at, are_children, vectors_stand}
use Rattle.pool_check.specs.Tries.{entries_below, are_branches, tries_stand_by}
use Rattle.pool_check.specs.Kinds.{elements_pass, are_roots, roots_are_of_kind, undo_fits}
use Rattle.pool_check.specs.Damages.{rows_in_order, damage_by}
use Rattle.pool_carry.specs.Computed.{rows_of, new_rows, carried}
use Rattle.pool_carry.specs.Worked.{CarriedPools, CarriedPoolsPass, OldPoolsPass}

pub carried-pools : CarriedPools
unfolding places order entries_below text_code rows_from rank pool rows_of new_rows carried
carried-pools = record { is_start_pool = refl; is_two_cells = refl; is_sub_node = refl; is_chained = refl; is_seven_bits = refl; is_no_bits = refl; is_equal_tries = refl }

pub carried-pass : CarriedPoolsPass
unfolding places order rows_in_range_by links_lead_back texts_are_lines is_thick length_at are_children vectors_stand entries_below are_branches tries_stand_by elements_pass are_roots roots_are_of_kind undo_fits rows_in_order damage_by text_code old_text_code is_name rows_from rank
carried-pass = record { is_start_pool = refl; is_two_cells = refl; is_sub_node = refl; is_chained = refl; is_seven_bits = refl; is_no_bits = refl; is_equal_tries = refl }

pub old-pass : OldPoolsPass
unfolding places order rows_in_range_by links_lead_back texts_are_lines is_thick length_at are_children vectors_stand entries_below are_branches tries_stand_by elements_pass are_roots roots_are_of_kind undo_fits rows_in_order damage_by text_code old_text_code is_name rows_from rank
old-pass = record { is_seven_bits = refl; is_no_bits = refl; is_equal_tries = refl }
