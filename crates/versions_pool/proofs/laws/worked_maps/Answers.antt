use Rattle.std.proofs.Common.{refl}
use Rattle.serde_json.proofs.OnLiterals.{serde_json_on_literals}
use Rattle.std.specs.Fmt.{digits}
use Rattle.std.specs.Str.{is_utf8, chars}
use Rattle.elem_core.specs.Codes.{text_code}
use Rattle.rrb_core.specs.Seq.{seq_at}
use Rattle.champ_trie.specs.Walk.{rows_from}
use Rattle.champ_trie.specs.Bits.{rank}
use Rattle.pool_order.specs.Order.{places, order}
use Rattle.pool_check.specs.Rows.{rows_in_range_by, links_lead_back, texts_are_lines}
use Rattle.pool_check.specs.Vectors.{is_thick, length_at, are_children, vectors_stand}
use Rattle.pool_check.specs.Tries.{entries_below, are_branches, tries_stand_by}
use Rattle.pool_check.specs.Kinds.{elements_pass}
use Rattle.pool_check.specs.Roots.{roots_are_of}
use Rattle.pool_check.specs.Damages.{rows_in_order, damage_with_roots}
use Rattle.versions_pool.specs.Saved.{saved_document, saved_in, value_damage, bytes_damage}
use Rattle.versions_pool.specs.Stores.{store_damage, store_in}
use Rattle.versions_pool.proofs.laws.worked_maps.Goals as goal

pub returns : goal.returns
unfolding text_code digits is_utf8 chars serde_json_on_literals seq_at rows_from rank places order rows_in_range_by links_lead_back texts_are_lines is_thick length_at are_children vectors_stand entries_below are_branches tries_stand_by elements_pass roots_are_of rows_in_order damage_with_roots saved_document saved_in value_damage bytes_damage store_damage store_in
returns c = record {
  is_read = refl;
  is_both = refl;
  is_empty = refl;
  is_set = refl;
  is_misplaced = refl;
}
