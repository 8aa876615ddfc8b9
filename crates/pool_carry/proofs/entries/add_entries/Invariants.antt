use Rattle.std.proofs.Common.{◌≡◌, ◌++◌, map, take}
use Rattle.std.specs.Prelude.{slice_index}
use Rattle.std.specs.List.{filter_map}
use Rattle.champ_trie.specs.Trie.{code_by}
use Rattle.pool_text.specs.Rules.{rules_named}
use Rattle.pool_check.specs.Tries.{entry_at}
use Rattle.pool_check.specs.Keeping.{forms_at}
use Rattle.pool_check.specs.Readings.{moved}
use Rattle.pool_carry.specs.Making.{seen, AreCoded}
use Rattle.pool_carry.proofs.entries.add_entries.Given as goal

abbrev pub invariant-loop-place : goal.invariant-loop-place
invariant-loop-place l = record {
  whole : map seen l.entries.items ≡ map seen l.fn.entries.items ++ map (moved (slice_index l.images)) (filter_map (entry_at (forms_at l.rows)) (take l.place-index l.places));
  codes : AreCoded (code_by (rules_named l.rules).code_of l.bits) l.fn.entries.items → AreCoded (code_by (rules_named l.rules).code_of l.bits) l.entries.items;
}
