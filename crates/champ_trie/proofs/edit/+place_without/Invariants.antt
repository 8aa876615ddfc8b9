use Rattle.std.specs.Prelude.{◌-◌}
use Rattle.elem_core.specs.declared.codes.TheConstants.{DEEPEST}
use Rattle.champ_trie.proofs.edit.+place_without.Given as goal

abbrev pub decreases-place_without : goal.decreases-place_without
decreases-place_without g l = DEEPEST - l.depth
