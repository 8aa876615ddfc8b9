use Rattle.std.specs.Prelude.{◌-◌}
use Rattle.elem_core.specs.declared.codes.TheConstants.{LEVELS}
use Rattle.champ_trie.proofs.edit.+with_at.Given as goal

abbrev pub decreases-with_at : goal.decreases-with_at
decreases-with_at g l = LEVELS - l.depth
