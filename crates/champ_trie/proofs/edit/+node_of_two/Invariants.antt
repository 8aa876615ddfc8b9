use Rattle.std.specs.Prelude.{◌-◌}
use Rattle.elem_core.specs.declared.codes.TheConstants.{LEVELS}
use Rattle.champ_trie.proofs.edit.+node_of_two.Given as goal

abbrev pub decreases-node_of_two : goal.decreases-node_of_two
decreases-node_of_two g l = LEVELS - l.depth
