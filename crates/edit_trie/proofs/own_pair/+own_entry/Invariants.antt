use Rattle.std.specs.Prelude.{◌-◌}
use Rattle.elem_core.specs.declared.codes.TheConstants.{DEEPEST}
use Rattle.edit_trie.proofs.own_pair.+own_entry.Given as goal

abbrev pub decreases-own_entry : goal.decreases-own_entry
decreases-own_entry g l = DEEPEST - l.depth
