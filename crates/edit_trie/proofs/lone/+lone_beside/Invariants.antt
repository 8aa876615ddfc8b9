use Rattle.std.proofs.Common.{◌-◌}
use Rattle.elem_core.specs.declared.codes.TheConstants.{LEVELS}
use Rattle.edit_trie.proofs.lone.+lone_beside.Given as goal

abbrev pub decreases-lone_beside : goal.decreases-lone_beside
decreases-lone_beside g l = LEVELS - l.depth
