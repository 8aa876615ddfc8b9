use Rattle.std.proofs.Common.{refl}
use Rattle.champ_trie.specs.Bits.{rank}
use Rattle.edit_trie.specs.Path.{rows_to, chain_rows}
use Rattle.edit_trie.proofs.laws.paths_of_small_tries.Goals as goal

pub returns-clause-edit_at_row : goal.returns-clause-edit_at_row
unfolding rows_to chain_rows rank
returns-clause-edit_at_row c = refl

pub returns-clause-pair_at_row : goal.returns-clause-pair_at_row
unfolding rows_to chain_rows rank
returns-clause-pair_at_row c = refl

pub returns-clause-pair_of_other : goal.returns-clause-pair_of_other
unfolding rows_to chain_rows rank
returns-clause-pair_of_other c = refl

pub returns-clause-edit_below : goal.returns-clause-edit_below
unfolding rows_to chain_rows rank
returns-clause-edit_below c = refl

pub returns-clause-pair_below : goal.returns-clause-pair_below
unfolding rows_to chain_rows rank
returns-clause-pair_below c = refl

pub returns-clause-edit_first : goal.returns-clause-edit_first
unfolding rows_to chain_rows rank
returns-clause-edit_first c = refl

pub returns-clause-edit_between : goal.returns-clause-edit_between
unfolding rows_to chain_rows rank
returns-clause-edit_between c = refl

pub returns-clause-edit_last : goal.returns-clause-edit_last
unfolding rows_to chain_rows rank
returns-clause-edit_last c = refl

pub returns-clause-pair_first : goal.returns-clause-pair_first
unfolding rows_to chain_rows rank
returns-clause-pair_first c = refl

pub returns-clause-pair_last : goal.returns-clause-pair_last
unfolding rows_to chain_rows rank
returns-clause-pair_last c = refl
