use Rattle.std.specs.Prelude.{slice_index}
use Rattle.champ_trie.specs.Trie.{code_by}
use Rattle.pool_text.specs.Rules.{rules_named}
use Rattle.pool_text.specs.Pool.{forms_in, row_count}
use Rattle.pool_carry.proofs.Walk.{rows_waiting}
use Rattle.pool_carry.proofs.EntryWalk.{IsWalk}
use Rattle.pool_carry.proofs.entries.entries_below.Given as goal

abbrev pub invariant-loop-place : goal.invariant-loop-place
invariant-loop-place l = IsWalk (row_count l.pool) (forms_in l.pool) (slice_index l.images) (code_by (rules_named l.rules).code_of l.bits) l.root l.entries.items l.waiting.items

abbrev pub decreases-loop-place : goal.decreases-loop-place
decreases-loop-place l = rows_waiting (row_count l.pool) (forms_in l.pool) l.waiting.items
