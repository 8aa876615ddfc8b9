use Rattle.std.proofs.Common.{◌≡◌, length}
use Rattle.champ_trie.specs.Trie.{code_by}
use Rattle.pool_text.specs.Rules.{rules_named}
use Rattle.pool_check.specs.Keeping.{forms_at, AreKept}
use Rattle.pool_check.proofs.tries.kept_of.Given as goal

abbrev pub invariant-loop-place : goal.invariant-loop-place
invariant-loop-place l =
    (length l.kept.items ≡ l.place) × AreKept (length l.rows) (forms_at l.rows) (code_by (rules_named l.fn.rules).code_of l.fn.pool.bits) (rules_named l.fn.rules).deepest l.kept.items
