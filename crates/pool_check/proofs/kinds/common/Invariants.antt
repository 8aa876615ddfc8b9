use Rattle.std.proofs.Common.{◌≡◌, ℕ, take}
use Rattle.pool_check.specs.declared.kinds.RowFacts.{RowFacts}
use Rattle.pool_check.specs.Facts.{AreFacts, common_facts}
use Rattle.pool_check.proofs.kinds.common.Given as goal

abbrev pub invariant-loop-link : goal.invariant-loop-link
invariant-loop-link l = (facts : ℕ → RowFacts) → AreFacts facts l.fn.kept → l.all ≡ common_facts facts (take l.link-index l.fn.links)
