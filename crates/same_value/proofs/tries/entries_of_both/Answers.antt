use Rattle.std.proofs.Common.{ap, sym, ◌∙◌}
use Rattle.std.specs.Prelude.{count_ones}
use Rattle.champ_trie.proofs.BitLemmas.{count-rank}
use Rattle.same_value.proofs.tries.entries_of_both.Goals as goal
use Rattle.same_value.proofs.tries.entries_of_both.Goals.{else-first-second-via-then-first-second+else-first-second-2, else-first-second-via-else-first-second}

pub returns-then-first-second-2-clause-same : goal.returns-then-first-second-2-clause-same
returns-then-first-second-2-clause-same g c = λ d e n b m k ls ks row other.
    let first = c.positions_of-first.ensures.positions d e n ls row in
    let second = c.positions_of-second.ensures.positions b m k ks other in
    (sym first.0 ∙ c.if-first-second.true ∙ second.0, sym first.1 ∙ c.if-first-second-2.true ∙ second.1, ap count_ones first.0 ∙ count-rank e row.sets.entries_small)

pub returns-else-first-second-clause-same : goal.returns-else-first-second-clause-same
returns-else-first-second-clause-same g c = λ d e n b m k ls ks row other both.
    let first = c.positions_of-first.ensures.positions d e n ls row in
    let second = c.positions_of-second.ensures.positions b m k ks other in
    elim c.else-first-second.branch [
      | else-first-second-via-then-first-second+else-first-second-2 w ↦ w.if-first-second-2.false (first.1 ∙ both.1 ∙ sym second.1)
      | else-first-second-via-else-first-second w ↦ w.if-first-second.false (first.0 ∙ both.0 ∙ sym second.0)
    ]
