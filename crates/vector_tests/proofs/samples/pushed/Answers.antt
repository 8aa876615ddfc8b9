use Rattle.rrb_core.proofs.Stays.{extended-good}
use Rattle.rrb_core.proofs.BuildLemmas.{unchanged-good}
use Rattle.vector_tests.proofs.GivenUpLemmas.{spent-beside, beside-held}
use Rattle.vector_tests.proofs.samples.pushed.Goals as goal

pub push-requires-clause-good : goal.push-requires-clause-good
push-requires-clause-good c =
    rw c.at.ensures (extended-good c.args.root c.cell-cell.ensures.extends (unchanged-good c.args.root c.in_ok-reserve.ensures.rest c.requires.good).0)

pub returns-clause-held : goal.returns-clause-held
returns-clause-held c = rw c.into_root.ensures (beside-held (spent-beside c.in_ok-reserve.ensures.rest c.cell-cell.ensures.adds c.cell-cell.ensures.count c.cell-cell.ensures.extends c.in_ok-push.ensures.answered))

pub returns-clause-others : goal.returns-clause-others
returns-clause-others c = λ l good.
    extended-good l c.in_ok-push.ensures.answered.extends (extended-good l c.cell-cell.ensures.extends (unchanged-good l c.in_ok-reserve.ensures.rest good).0)
