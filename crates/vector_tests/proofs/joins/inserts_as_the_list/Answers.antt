use Rattle.rrb_core.proofs.Stays.{extended-good}
use Rattle.rrb_core.proofs.BuildLemmas.{unchanged-good}
use Rattle.vector_tests.proofs.GivenUpLemmas.{spent-beside, beside-held, given-back}
use Rattle.vector_tests.proofs.joins.inserts_as_the_list.Goals as goal

pub insert-requires-2-clause-good : goal.insert-requires-2-clause-good
insert-requires-2-clause-good c =
    rw c.at.ensures (extended-good c.args.root c.cell-cell.ensures.extends (unchanged-good c.args.root c.in_ok-reserve.ensures.rest c.requires.good).0)

pub release-requires : goal.release-requires
release-requires c =
    rw (c.from_root.ensures, c.into_root-new.ensures) (beside-held (spent-beside c.in_ok-reserve.ensures.rest c.cell-cell.ensures.adds c.cell-cell.ensures.count c.cell-cell.ensures.extends c.in_ok-insert-2.ensures.answered))

pub returns : goal.returns
returns c =
    given-back (rw (c.from_root.ensures, c.into_root-new.ensures) (spent-beside c.in_ok-reserve.ensures.rest c.cell-cell.ensures.adds c.cell-cell.ensures.count c.cell-cell.ensures.extends c.in_ok-insert-2.ensures.answered)) c.release.ensures.releases c.release.ensures.vectors
