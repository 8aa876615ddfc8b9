use Rattle.vector_tests.proofs.GivenUpLemmas.{IsBeside, answered-beside, used-beside, beside-held, given-back}
use Rattle.vector_tests.proofs.joins.joins_as_the_lists.Goals as goal

pub inserts_as_the_list-requires-2-clause-good : goal.inserts_as_the_list-requires-2-clause-good
inserts_as_the_list-requires-2-clause-good c =
    rw c.into_root-new.ensures (c.in_ok-inserts_as_the_list.ensures.vectors c.in_ok-concat.field-0 (beside-held (answered-beside c.in_ok-concat.ensures.answered)) c.in_ok-concat.ensures.good)

pub erases_as_the_list-requires-clause-good : goal.erases_as_the_list-requires-clause-good
erases_as_the_list-requires-clause-good c =
    let joined = answered-beside c.in_ok-concat.ensures.answered in
    let once = c.in_ok-inserts_as_the_list.ensures in
    rw c.into_root-new.ensures (c.in_ok-inserts_as_the_list-2.ensures.vectors c.in_ok-concat.field-0 (beside-held (used-beside joined once)) (once.vectors c.in_ok-concat.field-0 (beside-held joined) c.in_ok-concat.ensures.good))

pub returns : goal.returns
returns c =
    let joined : IsBeside c.args.heap.now c.concat.new.heap c.from_root.result = rw (c.from_root.ensures, c.into_root-new.ensures) (answered-beside c.in_ok-concat.ensures.answered) in
    let used = used-beside (used-beside (used-beside joined c.in_ok-inserts_as_the_list.ensures) c.in_ok-inserts_as_the_list-2.ensures) c.in_ok-erases_as_the_list.ensures in
    given-back used c.release.ensures.releases c.release.ensures.vectors
