use Rattle.std.proofs.Common.{◌<◌, arith}
use Rattle.node_heap.specs.Heap.{holds_at}
use Rattle.rrb_core.proofs.Stays.{extended-good}
use Rattle.vector_tests.proofs.GivenUpLemmas.{IsBeside, answered-beside, used-beside, beside-held, given-back}
use Rattle.vector_tests.proofs.joins.cuts_as_the_list.Goals as goal

pub joins_as_the_lists-requires-clause-left : goal.joins_as_the_lists-requires-clause-left
joins_as_the_lists-requires-clause-left c = extended-good c.args.root c.in_ok-slice.ensures.answered.extends c.requires.good

pub joins_as_the_lists-requires-2-clause-left : goal.joins_as_the_lists-requires-2-clause-left
joins_as_the_lists-requires-2-clause-left c =
    rw c.into_root-part.ensures (c.in_ok-joins_as_the_lists.ensures.vectors c.in_ok-slice.field-0 (beside-held (answered-beside c.in_ok-slice.ensures.answered)) c.in_ok-slice.ensures.good)

pub joins_as_the_lists-requires-2-clause-right : goal.joins_as_the_lists-requires-2-clause-right
joins_as_the_lists-requires-2-clause-right c =
    let held : 0 < holds_at c.slice.new.heap c.args.root = omega (arith, c.requires.held, (answered-beside c.in_ok-slice.ensures.answered).more c.args.root) in
    c.in_ok-joins_as_the_lists.ensures.vectors c.args.root held (extended-good c.args.root c.in_ok-slice.ensures.answered.extends c.requires.good)

beside : (c : goal.After-release) → IsBeside c.args.heap.now c.joins_as_the_lists-2.new.heap c.from_root.result
beside c =
    let first : IsBeside c.args.heap.now c.slice.new.heap c.from_root.result = rw (c.from_root.ensures, c.into_root-part.ensures) (answered-beside c.in_ok-slice.ensures.answered) in
    used-beside (used-beside first c.in_ok-joins_as_the_lists.ensures) c.in_ok-joins_as_the_lists-2.ensures

pub returns : goal.returns
returns c = given-back (beside c) c.release.ensures.releases c.release.ensures.vectors
