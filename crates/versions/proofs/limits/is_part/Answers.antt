use Rattle.std.proofs.Common.{arith}
use Rattle.std.proofs.lemmas.Bool.{leb-true, le-leb}
use Rattle.versions.proofs.CallLemmas.{length-at}
use Rattle.versions.proofs.limits.is_part.Goals as goal

pub returns-then-from-to : goal.returns-then-from-to
returns-then-from-to g c = λ xs is.
    let len = length-at c.args.heap.now c.args.root c.at.result xs c.at.ensures is in (
      λ yes. (omega (arith, c.if-from-to.true), omega (arith, leb-true c.args.to c.len.result yes, c.len.ensures.value, len)),
      λ part. le-leb c.args.to c.len.result (omega (arith, part.1, c.len.ensures.value, len)),
    )
