use Rattle.std.proofs.Common.{arith}
use Rattle.std.proofs.lemmas.Bool.{ltb-true, lt-ltb}
use Rattle.versions.proofs.CallLemmas.{length-at}
use Rattle.versions.proofs.limits.is_long.Goals as goal

pub returns : goal.returns
returns g c = λ xs ys is are.
    let left = length-at c.args.heap.now c.args.left c.at.result xs c.at.ensures is in
    let right = length-at c.args.heap.now c.args.right c.at-2.result ys c.at-2.ensures are in (
      λ yes. omega (arith, ltb-true _ _ yes, c.len-len.ensures.value, c.len.ensures.value, left, right),
      λ long. lt-ltb _ _ (omega (arith, long, c.len-len.ensures.value, c.len.ensures.value, left, right)),
    )
