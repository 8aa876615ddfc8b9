use Rattle.std.proofs.Common.{[], refl}
use Rattle.versions.proofs.MakingLemmas.{answered-list}
use Rattle.versions.proofs.making.emptied.Goals as goal

pub returns : goal.returns
returns g c =
    let made = c.in-Ok.ensures in
    rw c.into_root.ensures (answered-list c.args.heap.now c.empty.new.heap c.in-Ok.vector 1 [] [] made.answered made.good made.items refl)
