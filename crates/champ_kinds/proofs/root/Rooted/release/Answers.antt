use Rattle.std.proofs.Common.{◌<◌, sym, subst}
use Rattle.node_heap.specs.Heap.{holds_at, one_at}
use Rattle.champ_kinds.proofs.StayLemmas.{container-stays}
use Rattle.champ_kinds.proofs.root.Rooted.release.Goals as goal

pub returns-clause-containers : goal.returns-clause-containers
returns-clause-containers g c = λ r left.
    container-stays c.args.heap.now c.release.new.self r (c.release.ensures.keeps.kept r.root (subst (λ l. one_at l r.root < holds_at c.args.heap.now r.root) (sym c.into_root-root.ensures) left))
