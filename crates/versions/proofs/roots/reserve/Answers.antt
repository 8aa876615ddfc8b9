use Rattle.std.proofs.Common.{ap, sym, subst}
use Rattle.versions.specs.Roots.{KeepsRoots}
use Rattle.versions.proofs.MadeLemmas.{room-made}
use Rattle.versions.proofs.roots.reserve.Goals as goal

pub returns-clause-keeps : goal.returns-clause-keeps
returns-clause-keeps g c =
    let roots = c.args.roots.now.slots in
    subst (KeepsRoots c.args.heap.now c.reserve-2.new.self roots) (sym (ap (λ s. s.slots) c.reserve.ensures.rest_kept)) (room-made c.requires c.reserve-2.ensures.rest c.reserve-2.ensures.extends)
