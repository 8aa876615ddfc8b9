use Rattle.std.proofs.Common.{[], ◌∷◌, sym, subst}
use Rattle.node_heap.specs.Calls.{Builds}
use Rattle.node_heap.proofs.BuildLemmas.{Builds-hold}
use Rattle.champ_kinds.specs.Root.{Root}
use Rattle.champ_kinds.proofs.StayLemmas.{containers-extended}
use Rattle.champ_kinds.proofs.root.RootRef.share.Goals as goal

pub returns-clause-builds : goal.returns-clause-builds
returns-clause-builds g c = subst (λ (r : Root). Builds c.args.heap.now c.hold.new.self [] (r.root ∷ []) 0 0) (sym c.from_root.ensures)
    (Builds-hold c.hold.ensures.holds c.hold.ensures.makes c.hold.ensures.count c.hold.ensures.graph c.hold.ensures.extends)

pub returns-clause-containers : goal.returns-clause-containers
returns-clause-containers g c = containers-extended _ _ c.hold.ensures.extends
