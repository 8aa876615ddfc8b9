use Rattle.std.proofs.Common.{◌≡◌, ◌<◌, ◌∙◌, ap, sym, subst, arith}
use Rattle.node_heap.specs.Heap.{holds_at, one_at}
use Rattle.champ_chain.proofs.CopyLemmas.{one_at-same}
use Rattle.champ_kinds.specs.Root.{Root}
use Rattle.map_tests.proofs.StandLemmas.{shared-holds}
use Rattle.map_tests.proofs.maps.share_and_release.Goals as goal

pub release-requires : goal.release-requires
release-requires g c =
    let root = c.in_ok-map.map.root in
    omega (arith, shared-holds c.share-again.ensures.builds root, ap (λ (r : Root). one_at r.root root) c.share-again.ensures.same, one_at-same root)

pub release-requires-2 : goal.release-requires-2
release-requires-2 g c =
    let root = c.in_ok-map.map.root in
    let same : c.from_root.result.root ≡ root = ap (λ (r : Root). r.root) c.from_root.ensures ∙ (c.into_root-root.ensures ∙ ap (λ (r : Root). r.root) c.share-again.ensures.same) in
    let shared = ap (λ (r : Root). one_at r.root root) c.share-again.ensures.same in
    subst (λ l. 0 < holds_at c.release.new.heap l) (sym same)
    (omega (arith, c.in_ok-map.ensures.answered.holds root, shared-holds c.share-again.ensures.builds root, shared, c.release.ensures.releases.holds root, one_at-same root))
