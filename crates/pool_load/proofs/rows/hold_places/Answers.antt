use Rattle.std.proofs.Common.{[], List, ℕ, sym, subst, ◌∙◌}
use Rattle.node_heap.specs.Calls.{Builds}
use Rattle.node_heap.proofs.BuildLemmas.{Builds-hold, Builds-beside}
use Rattle.pool_load.proofs.Places.{links-more}
use Rattle.pool_load.proofs.rows.hold_places.Goals as goal

pub loop-place-preserved : goal.loop-place-preserved
loop-place-preserved g c =
    let held = Builds-hold c.hold.ensures.holds c.hold.ensures.makes c.hold.ensures.count c.hold.ensures.graph c.hold.ensures.extends in
    record {
      rows = λ k. c.hold.ensures.rows k ∙ c.loop-place.invariant.rows k;
      builds =
          subst (λ (ks : List ℕ). Builds c.args.heap.now c.hold.new.self [] ks 0 0)
          (sym (links-more c.args.links.now c.args.places.now c.loop-place.place-index c.index-links-place.result c.requires.places c.loop-place-test.true c.index-links-place.is))
          (Builds-beside c.loop-place.invariant.builds held);
    }
