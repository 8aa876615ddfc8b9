use Rattle.std.proofs.Common.{◌≡◌, ℕ, List, [], map, sym, subst, ◌∙◌}
use Rattle.std.specs.Prelude.{slice_index}
use Rattle.node_heap.specs.Forms.{node}
use Rattle.node_heap.specs.Calls.{Builds}
use Rattle.pool_load.specs.Making.{ComesBeside}
use Rattle.pool_load.proofs.Joined.{joined-node}
use Rattle.pool_load.proofs.rows.make_node.Goals as goal

pub returns : goal.returns
returns g c =
    let e : c.as_slice.result.now ≡ map (slice_index c.args.links.now) c.args.places.now = c.as_slice.ensures.value ∙ c.links_at_places.ensures in
    subst (λ (ks : List ℕ). ComesBeside c.args.heap.now c.node.new.self c.node.result (node c.args.head ks)) e
    (joined-node c.hold_places.ensures.rows
    (subst (λ (ks : List ℕ). Builds c.args.heap.now c.hold_places.new.heap [] ks 0 0) (sym e) c.hold_places.ensures.builds)
    c.node.ensures.adds c.node.ensures.makes c.node.ensures.count c.node.ensures.graph c.node.ensures.extends)
