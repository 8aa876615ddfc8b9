use Rattle.std.proofs.Common.{arith, ◌≡◌, length, ap, [], ◌++◌}
use Rattle.node_heap.specs.Heap.{links_at}
use Rattle.node_heap.specs.Calls.{Builds}
use Rattle.node_heap.proofs.BuildLemmas.{Builds-then}
use Rattle.rrb_core.proofs.Lists.{gathered-items, front-items}
use Rattle.rrb_core.proofs.Stays.{live-stays, links-stay}
use Rattle.rrb_core.proofs.BuildLemmas.{builds-before, on-ok}
use Rattle.rrb_core.proofs.rows.gathered.Given.{Over}
use Rattle.rrb_core.proofs.rows.gathered.Goals as goal

-- the middle was appended, since there was room
middle : (g : Over) (c : goal.After-hold_links-2 g) → c.try_extend_from_slice.new.self.items ≡ c.hold_links.new.all.items ++ c.args.middle.now
middle g c =
    let size = front-items (links_at c.args.heap.now c.args.left) c.new-all.result.items c.hold_links.new.all.items c.args.keep c.new-all.ensures c.hold_links.ensures.items c.requires.keep in
    on-ok c.try_extend_from_slice.result (c.try_extend_from_slice.ensures.variant.1 (omega (arith, size, c.requires.few))) c.try_extend_from_slice.ensures.ok

pub hold_links-requires-2-clause-within : goal.hold_links-requires-2-clause-within
hold_links-requires-2-clause-within g c =
    rw (links-stay (live-stays c.requires.graph c.hold_links.ensures.builds.extends) c.args.right c.requires.right) (omega (arith, ap length c.links-end.ensures.links))

pub returns-clause-items : goal.returns-clause-items
returns-clause-items g c =
    let same = links-stay (live-stays c.requires.graph c.hold_links.ensures.builds.extends) c.args.right c.requires.right in
    gathered-items (links_at c.args.heap.now c.args.left) (links_at c.args.heap.now c.args.right) (links_at c.hold_links.new.heap c.args.right) c.new-all.result.items c.hold_links.new.all.items c.try_extend_from_slice.new.self.items c.hold_links-2.new.all.items c.args.middle.now c.args.keep c.args.skip (length c.links-end.result.now)
    c.new-all.ensures c.hold_links.ensures.items (middle g c) c.hold_links-2.ensures.items same (ap length c.links-end.ensures.links)

pub returns-clause-builds : goal.returns-clause-builds
returns-clause-builds g c =
    let first : Builds c.args.heap.now c.hold_links.new.heap [] c.hold_links.new.all.items 0 0 = rw c.new-all.ensures at c.hold_links.ensures.builds in
    Builds-then (builds-before c.args.middle.now first) (rw (middle g c) at c.hold_links-2.ensures.builds)
