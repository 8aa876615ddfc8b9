use Rattle.std.proofs.Common.{rules, arith, ◌≡◌, ℕ, ◌-◌, ◌*◌, ◌<◌, suc, length, ap, drop, length-append}
use Rattle.std.specs.List.{flat_map}
use Rattle.node_heap.specs.Heap.{form_at, links_at}
use Rattle.rrb_core.specs.Seq.{seq_at, IsWell}
use Rattle.rrb_core.specs.Vector.{HasSums}
use Rattle.rrb_join.specs.Unmade.{items_below, BeginsWith}
use Rattle.rrb_core.proofs.Stays.{live-stays}
use Rattle.rrb_core.proofs.RowLists.{over, at-place}
use Rattle.node_heap.proofs.BuildLemmas.{Builds-then, Builds-more}
use Rattle.rrb_join.proofs.SeamLemmas.{first-edge}
use Rattle.rrb_join.proofs.RestLemmas.{IsMerged, merged, AreBeside, beside, joined-items}
use Rattle.rrb_join.proofs.RestRows.{raised-before}
use Rattle.rrb_join.proofs.rests.+prepend.Given as given
use Rattle.rrb_join.proofs.rests.+prepend.Goals as goal

same : (g : given.Over) (t : ℕ) (c : goal.After-gathered g t) → IsMerged c.args.heap.now c.gathered.new.heap c.args.height c.args.links_height c.args.right c.args.links.now c.gathered.result.items
same g t c =
    merged c.args.heap.now c.gathered.new.heap c.args.height c.args.links_height c.args.right c.args.links.now c.gathered.result.items (live-stays c.requires.graph c.gathered.ensures.builds.extends) c.if-links_height-height.true c.requires.links c.requires.thick c.requires.few c.requires.right c.gathered.ensures.items

pub returns-then-links_height-height-clause-links : goal.returns-then-links_height-height-clause-links
returns-then-links_height-height-clause-links g t c = (same g t c).unmade

pub returns-then-links_height-height-clause-thick : goal.returns-then-links_height-height-clause-thick
returns-then-links_height-height-clause-thick g t c = λ thick. (c.if-links_height-height.true, ((same g t c).thick thick).0, ((same g t c).thick thick).1)

pub returns-then-links_height-height-clause-rows : goal.returns-then-links_height-height-clause-rows
returns-then-links_height-height-clause-rows g t c = (same g t c).rows

pub prepend-merged-requires : goal.prepend-merged-requires
prepend-merged-requires g t c = λ κs sub.
    let first : BeginsWith c.args.heap.now (c.args.height - 1) c.args.height c.args.right 1 (c.args.height - 1) c.index-links-0.result =
    first-edge c.args.heap.now (c.args.height - 1) c.args.height c.args.right c.index-links-0.result c.requires.right (omega arith) (at-place c.links.result.now (links_at c.args.heap.now c.args.right) 0 c.index-links-0.result c.index-links-0.is c.links.ensures.links (omega (arith, c.requires.right.some))) in
    let size = length-append (seq_at (form_at c.args.heap.now) (c.args.height - 1) c.index-links-0.result) (flat_map (seq_at (form_at c.args.heap.now) (c.args.height - 1)) (drop 1 (links_at c.args.heap.now c.args.right))) in
    (search rules, (search rules, (c.requires.graph, (c.requires.links, (c.requires.thick, (c.requires.some, (c.requires.few, (c.requires.two, (first.row, (omega (arith, c.requires.order), (omega (arith, c.requires.low), (omega (arith, ap length first.items, size, c.requires.short), (c.requires.held, (omega (arith, c.requires.spare), omega (arith, c.requires.holds)))))))))))))))

-- what stands first in the row to the right
begins : (g : given.Over) (t : ℕ) (c : goal.After-raised-arg-1 g t) → BeginsWith c.args.heap.now (c.args.height - 1) c.args.height c.args.right 1 (c.args.height - 1) c.index-links-0.result
begins g t c = first-edge c.args.heap.now (c.args.height - 1) c.args.height c.args.right c.index-links-0.result c.requires.right (omega arith) (at-place c.links.result.now (links_at c.args.heap.now c.args.right) 0 c.index-links-0.result c.index-links-0.is c.links.ensures.links (omega (arith, c.requires.right.some)))

others : (g : given.Over) (t : ℕ) (c : goal.After-raised-arg-1 g t) → AreBeside c.args.heap.now c.prepend-merged.new.heap (c.args.height - 1) c.prepend-merged.result.height c.args.right 1
others g t c =
    let down : suc (c.args.height - 1) ≡ c.args.height = omega arith in
    let well : IsWell (form_at c.args.heap.now) (suc (c.args.height - 1)) c.args.right = rw down c.requires.right.well in
    let sums : HasSums c.args.heap.now (suc (c.args.height - 1)) c.args.right = rw down c.requires.right.sums in
    beside c.args.heap.now c.prepend-merged.new.heap (c.args.height - 1) c.prepend-merged.result.height c.args.right 1 (live-stays c.requires.graph c.prepend-merged.ensures.builds.extends) (over c.args.heap.now (c.args.height - 1) c.args.right well sums)
    (λ more. (c.prepend-merged.ensures.thick ((begins g t c).close more).1).0)

pub raised-requires-clause-from : goal.raised-requires-clause-from
raised-requires-clause-from g t c = rw (others g t c).same (omega (arith, c.requires.right.some))

pub raised-requires-clause-beside : goal.raised-requires-clause-beside
raised-requires-clause-beside g t c = (others g t c).rows

pub raised-requires-clause-close : goal.raised-requires-clause-close
raised-requires-clause-close g t c = λ more.
    let there : 1 < length (links_at c.args.heap.now c.args.right) = rw (others g t c).same at more in
    let merged = c.prepend-merged.ensures.thick ((begins g t c).close there).1 in
    (merged.1, merged.2)

pub raised-requires-clause-short : goal.raised-requires-clause-short
raised-requires-clause-short g t c =
    let first = begins g t c in
    let size = length-append (seq_at (form_at c.args.heap.now) (c.args.height - 1) c.index-links-0.result) (flat_map (seq_at (form_at c.args.heap.now) (c.args.height - 1)) (drop 1 (links_at c.args.heap.now c.args.right))) in
    rw c.prepend-merged.ensures.links.items (omega (arith, length-append (items_below c.args.heap.now c.args.links_height c.args.links.now) (seq_at (form_at c.args.heap.now) (c.args.height - 1) c.index-links-0.result), ap length first.items, size, c.requires.short))

pub returns-clause-links : goal.returns-clause-links
returns-clause-links g t c =
    let items = joined-items (items_below c.prepend-merged.new.heap c.prepend-merged.result.height c.prepend-merged.result.links.items) (items_below c.args.heap.now c.args.links_height c.args.links.now) (seq_at (form_at c.args.heap.now) (c.args.height - 1) c.index-links-0.result) _ _ (seq_at (form_at c.args.heap.now) c.args.height c.args.right)
    c.prepend-merged.ensures.links.items (others g t c.before).items (begins g t c.before).items in
    rw items at c.raised.ensures.links

pub returns-clause-thick : goal.returns-clause-thick
returns-clause-thick g t c = λ thick.
    let first = (begins g t c.before).thick (omega arith) thick in
    let merged = c.prepend-merged.ensures.thick first.1 in
    let more : 1 < length (links_at c.prepend-merged.new.heap c.args.right) = rw (others g t c.before).same (omega (arith, first.3)) in
    let same = ap length (others g t c.before).same in
    (omega (arith, c.raised.ensures.more more, merged.0), omega (arith, c.raised.ensures.count more, same, first.3), c.raised.ensures.thick merged.2 merged.1 ((others g t c.before).thick first.2))

pub returns-clause-rows : goal.returns-clause-rows
returns-clause-rows g t c =
    let first-at = at-place c.links.result.now (links_at c.args.heap.now c.args.right) 0 c.index-links-0.result c.index-links-0.is c.links.ensures.links (omega (arith, c.requires.right.some)) in
    raised-before (omega arith) (live-stays c.prepend-merged.ensures.builds.graph c.raised.ensures.builds.extends) c.prepend-merged.ensures.links.links c.requires.right.some first-at (begins g t c.before).row.well
    c.prepend-merged.ensures.above c.prepend-merged.ensures.low c.raised.ensures.low (others g t c.before).levels c.prepend-merged.ensures.rows c.raised.ensures.rows

pub returns-clause-builds : goal.returns-clause-builds
returns-clause-builds g t c = Builds-more 0 (2 * (c.raised.result.height - c.args.links_height)) (Builds-then c.prepend-merged.ensures.builds c.raised.ensures.builds) (omega arith) (omega (arith, c.prepend-merged.ensures.above, c.raised.ensures.above))
