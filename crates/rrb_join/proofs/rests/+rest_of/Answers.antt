use Rattle.std.proofs.Common.{rules, arith, ◌≡◌, ℕ, ◌+◌, ◌-◌, ◌*◌, ◌<◌, length, refl, ap, ◌∙◌, ◌++◌, drop, length-append}
use Rattle.std.specs.List.{flat_map}
use Rattle.node_heap.specs.Heap.{form_at, links_at}
use Rattle.rrb_core.specs.Seq.{seq_at}
use Rattle.rrb_join.specs.Unmade.{items_below}
use Rattle.rrb_core.proofs.Stays.{well-live, live-stays, links-stay}
use Rattle.rrb_core.proofs.RowLists.{at-place}
use Rattle.node_heap.proofs.Frames.{Extends-trans}
use Rattle.node_heap.proofs.BuildLemmas.{Builds-then, Builds-more}
use Rattle.rrb_join.proofs.UnmadeLemmas.{leaf-length, leaf-are-thick}
use Rattle.rrb_join.proofs.SeamLemmas.{over-at, child-of}
use Rattle.rrb_join.proofs.RestLemmas.{AreBeside, beside, leaf-rest, rest-last, IsNext, is-next}
use Rattle.rrb_join.proofs.RestRows.{none-above, left-last, left-next}
use Rattle.rrb_join.proofs.FewerRows.{fewer-leaf, fewer-last, fewer-next}
use Rattle.rrb_join.proofs.rests.+rest_of.Given as given
use Rattle.rrb_join.proofs.rests.+rest_of.Goals as goal

pub rest_of-rest-requires : goal.rest_of-rest-requires
rest_of-rest-requires g t c = λ κs sub.
    let o = over-at c.args.heap.now c.args.height (c.args.height - 1) c.args.link (omega arith) c.requires.well c.requires.sums in
    let place-is = at-place c.links.result.now (links_at c.args.heap.now c.args.link) c.spot_of-spot.result.place c.index-links-spot.result c.index-links-spot.is c.links.ensures.links c.spot_of-spot.ensures.place in
    let child = child-of c.args.heap.now c.args.height (c.args.height - 1) c.args.link c.spot_of-spot.result.place c.index-links-spot.result (omega arith) o c.spot_of-spot.ensures.place place-is in
    let inside : c.spot_of-spot.result.within < length (seq_at (form_at c.args.heap.now) (c.args.height - 1) c.index-links-spot.result) = rw place-is c.spot_of-spot.ensures.inside in
    (search rules, (search rules, (c.requires.graph, (child.well, (child.sums, (omega (arith, c.requires.low), (omega (arith, inside), (omega (arith, child.short, c.requires.short), (omega (arith, c.requires.spare), omega (arith, c.requires.holds))))))))))

pub returns-then-next-links-clause-links : goal.returns-then-next-links-clause-links
returns-then-next-links-clause-links g t c =
    let o = over-at c.args.heap.now c.args.height (c.args.height - 1) c.args.link (omega arith) c.requires.well c.requires.sums in
    let place-is = at-place c.links.result.now (links_at c.args.heap.now c.args.link) c.spot_of-spot.result.place c.index-links-spot.result c.index-links-spot.is c.links.ensures.links c.spot_of-spot.ensures.place in
    let same : links_at c.rest_of-rest.new.heap c.args.link ≡ links_at c.args.heap.now c.args.link = links-stay (live-stays c.requires.graph c.rest_of-rest.ensures.builds.extends) c.args.link o.live in
    let end : c.spot_of-spot.result.place + 1 ≡ length (links_at c.args.heap.now c.args.link) = c.if-next-links.true ∙ ap length (c.links-2.ensures.links ∙ same) in
    let items : drop c.spot_of-spot.result.within (seq_at (form_at c.args.heap.now) (c.args.height - 1) c.index-links-spot.result) ≡ drop c.args.count (seq_at (form_at c.args.heap.now) c.args.height c.args.link) =
    rw place-is (rest-last c.args.heap.now (c.args.height - 1) c.args.link o c.spot_of-spot.result.place c.spot_of-spot.result.within c.args.count c.spot_of-spot.ensures.place c.spot_of-spot.ensures.before c.spot_of-spot.ensures.inside c.args.height (omega arith) end) in
    rw items at c.rest_of-rest.ensures.links

pub returns-then-next-links-clause-thick : goal.returns-then-next-links-clause-thick
returns-then-next-links-clause-thick g t c = λ thick.
    let o = over-at c.args.heap.now c.args.height (c.args.height - 1) c.args.link (omega arith) c.requires.well c.requires.sums in
    let place-is = at-place c.links.result.now (links_at c.args.heap.now c.args.link) c.spot_of-spot.result.place c.index-links-spot.result c.index-links-spot.is c.links.ensures.links c.spot_of-spot.ensures.place in
    c.rest_of-rest.ensures.thick ((child-of c.args.heap.now c.args.height (c.args.height - 1) c.args.link c.spot_of-spot.result.place c.index-links-spot.result (omega arith) o c.spot_of-spot.ensures.place place-is).thick thick)

pub returns-then-next-links-clause-rows : goal.returns-then-next-links-clause-rows
returns-then-next-links-clause-rows g t c =
    let live = well-live c.args.heap.now c.args.height c.args.link c.requires.well in
    let place-is = at-place c.links.result.now (links_at c.args.heap.now c.args.link) c.spot_of-spot.result.place c.index-links-spot.result c.index-links-spot.is c.links.ensures.links c.spot_of-spot.ensures.place in
    let same : links_at c.rest_of-rest.new.heap c.args.link ≡ links_at c.args.heap.now c.args.link = links-stay (live-stays c.requires.graph c.rest_of-rest.ensures.builds.extends) c.args.link live in
    left-last c.args.heap.now c.rest_of-rest.new.heap c.args.height (c.args.height - 1) c.args.link c.spot_of-spot.result.place c.index-links-spot.result c.rest_of-rest.result.height c.rest_of-rest.result.links.items (omega arith) c.rest_of-rest.ensures.low (c.if-next-links.true ∙ ap length (c.links-2.ensures.links ∙ same)) place-is c.rest_of-rest.ensures.rows

pub bounds-links-next : goal.bounds-links-next
bounds-links-next g t c =
    let same = links-stay (live-stays c.requires.graph c.rest_of-rest.ensures.builds.extends) c.args.link (well-live c.args.heap.now c.args.height c.args.link c.requires.well) in
    omega (arith, ap length c.links-3.ensures.links, ap length c.links-2.ensures.links, ap length same, c.spot_of-spot.ensures.place, c.if-next-links.false)

-- the next child, which stays as it is where the rest of the child before it is made
next : (g : given.Over) (t : ℕ) (c : goal.After-as_slice g t) → IsNext c.args.heap.now c.rest_of-rest.new.heap c.args.height (c.args.height - 1) c.args.link c.spot_of-spot.result.place c.spot_of-spot.result.within c.args.count c.index-links-spot.result c.index-links-next.result
next g t c =
    let o = over-at c.args.heap.now c.args.height (c.args.height - 1) c.args.link (omega arith) c.requires.well c.requires.sums in
    let s = live-stays c.requires.graph c.rest_of-rest.ensures.builds.extends in
    let more : c.spot_of-spot.result.place + 1 < length (links_at c.args.heap.now c.args.link) = omega (arith, ap length c.links-2.ensures.links, ap length (links-stay s c.args.link o.live), c.spot_of-spot.ensures.place, c.if-next-links.false) in
    let place-is = at-place c.links.result.now (links_at c.args.heap.now c.args.link) c.spot_of-spot.result.place c.index-links-spot.result c.index-links-spot.is c.links.ensures.links c.spot_of-spot.ensures.place in
    is-next c.args.heap.now c.rest_of-rest.new.heap c.args.height (c.args.height - 1) c.args.link c.spot_of-spot.result.place c.spot_of-spot.result.within c.args.count c.index-links-spot.result c.index-links-next.result c.links-3.result.now (omega arith) s o c.spot_of-spot.ensures.place c.spot_of-spot.ensures.before c.spot_of-spot.ensures.inside place-is more c.links-3.ensures.links c.index-links-next.is

pub prepend-merged-requires-clause-thick : goal.prepend-merged-requires-clause-thick
prepend-merged-requires-clause-thick g t c = rw c.as_slice.ensures.value (c.rest_of-rest.ensures.thick (next g t c).child_thick)

pub prepend-merged-requires-clause-right : goal.prepend-merged-requires-clause-right
prepend-merged-requires-clause-right g t c = (next g t c).row

pub prepend-merged-requires-clause-short : goal.prepend-merged-requires-clause-short
prepend-merged-requires-clause-short g t c = rw (c.as_slice.ensures.value, c.rest_of-rest.ensures.links.items, (next g t c).same) (omega (arith, (next g t c).short, c.requires.short))

others : (g : given.Over) (t : ℕ) (c : goal.After-raised-arg-1 g t) → AreBeside c.args.heap.now c.prepend-merged.new.heap (c.args.height - 1) c.prepend-merged.result.height c.args.link (c.spot_of-spot.result.place + 1 + 1)
others g t c =
    beside c.args.heap.now c.prepend-merged.new.heap (c.args.height - 1) c.prepend-merged.result.height c.args.link (c.spot_of-spot.result.place + 1 + 1) (live-stays c.requires.graph (Extends-trans c.rest_of-rest.ensures.builds.extends c.prepend-merged.ensures.builds.extends))
    (over-at c.args.heap.now c.args.height (c.args.height - 1) c.args.link (omega arith) c.requires.well c.requires.sums) (λ more. (c.prepend-merged.ensures.thick ((next g t c.before.before).close more)).0)

pub raised-requires-clause-from : goal.raised-requires-clause-from
raised-requires-clause-from g t c = rw (others g t c).same (omega (arith, (next g t c.before.before).more))

pub raised-requires-clause-beside : goal.raised-requires-clause-beside
raised-requires-clause-beside g t c = (others g t c).rows

pub raised-requires-clause-close : goal.raised-requires-clause-close
raised-requires-clause-close g t c = λ more.
    let there : c.spot_of-spot.result.place + 1 + 1 < length (links_at c.args.heap.now c.args.link) = rw (others g t c).same at more in
    let merged = c.prepend-merged.ensures.thick ((next g t c.before.before).close there) in
    (merged.1, merged.2)

pub raised-requires-clause-short : goal.raised-requires-clause-short
raised-requires-clause-short g t c =
    let n = next g t c.before.before in
    rw (c.prepend-merged.ensures.links.items, c.as_slice.ensures.value, c.rest_of-rest.ensures.links.items, n.same)
    (omega (arith, length-append (drop c.spot_of-spot.result.within (seq_at (form_at c.args.heap.now) (c.args.height - 1) c.index-links-spot.result)) (seq_at (form_at c.args.heap.now) (c.args.height - 1) c.index-links-next.result), n.short, c.requires.short))

pub returns-clause-links : goal.returns-clause-links
returns-clause-links g t c =
    let n = next g t c.before.before.before in
    let items : items_below c.prepend-merged.new.heap c.prepend-merged.result.height c.prepend-merged.result.links.items ++ flat_map (seq_at (form_at c.prepend-merged.new.heap) c.prepend-merged.result.height) (drop (c.spot_of-spot.result.place + 1 + 1) (links_at c.prepend-merged.new.heap c.args.link)) ≡ drop c.args.count (seq_at (form_at c.args.heap.now) c.args.height c.args.link) =
    rw (c.prepend-merged.ensures.links.items, c.as_slice.ensures.value, c.rest_of-rest.ensures.links.items, n.same, (others g t c.before).items) n.items in
    rw items at c.raised.ensures.links

pub returns-clause-thick : goal.returns-clause-thick
returns-clause-thick g t c = λ thick.
    let n = (next g t c.before.before.before).thick thick in
    let merged = c.prepend-merged.ensures.thick n.0 in
    c.raised.ensures.thick merged.2 merged.1 ((others g t c.before).thick n.1)

pub returns-clause-rows : goal.returns-clause-rows
returns-clause-rows g t c =
    let n = next g t c.before.before.before in
    let place-is = at-place c.links.result.now (links_at c.args.heap.now c.args.link) c.spot_of-spot.result.place c.index-links-spot.result c.index-links-spot.is c.links.ensures.links c.spot_of-spot.ensures.place in
    left-next c.args.heap.now c.args.height (c.args.height - 1) c.args.link c.spot_of-spot.result.place c.index-links-spot.result (omega arith) (live-stays c.rest_of-rest.ensures.builds.graph (Extends-trans c.prepend-merged.ensures.builds.extends c.raised.ensures.builds.extends)) (live-stays c.prepend-merged.ensures.builds.graph c.raised.ensures.builds.extends) c.rest_of-rest.ensures.links.links c.prepend-merged.ensures.links.links
    n.more place-is n.place c.prepend-merged.ensures.above c.prepend-merged.ensures.low c.raised.ensures.low n.levels (others g t c.before).levels c.rest_of-rest.ensures.rows (rw c.as_slice.ensures.value at c.prepend-merged.ensures.rows) c.raised.ensures.rows

pub returns-clause-builds : goal.returns-clause-builds
returns-clause-builds g t c =
    Builds-more 0 (2 * c.raised.result.height) (Builds-then (Builds-then c.rest_of-rest.ensures.builds (rw c.as_slice.ensures.value at c.prepend-merged.ensures.builds)) c.raised.ensures.builds) (omega arith) (omega (arith, c.prepend-merged.ensures.above, c.raised.ensures.above))

pub gathered-requires-clause-left : goal.gathered-requires-clause-left
gathered-requires-clause-left g t c = well-live c.args.heap.now c.args.height c.args.link c.requires.well

pub gathered-requires-clause-right : goal.gathered-requires-clause-right
gathered-requires-clause-right g t c = well-live c.args.heap.now c.args.height c.args.link c.requires.well

pub gathered-requires-clause-skip : goal.gathered-requires-clause-skip
gathered-requires-clause-skip g t c = omega (arith, leaf-length c.args.heap.now c.args.height c.args.link (omega arith) c.requires.well c.requires.sums, c.requires.inside)

pub returns-then-height-eq0-clause-links : goal.returns-then-height-eq0-clause-links
returns-then-height-eq0-clause-links g t c = (leaf-rest c.args.heap.now c.gathered.new.heap c.args.height c.args.link c.args.count c.gathered.result.items (omega arith) c.requires.well c.requires.sums c.requires.inside c.gathered.ensures.items).0

pub returns-then-height-eq0-clause-thick : goal.returns-then-height-eq0-clause-thick
returns-then-height-eq0-clause-thick g t c = λ thick. leaf-are-thick c.gathered.new.heap 0 c.gathered.result.items refl

pub returns-then-height-eq0-clause-rows : goal.returns-then-height-eq0-clause-rows
returns-then-height-eq0-clause-rows g t c = λ m. none-above c.args.heap.now c.gathered.new.heap c.args.height c.args.link 0 m c.gathered.result.items (omega arith)

pub returns-then-height-eq0-clause-within : goal.returns-then-height-eq0-clause-within
returns-then-height-eq0-clause-within g t c = fewer-leaf c.args.heap.now c.gathered.new.heap c.args.height c.args.link c.args.count c.gathered.result.items

pub returns-then-next-links-clause-within : goal.returns-then-next-links-clause-within
returns-then-next-links-clause-within g t c =
    let place-is = at-place c.links.result.now (links_at c.args.heap.now c.args.link) c.spot_of-spot.result.place c.index-links-spot.result c.index-links-spot.is c.links.ensures.links c.spot_of-spot.ensures.place in
    fewer-last c.args.heap.now c.args.height (c.args.height - 1) c.args.link c.spot_of-spot.result.place c.index-links-spot.result c.args.count c.spot_of-spot.result.within (omega arith) c.spot_of-spot.ensures.place place-is c.spot_of-spot.ensures.before (rw place-is c.spot_of-spot.ensures.inside) c.rest_of-rest.new.heap c.rest_of-rest.result.height c.rest_of-rest.result.links.items c.rest_of-rest.ensures.low c.rest_of-rest.ensures.within

pub returns-clause-within : goal.returns-clause-within
returns-clause-within g t c =
    let n = next g t c.before.before.before in
    let place-is = at-place c.links.result.now (links_at c.args.heap.now c.args.link) c.spot_of-spot.result.place c.index-links-spot.result c.index-links-spot.is c.links.ensures.links c.spot_of-spot.ensures.place in
    fewer-next c.args.heap.now c.args.height (c.args.height - 1) c.args.link c.spot_of-spot.result.place c.index-links-spot.result c.args.count c.spot_of-spot.result.within (omega arith) c.spot_of-spot.ensures.place place-is c.spot_of-spot.ensures.before (rw place-is c.spot_of-spot.ensures.inside)
    n.more n.place n.well c.prepend-merged.ensures.low c.raised.ensures.low n.levels (others g t c.before).levels c.rest_of-rest.ensures.within (rw c.as_slice.ensures.value at c.prepend-merged.ensures.rows) c.raised.ensures.rows
