use Rattle.std.proofs.Common.{rules, arith, ◌≡◌, ℕ, suc, ◌-◌, ◌*◌, ◌≤◌, length, get_or, ap, ◌∙◌, ◌∷◌, ◌++◌, take, drop}
use Rattle.node_heap.specs.Heap.{form_at, links_at}
use Rattle.node_heap.specs.Calls.{Extends}
use Rattle.rrb_core.specs.Seq.{seq_at}
use Rattle.rrb_join.specs.Unmade.{items_below}
use Rattle.rrb_core.proofs.Stays.{well-live, live-stays, links-stay}
use Rattle.rrb_core.proofs.RowLists.{at-place}
use Rattle.node_heap.proofs.Frames.{Extends-trans}
use Rattle.node_heap.proofs.BuildLemmas.{Builds-then, Builds-more}
use Rattle.rrb_core.proofs.BuildLemmas.{builds-held}
use Rattle.rrb_join.proofs.UnmadeLemmas.{has-links, leaf-length, unmade-rows}
use Rattle.rrb_join.proofs.RowsOfHeights.{halves-at-need}
use Rattle.rrb_join.proofs.SeamLemmas.{over-at, child-of}
use Rattle.rrb_join.proofs.SeamRows.{puts-up}
use Rattle.rrb_join.proofs.InsertLemmas.{IsInserted, inserted, leaf-inserted, inserted-length}
use Rattle.rrb_join.proofs.inserting.+insert_links.Given as given
use Rattle.rrb_join.proofs.inserting.+insert_links.Goals as goal

pub insert_links-seam-requires : goal.insert_links-seam-requires
insert_links-seam-requires g t c = λ κs sub.
    let o = over-at c.args.heap.now c.args.height (c.args.height - 1) c.args.link (omega arith) c.requires.well c.requires.sums in
    let place-is = at-place c.links.result.now (links_at c.args.heap.now c.args.link) c.spot_before-spot.result.place c.index-links-spot.result c.index-links-spot.is c.links.ensures.links c.spot_before-spot.ensures.place in
    let child = child-of c.args.heap.now c.args.height (c.args.height - 1) c.args.link c.spot_before-spot.result.place c.index-links-spot.result (omega arith) o c.spot_before-spot.ensures.place place-is in
    (search rules, (search rules, (c.requires.graph, (child.well, (child.sums, (omega (arith, c.requires.low), (rw place-is c.spot_before-spot.ensures.inside, (omega (arith, child.short, c.requires.short), (c.requires.held, (omega (arith, c.requires.spare), omega (arith, c.requires.holds)))))))))))

pub rows_over-rows-requires-clause-rows : goal.rows_over-rows-requires-clause-rows
rows_over-rows-requires-clause-rows g t c =
    let o = over-at c.args.heap.now c.args.height (c.args.height - 1) c.args.link (omega arith) c.requires.well c.requires.sums in
    let place-is = at-place c.links.result.now (links_at c.args.heap.now c.args.link) c.spot_before-spot.result.place c.index-links-spot.result c.index-links-spot.is c.links.ensures.links c.spot_before-spot.ensures.place in
    let child = child-of c.args.heap.now c.args.height (c.args.height - 1) c.args.link c.spot_before-spot.result.place c.index-links-spot.result (omega arith) o c.spot_before-spot.ensures.place place-is in
    let inside : c.spot_before-spot.result.within ≤ length (seq_at (form_at c.args.heap.now) (c.args.height - 1) c.index-links-spot.result) = rw place-is c.spot_before-spot.ensures.inside in
    let made = c.insert_links-seam.ensures in
    let short = inserted-length (seq_at (form_at c.args.heap.now) (c.args.height - 1) c.index-links-spot.result) c.spot_before-spot.result.within c.args.element inside in
    rw c.as_slice.ensures.value (unmade-rows made.links made.builds.graph (omega (arith, c.requires.low)) (omega (arith, short, child.short, c.requires.short)) (builds-held c.args.element c.requires.held made.builds) (omega (arith, made.builds.total, made.links.most, c.requires.holds)))

pub gathered-requires-2-clause-left : goal.gathered-requires-2-clause-left
gathered-requires-2-clause-left g t c = (Extends-trans c.insert_links-seam.ensures.builds.extends c.rows_over-rows.ensures.builds.extends).live c.args.link (well-live c.args.heap.now c.args.height c.args.link c.requires.well)

pub gathered-requires-2-clause-right : goal.gathered-requires-2-clause-right
gathered-requires-2-clause-right g t c = (Extends-trans c.insert_links-seam.ensures.builds.extends c.rows_over-rows.ensures.builds.extends).live c.args.link (well-live c.args.heap.now c.args.height c.args.link c.requires.well)

pub gathered-requires-2-clause-keep : goal.gathered-requires-2-clause-keep
gathered-requires-2-clause-keep g t c =
    let same = links-stay (live-stays c.requires.graph (Extends-trans c.insert_links-seam.ensures.builds.extends c.rows_over-rows.ensures.builds.extends)) c.args.link (well-live c.args.heap.now c.args.height c.args.link c.requires.well) in
    omega (arith, ap length same, c.spot_before-spot.ensures.place)

pub gathered-requires-2-clause-skip : goal.gathered-requires-2-clause-skip
gathered-requires-2-clause-skip g t c =
    let same = links-stay (live-stays c.requires.graph (Extends-trans c.insert_links-seam.ensures.builds.extends c.rows_over-rows.ensures.builds.extends)) c.args.link (well-live c.args.heap.now c.args.height c.args.link c.requires.well) in
    omega (arith, ap length same, c.spot_before-spot.ensures.place)

placed : (g : given.Over) (t : ℕ) (c : goal.After-gathered-2 g t) → IsInserted c.args.heap.now c.gathered-2.new.heap c.args.height c.args.link c.args.index c.args.element c.gathered-2.result.items
placed g t c =
    let ext : Extends c.args.heap.now c.rows_over-rows.new.heap = Extends-trans c.insert_links-seam.ensures.builds.extends c.rows_over-rows.ensures.builds.extends in
    let place-is = at-place c.links.result.now (links_at c.args.heap.now c.args.link) c.spot_before-spot.result.place c.index-links-spot.result c.index-links-spot.is c.links.ensures.links c.spot_before-spot.ensures.place in
    let items : items_below c.insert_links-seam.new.heap (c.args.height - 1) c.insert_links-seam.result.items ≡ take c.spot_before-spot.result.within (seq_at (form_at c.args.heap.now) (c.args.height - 1) (get_or (links_at c.args.heap.now c.args.link) c.spot_before-spot.result.place 0)) ++ c.args.element ∷ drop c.spot_before-spot.result.within (seq_at (form_at c.args.heap.now) (c.args.height - 1) (get_or (links_at c.args.heap.now c.args.link) c.spot_before-spot.result.place 0)) =
    rw (← place-is) c.insert_links-seam.ensures.links.items in
    inserted c.args.heap.now c.rows_over-rows.new.heap c.gathered-2.new.heap c.args.height (c.args.height - 1) c.args.link c.spot_before-spot.result.place c.spot_before-spot.result.within c.args.index c.args.element c.rows_over-rows.result.items c.gathered-2.result.items (omega arith)
    (live-stays c.requires.graph (Extends-trans ext c.gathered-2.ensures.builds.extends)) (live-stays c.rows_over-rows.ensures.builds.graph c.gathered-2.ensures.builds.extends) (links-stay (live-stays c.requires.graph ext) c.args.link (well-live c.args.heap.now c.args.height c.args.link c.requires.well))
    (over-at c.args.heap.now c.args.height (c.args.height - 1) c.args.link (omega arith) c.requires.well c.requires.sums) c.spot_before-spot.ensures.place c.spot_before-spot.ensures.before c.spot_before-spot.ensures.inside c.rows_over-rows.ensures.rows (rw c.as_slice.ensures.value at c.rows_over-rows.ensures.items ∙ items)
    (λ thick. let both = c.insert_links-seam.ensures.thick (rw place-is thick) in c.rows_over-rows.ensures.thick (rw c.as_slice.ensures.value both.0) (rw c.as_slice.ensures.value both.1)) c.rows_over-rows.ensures.some c.rows_over-rows.ensures.few (rw c.as_slice-2.ensures.value at c.gathered-2.ensures.items)

pub returns-clause-links : goal.returns-clause-links
returns-clause-links g t c = (placed g t c).unmade

pub returns-clause-thick : goal.returns-clause-thick
returns-clause-thick g t c = λ thick. (placed g t c).thick thick

pub returns-clause-wide : goal.returns-clause-wide
returns-clause-wide g t c = (placed g t c).wide

pub returns-clause-few : goal.returns-clause-few
returns-clause-few g t c = (placed g t c).few

pub returns-clause-builds : goal.returns-clause-builds
returns-clause-builds g t c =
    Builds-more 0 (2 * c.args.height) (Builds-then (Builds-then c.insert_links-seam.ensures.builds (rw c.as_slice.ensures.value at c.rows_over-rows.ensures.builds)) (rw c.as_slice-2.ensures.value at c.gathered-2.ensures.builds)) (omega arith) (omega arith)

pub gathered-requires-clause-left : goal.gathered-requires-clause-left
gathered-requires-clause-left g t c = well-live c.args.heap.now c.args.height c.args.link c.requires.well

pub gathered-requires-clause-right : goal.gathered-requires-clause-right
gathered-requires-clause-right g t c = well-live c.args.heap.now c.args.height c.args.link c.requires.well

pub gathered-requires-clause-keep : goal.gathered-requires-clause-keep
gathered-requires-clause-keep g t c = omega (arith, leaf-length c.args.heap.now c.args.height c.args.link (omega arith) c.requires.well c.requires.sums, c.requires.inside)

pub gathered-requires-clause-skip : goal.gathered-requires-clause-skip
gathered-requires-clause-skip g t c = omega (arith, leaf-length c.args.heap.now c.args.height c.args.link (omega arith) c.requires.well c.requires.sums, c.requires.inside)

pub gathered-requires-clause-few : goal.gathered-requires-clause-few
gathered-requires-clause-few g t c =
    omega (arith, leaf-length c.args.heap.now c.args.height c.args.link (omega arith) c.requires.well c.requires.sums, c.requires.inside, (has-links c.args.heap.now c.args.height c.args.link c.requires.well c.requires.sums).most)

leaf : (g : given.Over) (t : ℕ) (c : goal.After-gathered g t) → IsInserted c.args.heap.now c.gathered.new.heap c.args.height c.args.link c.args.index c.args.element c.gathered.result.items
leaf g t c = leaf-inserted c.args.heap.now c.gathered.new.heap c.args.height c.args.link c.args.index c.args.element c.gathered.result.items (omega arith) c.requires.well c.requires.sums c.requires.inside c.gathered.ensures.items

pub returns-then-height-eq0-clause-links : goal.returns-then-height-eq0-clause-links
returns-then-height-eq0-clause-links g t c = (leaf g t c).unmade

pub returns-then-height-eq0-clause-thick : goal.returns-then-height-eq0-clause-thick
returns-then-height-eq0-clause-thick g t c = λ thick. (leaf g t c).thick thick

pub returns-then-height-eq0-clause-wide : goal.returns-then-height-eq0-clause-wide
returns-then-height-eq0-clause-wide g t c = (leaf g t c).wide

pub returns-then-height-eq0-clause-few : goal.returns-then-height-eq0-clause-few
returns-then-height-eq0-clause-few g t c = (leaf g t c).few

pub returns-then-height-eq0-clause-seam : goal.returns-then-height-eq0-clause-seam
returns-then-height-eq0-clause-seam g t c = λ p low. absurd (omega arith)

pub returns-clause-seam : goal.returns-clause-seam
returns-clause-seam g t c =
    let up : c.args.height ≡ suc (c.args.height - 1) = omega arith in
    let ext : Extends c.args.heap.now c.rows_over-rows.new.heap = Extends-trans c.insert_links-seam.ensures.builds.extends c.rows_over-rows.ensures.builds.extends in
    let place-is = at-place c.links.result.now (links_at c.args.heap.now c.args.link) c.spot_before-spot.result.place c.index-links-spot.result c.index-links-spot.is c.links.ensures.links c.spot_before-spot.ensures.place in
    puts-up up (live-stays c.requires.graph (Extends-trans ext c.gathered-2.ensures.builds.extends)) (live-stays c.insert_links-seam.ensures.builds.graph (Extends-trans c.rows_over-rows.ensures.builds.extends c.gathered-2.ensures.builds.extends)) (live-stays c.rows_over-rows.ensures.builds.graph c.gathered-2.ensures.builds.extends)
    (over-at c.args.heap.now c.args.height (c.args.height - 1) c.args.link up c.requires.well c.requires.sums) c.spot_before-spot.ensures.place place-is c.insert_links-seam.ensures.links.links c.rows_over-rows.ensures.rows (c.rows_over-rows.ensures.links ∙ c.as_slice.ensures.value) (halves-at-need c.rows_over-rows.new.heap c.rows_over-rows.result.items c.rows_over-rows.ensures.halves) c.insert_links-seam.ensures.seam (rw c.as_slice-2.ensures.value at c.gathered-2.ensures.items) (links-stay (live-stays c.requires.graph ext) c.args.link (well-live c.args.heap.now c.args.height c.args.link c.requires.well))
