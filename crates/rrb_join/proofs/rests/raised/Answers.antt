use Rattle.std.proofs.Common.{arith, ◌≡◌, ◌+◌, ◌-◌, ◌*◌, ◌≤◌, [], length, drop, ap, ◌∙◌, add-one}
use Rattle.rrb_core.proofs.Stays.{live-stays, links-stay}
use Rattle.node_heap.proofs.Frames.{Extends-trans}
use Rattle.node_heap.proofs.BuildLemmas.{Builds-refl, Builds-then, Builds-more}
use Rattle.rrb_join.proofs.RestLemmas.{IsRaised, raised}
use Rattle.std.proofs.lemmas.List.{drop_all}
use Rattle.node_heap.specs.Heap.{links_at}
use Rattle.rrb_join.proofs.RestRows.{raised-beside, kept-beside}
use Rattle.rrb_join.proofs.rests.raised.Given as given
use Rattle.rrb_join.proofs.rests.raised.Goals as goal
use Rattle.rrb_join.proofs.rests.raised.Goals.{else-len-le-ROW_LINKS-via-then-len-le-ROW_LINKS+else-from-links, else-len-le-ROW_LINKS-via-else-len-le-ROW_LINKS}

pub gathered-requires-clause-skip : goal.gathered-requires-clause-skip
gathered-requires-clause-skip g c = rw (links-stay (live-stays c.requires.graph c.rows_over-rows.ensures.builds.extends) c.args.link c.requires.live) c.requires.from

up : (g : given.Over) (c : goal.After-gathered g) → IsRaised c.args.heap.now c.rows_over-rows.new.heap c.gathered.new.heap c.args.rest.height c.args.link c.args.from c.args.rest.links.items c.rows_over-rows.result.items c.gathered.result.items
up g c =
    raised c.args.heap.now c.rows_over-rows.new.heap c.gathered.new.heap c.args.rest.height c.args.link c.args.from c.args.rest.links.items c.rows_over-rows.result.items c.gathered.result.items
    (live-stays c.requires.graph (Extends-trans c.rows_over-rows.ensures.builds.extends c.gathered.ensures.builds.extends)) (live-stays c.rows_over-rows.ensures.builds.graph c.gathered.ensures.builds.extends) (links-stay (live-stays c.requires.graph c.rows_over-rows.ensures.builds.extends) c.args.link c.requires.live)
    c.requires.beside c.rows_over-rows.ensures.rows (rw c.as_slice.ensures.value at c.rows_over-rows.ensures.items)
    (λ more. c.rows_over-rows.ensures.thick (rw c.as_slice.ensures.value (c.requires.close more).0) (rw c.as_slice.ensures.value (c.requires.close more).1)) c.rows_over-rows.ensures.some c.rows_over-rows.ensures.few c.requires.fits (rw c.as_slice-2.ensures.value at c.gathered.ensures.items)

pub returns-clause-links : goal.returns-clause-links
returns-clause-links g c = rw add-one (up g c).unmade

pub returns-clause-few : goal.returns-clause-few
returns-clause-few g c = λ le. omega (arith, (up g c).size, c.rows_over-rows.ensures.few, le)

pub returns-clause-two : goal.returns-clause-two
returns-clause-two g c = λ _.
    let size = (up g c).size in
    elim c.else-len-le-ROW_LINKS.branch as (λ _. 2 ≤ length c.gathered.result.items) [
      | else-len-le-ROW_LINKS-via-then-len-le-ROW_LINKS+else-from-links w ↦ omega (arith, size, c.rows_over-rows.ensures.some, c.requires.from, ap length w.links.ensures.links, w.if-from-links.false)
      | else-len-le-ROW_LINKS-via-else-len-le-ROW_LINKS w ↦ omega (arith, size, c.rows_over-rows.ensures.two, ap length c.as_slice.ensures.value, c.len.ensures.value, w.if-len-le-ROW_LINKS.false)
    ]

pub returns-clause-count : goal.returns-clause-count
returns-clause-count g c = λ more. omega (arith, (up g c).size, c.rows_over-rows.ensures.some, more)

pub returns-clause-thick : goal.returns-clause-thick
returns-clause-thick g c = λ full enough back. rw add-one ((up g c).thick (c.rows_over-rows.ensures.thick (rw c.as_slice.ensures.value enough) (rw c.as_slice.ensures.value full)) back)

pub returns-clause-builds : goal.returns-clause-builds
returns-clause-builds g c =
    Builds-more 0 (2 * (c.args.rest.height + 1 - c.args.rest.height)) (Builds-then (rw c.as_slice.ensures.value at c.rows_over-rows.ensures.builds) (rw c.as_slice-2.ensures.value at c.gathered.ensures.builds)) (omega arith) (omega arith)

pub returns-then-from-links-clause-builds : goal.returns-then-from-links-clause-builds
returns-then-from-links-clause-builds g c = Builds-refl c.args.heap.now c.args.rest.links.items 0 _ c.requires.graph

pub returns-clause-rows : goal.returns-clause-rows
returns-clause-rows g c =
    let same = links-stay (live-stays c.requires.graph c.rows_over-rows.ensures.builds.extends) c.args.link c.requires.live in
    rw add-one (raised-beside (live-stays c.requires.graph (Extends-trans c.rows_over-rows.ensures.builds.extends c.gathered.ensures.builds.extends)) (live-stays c.rows_over-rows.ensures.builds.graph c.gathered.ensures.builds.extends) c.requires.links c.requires.beside c.rows_over-rows.ensures.rows
    (c.rows_over-rows.ensures.links ∙ c.as_slice.ensures.value) c.rows_over-rows.ensures.halves (rw (c.as_slice-2.ensures.value, same) at c.gathered.ensures.items))

pub returns-then-from-links-clause-rows : goal.returns-then-from-links-clause-rows
returns-then-from-links-clause-rows g c =
    let none : drop c.args.from (links_at c.args.heap.now c.args.link) ≡ [] = drop_all c.args.from (links_at c.args.heap.now c.args.link) (omega (arith, ap length c.links.ensures.links, c.if-from-links.true)) in
    kept-beside c.args.heap.now c.args.rest.height c.args.rest.links.items (drop c.args.from (links_at c.args.heap.now c.args.link)) none
