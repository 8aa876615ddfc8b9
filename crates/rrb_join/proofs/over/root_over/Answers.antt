use Rattle.std.proofs.Common.{arith, ◌≡◌, ◌<◌, length, ap, ◌∙◌, inl, inr}
use Rattle.std.proofs.lemmas.Bool.{cases_lt}
use Rattle.node_heap.specs.Heap.{links_at, hold_count, most_holds}
use Rattle.node_heap.proofs.BuildLemmas.{Builds-then}
use Rattle.rrb_core.specs.Vector.{height_at}
use Rattle.rrb_core.specs.Levels.{rows_of}
use Rattle.rrb_core.proofs.Stays.{live-stays}
use Rattle.rrb_core.proofs.RowLists.{rows-live}
use Rattle.rrb_core.proofs.LevelLemmas.{rows-few}
use Rattle.rrb_join.specs.Seam.{rows_under, AreAtNeed}
use Rattle.rrb_join.proofs.UnmadeLemmas.{links-live}
use Rattle.rrb_join.proofs.RowsOfHeights.{rows-own-all, below-rows, below-kept, need-kept, one-at-need, one-of-need, halves-at-need}
use Rattle.rrb_join.proofs.over.root_over.Given as given
use Rattle.rrb_join.proofs.over.root_over.Goals as goal

need : (g : given.Over) (c : goal.After-as_slice g) → AreAtNeed c.rows_over-rows.new.heap 2 c.rows_over-rows.result.items
need g c = halves-at-need c.rows_over-rows.new.heap c.rows_over-rows.result.items c.rows_over-rows.ensures.halves

pub root_of-requires-clause-rows : goal.root_of-requires-clause-rows
root_of-requires-clause-rows g c = rw c.as_slice.ensures.value c.rows_over-rows.ensures.rows

pub root_of-requires-clause-need : goal.root_of-requires-clause-need
root_of-requires-clause-need g c = rw c.as_slice.ensures.value (need g c)

pub root_of-requires-clause-wide : goal.root_of-requires-clause-wide
root_of-requires-clause-wide g c = λ some. rw (c.as_slice.ensures.value, c.rows_over-rows.ensures.links) (c.requires.two some)

pub root_of-requires-clause-short : goal.root_of-requires-clause-short
root_of-requires-clause-short g c = rw (c.as_slice.ensures.value, c.rows_over-rows.ensures.items) c.requires.rows.short

pub root_of-requires-clause-held : goal.root_of-requires-clause-held
root_of-requires-clause-held g c = λ k. rw c.as_slice.ensures.value (omega (arith, c.rows_over-rows.ensures.builds.holds k, c.requires.rows.held k))

pub root_of-requires-clause-holds : goal.root_of-requires-clause-holds
root_of-requires-clause-holds g c = elim (cases_lt 32 (length c.args.links.now)) as (λ _. hold_count c.rows_over-rows.new.heap < most_holds) [
  | inl many ↦ omega (arith, many, c.requires.rows.holds, c.rows_over-rows.ensures.builds.total, c.rows_over-rows.ensures.few)
  | inr few ↦
      let one = one-of-need c.rows_over-rows.new.heap c.rows_over-rows.result.items (need g c) (rw c.rows_over-rows.ensures.links few) in
      omega (arith, one, c.requires.rows.some, c.requires.rows.holds, c.rows_over-rows.ensures.builds.total)
]

pub returns-clause-items : goal.returns-clause-items
returns-clause-items g c = c.root_of.ensures.items ∙ rw c.as_slice.ensures.value c.rows_over-rows.ensures.items

pub returns-clause-flat : goal.returns-clause-flat
returns-clause-flat g c = λ few.
    c.root_of.ensures.flat (rw c.as_slice.ensures.value (one-of-need c.rows_over-rows.new.heap c.rows_over-rows.result.items (need g c.before) (rw c.rows_over-rows.ensures.links few)))

pub returns-clause-below : goal.returns-clause-below
returns-clause-below g c = λ m low.
    let same = below-kept (live-stays c.requires.rows.graph c.rows_over-rows.ensures.builds.extends) c.args.height m c.args.links.now (links-live c.args.heap.now c.args.height c.args.links.now c.requires.rows.links) in
    rw c.as_slice.ensures.value at (c.root_of.ensures.below m (omega arith)) ∙ below-rows (links_at c.rows_over-rows.new.heap) c.args.height m c.rows_over-rows.result.items low ∙ ap (rows_under (links_at c.rows_over-rows.new.heap) c.args.height m) c.rows_over-rows.ensures.links ∙ same

pub returns-clause-top : goal.returns-clause-top
returns-clause-top g c = λ m high. elim (cases_lt c.args.height m) as (λ _. AreAtNeed c.root_of.new.heap 2 (rows_of c.root_of.new.heap m c.root_of.result)) [
  | inl past ↦ one-at-need c.root_of.new.heap (rows_of c.root_of.new.heap m c.root_of.result) (rows-few (links_at c.root_of.new.heap) (height_at c.root_of.new.heap c.root_of.result) m c.root_of.result (omega (arith, past, c.root_of.ensures.low.most)))
  | inr low ↦
      let same : m ≡ c.args.height = omega arith in
      let rows = rw c.as_slice.ensures.value at (c.root_of.ensures.below c.args.height (omega arith)) ∙ rows-own-all (links_at c.rows_over-rows.new.heap) c.args.height c.rows_over-rows.result.items in
      rw (same, rows) (need-kept (live-stays c.rows_over-rows.ensures.builds.graph c.root_of.ensures.builds.extends) 2 c.rows_over-rows.result.items (rows-live c.rows_over-rows.new.heap c.args.height c.rows_over-rows.result.items c.rows_over-rows.ensures.rows) (need g c.before))
]

pub returns-clause-builds : goal.returns-clause-builds
returns-clause-builds g c = Builds-then c.rows_over-rows.ensures.builds (rw c.as_slice.ensures.value at c.root_of.ensures.builds)
