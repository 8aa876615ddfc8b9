use Rattle.std.specs.Prelude.{IsTrue}
use Rattle.std.proofs.Common.{arith, ◌≡◌, ℕ, suc, ◌+◌, ◌-◌, ◌*◌, ◌≤◌, length, ap, sym, ◌∙◌, ◌++◌}
use Rattle.node_heap.specs.Heap.{form_at, links_at}
use Rattle.rrb_core.specs.Seq.{seq_at, IsThick}
use Rattle.rrb_join.specs.Unmade.{AreUnmade}
use Rattle.rrb_join.specs.Seam.{AllStandBeside, AreAtNeed}
use Rattle.rrb_join.specs.Joining.{JoinsToLinks, JoinsToRows}
use Rattle.rrb_core.proofs.Stays.{well-live, live-stays, links-stay}
use Rattle.node_heap.proofs.Frames.{Extends-trans}
use Rattle.node_heap.proofs.BuildLemmas.{Builds-then, Builds-more}
use Rattle.rrb_join.proofs.UnmadeLemmas.{has-links, leaf-are-thick, links-rows, rows-above, items-above, thick-above, thick-rows}
use Rattle.rrb_join.proofs.RowsOfHeights.{halves-at-need}
use Rattle.rrb_join.proofs.SeamLemmas.{seam, leaf-seam}
use Rattle.rrb_join.proofs.BesideLemmas.{both}
use Rattle.rrb_join.proofs.SeamRows.{joins-over, keeps-over, joins-up, keeps-up}
use Rattle.rrb_join.proofs.joining.+join.Given as given
use Rattle.rrb_join.proofs.joining.+join.Goals as goal

-- two rows that are kept
kept : (g : given.Over) (t : ℕ) (c : goal.joined_rows-After-both_held g t) → JoinsToRows c.args.heap.now c.both_held.new.heap c.args.left_height c.args.left c.args.right_height c.args.right c.args.height c.both_held.result.items × AreAtNeed c.both_held.new.heap 2 c.both_held.result.items
kept g t c =
    both c.args.height c.args.left_height c.args.left c.args.right_height c.args.right c.both_held.result.items (live-stays c.requires.rows.graph c.both_held.ensures.builds.extends) c.requires.rows.left_low c.requires.rows.right_low c.requires.rows.left c.requires.rows.right (λ m low. c.can_keep.ensures.0 c.if-can_keep.true m (omega arith)) c.both_held.ensures.rows c.both_held.ensures.builds

pub joined_rows-returns-then-can_keep-clause-joins : goal.joined_rows-returns-then-can_keep-clause-joins
joined_rows-returns-then-can_keep-clause-joins g t c = (kept g t c).0

pub joined_rows-returns-then-can_keep-clause-need : goal.joined_rows-returns-then-can_keep-clause-need
joined_rows-returns-then-can_keep-clause-need g t c = (kept g t c).1

-- rows made over the links of both
pub joined_rows-returns-clause-joins : goal.joined_rows-returns-clause-joins
joined_rows-returns-clause-joins g t c =
    let joins = c.join-links.ensures.joins in
    let stays = live-stays joins.builds.graph c.rows_over.ensures.builds.extends in
    let over-links = c.rows_over.ensures.links ∙ c.as_slice.ensures.value in
    let apart : AllStandBeside c.args.heap.now c.args.left_height c.args.left c.args.right_height c.args.right c.args.height → ⊥ = λ stand.
    let true : IsTrue c.can_keep.result = c.can_keep.ensures.1 stand in
    absurd (cc (true, c.if-can_keep.false)) in
    record {
      links = record {
        links = rows-above c.rows_over.new.heap c.args.height c.rows_over.result.items c.rows_over.ensures.rows;
        items = items-above c.rows_over.new.heap c.args.height c.rows_over.result.items ∙ rw c.as_slice.ensures.value at c.rows_over.ensures.items ∙ joins.links.items;
        some = c.rows_over.ensures.some;
        most = omega (arith, c.rows_over.ensures.few);
      };
      thick = λ e thick.
          thick-above c.rows_over.new.heap c.args.height c.rows_over.result.items (c.rows_over.ensures.thick (rw c.as_slice.ensures.value (c.join-links.ensures.half e thick)) (rw c.as_slice.ensures.value (joins.thick e thick)));
      left_wide = λ e. rw over-links (joins.left_wide e);
      right_wide = λ e. rw over-links (joins.right_wide e);
      few = λ e e'. rw over-links (joins.few e e');
      seam = joins-over c.args.heap.now c.args.left_height c.args.left c.args.right_height c.args.right stays c.rows_over.ensures.builds.graph joins.links.links c.rows_over.ensures.rows over-links c.requires.rows.left_low c.requires.rows.right_low (halves-at-need c.rows_over.new.heap c.rows_over.result.items c.rows_over.ensures.halves) joins.seam;
      keeps = keeps-over c.args.heap.now c.args.left_height c.args.left c.args.right_height c.args.right stays c.rows_over.ensures.builds.graph joins.links.links c.rows_over.ensures.rows over-links apart joins.keeps;
      builds = Builds-more 0 (2 * suc c.args.height) (Builds-then joins.builds (rw c.as_slice.ensures.value at c.rows_over.ensures.builds)) (omega arith) (omega arith);
    }

leaves : (g : given.Over) (t : ℕ) (c : goal.join-After-gathered g t) → AreUnmade c.gathered.new.heap c.args.height c.gathered.result.items (seq_at (form_at c.args.heap.now) c.args.left_height c.args.left ++ seq_at (form_at c.args.heap.now) c.args.right_height c.args.right)
    × (length c.gathered.result.items ≡ length (links_at c.args.heap.now c.args.left) + length (links_at c.args.heap.now c.args.right)) × (length (links_at c.args.heap.now c.args.right) ≤ 32)
leaves g t c =
    leaf-seam c.args.heap.now c.gathered.new.heap c.args.height c.args.left_height c.args.left c.args.right_height c.args.right c.gathered.result.items (omega arith) c.requires.rows.left_low c.requires.rows.right_low c.requires.rows.left c.requires.rows.right (rw c.links-end.ensures.links at c.gathered.ensures.items)

pub join-returns-then-height-eq0-clause-joins : goal.join-returns-then-height-eq0-clause-joins
join-returns-then-height-eq0-clause-joins g t c =
    let size = (leaves g t c).1 in
    record {
      links = (leaves g t c).0;
      thick = λ _ _. leaf-are-thick c.gathered.new.heap c.args.height c.gathered.result.items (omega arith);
      left_wide = λ _. omega (arith, size);
      right_wide = λ _. omega (arith, size);
      few = λ _ _. omega (arith, size);
      seam = λ m low. absurd (omega arith);
      keeps = λ m low. absurd (omega arith);
      builds = Builds-more 0 (2 * c.args.height) c.gathered.ensures.builds (omega arith) (omega arith);
    }

pub join-returns-then-height-eq0-clause-half : goal.join-returns-then-height-eq0-clause-half
join-returns-then-height-eq0-clause-half g t c = λ e thick.
    let own = has-links c.args.heap.now c.args.height c.args.right (rw e at c.requires.rows.right.well) (rw e at c.requires.rows.right.sums) in
    omega (arith, (leaves g t c).1, (own.thick thick).0)

pub join-gathered-requires-2-clause-keep : goal.join-gathered-requires-2-clause-keep
join-gathered-requires-2-clause-keep g t c = rw (links-stay (live-stays c.requires.rows.graph c.joined_rows-rows.ensures.joins.builds.extends) c.args.left (well-live c.args.heap.now c.args.left_height c.args.left c.requires.rows.left.well)) c.last_edge-last.ensures.inside

pub join-gathered-requires-2-clause-skip : goal.join-gathered-requires-2-clause-skip
join-gathered-requires-2-clause-skip g t c = rw (links-stay (live-stays c.requires.rows.graph c.joined_rows-rows.ensures.joins.builds.extends) c.args.right (well-live c.args.heap.now c.args.right_height c.args.right c.requires.rows.right.well)) c.first_edge-first.ensures.inside

pub join-gathered-requires-2-clause-few : goal.join-gathered-requires-2-clause-few
join-gathered-requires-2-clause-few g t c =
    let same = links-stay (live-stays c.requires.rows.graph c.joined_rows-rows.ensures.joins.builds.extends) c.args.right (well-live c.args.heap.now c.args.right_height c.args.right c.requires.rows.right.well) in
    omega (arith, ap length same, ap length c.as_slice.ensures.value, c.joined_rows-rows.ensures.need.most, c.last_edge-last.ensures.few, c.first_edge-first.ensures.few)

joined : (g : given.Over) (t : ℕ) (c : goal.join-After-gathered-2 g t) → JoinsToLinks c.args.heap.now c.gathered-2.new.heap c.args.left_height c.args.left c.args.right_height c.args.right c.args.height c.gathered-2.result.items
    × (c.args.right_height ≡ c.args.height → IsThick (form_at c.args.heap.now) c.args.height c.args.right → 16 ≤ length c.gathered-2.result.items)
joined g t c =
    let up : c.args.height ≡ suc (c.args.height - 1) = omega arith in
    let joins = c.joined_rows-rows.ensures.joins in
    let ext = joins.builds.extends in
    let stays = live-stays c.requires.rows.graph (Extends-trans ext c.gathered-2.ensures.builds.extends) in
    let made-stay = live-stays joins.builds.graph c.gathered-2.ensures.builds.extends in
    let left-same = links-stay (live-stays c.requires.rows.graph ext) c.args.left (well-live c.args.heap.now c.args.left_height c.args.left c.requires.rows.left.well) in
    let right-same = links-stay (live-stays c.requires.rows.graph ext) c.args.right (well-live c.args.heap.now c.args.right_height c.args.right c.requires.rows.right.well) in
    let rows = links-rows c.joined_rows-rows.new.heap (c.args.height - 1) c.joined_rows-rows.result.items joins.links.links in
    let gathered = rw c.as_slice.ensures.value at c.gathered-2.ensures.items in
    seam c.args.heap.now c.joined_rows-rows.new.heap c.gathered-2.new.heap c.args.height (c.args.height - 1) c.args.left_height c.args.left c.last_edge-last.result.place c.last_edge-last.result.height c.last_edge-last.result.link c.args.right_height c.args.right c.first_edge-first.result.place c.first_edge-first.result.height c.first_edge-first.result.link
    c.joined_rows-rows.result.items c.gathered-2.result.items up stays made-stay left-same right-same c.last_edge-last.ensures c.first_edge-first.ensures rows (sym (items-above c.joined_rows-rows.new.heap (c.args.height - 1) c.joined_rows-rows.result.items) ∙ joins.links.items)
    (λ e thick. thick-rows c.joined_rows-rows.new.heap (c.args.height - 1) c.joined_rows-rows.result.items (joins.thick e thick)) joins.links.some c.joined_rows-rows.ensures.need.most gathered
    (joins-up up stays made-stay c.last_edge-last.ensures c.first_edge-first.ensures rows gathered left-same right-same joins.seam)
    (keeps-up up stays made-stay c.last_edge-last.ensures c.first_edge-first.ensures rows gathered left-same right-same joins.keeps)
    (Builds-more 0 (2 * c.args.height) (Builds-then joins.builds (rw c.as_slice.ensures.value at c.gathered-2.ensures.builds)) (omega arith) (omega arith))

pub join-returns-clause-joins : goal.join-returns-clause-joins
join-returns-clause-joins g t c = (joined g t c).0

pub join-returns-clause-half : goal.join-returns-clause-half
join-returns-clause-half g t c = (joined g t c).1
