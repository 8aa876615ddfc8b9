use Rattle.std.proofs.Common.{arith, length, ◌/◌, ◌≡◌, refl, ◌∙◌, [], ◌∷◌}
use Rattle.rrb_core.proofs.LinkCounts.{count-split}
use Rattle.rrb_core.proofs.Stays.{live-stays}
use Rattle.rrb_join.proofs.UnmadeLemmas.{links-take, links-rest, front-short, rest-short, held-rest, front-long, rest-long, two-pushed, AreOver, one-over, AreTwoOver, two-over, builds-two}
use Rattle.rrb_join.proofs.RowsOfHeights.{one-half}
use Rattle.rrb_join.proofs.over.rows_over.Given as given
use Rattle.rrb_join.proofs.over.rows_over.Goals as goal

alone : (g : given.Over) (c : goal.After-push g) → c.push.new.self.items ≡ c.row_over.result ∷ []
alone g c = c.push.ensures.items ∙ rw c.new-rows.ensures refl

one : (g : given.Over) (c : goal.After-push g) → AreOver c.args.heap.now c.row_over.new.heap c.args.height (c.row_over.result ∷ []) c.args.links.now
one g c = one-over c.args.heap.now c.row_over.new.heap c.args.height c.row_over.result c.args.links.now (live-stays c.requires.rows.graph c.row_over.ensures.builds.extends) c.requires.rows.links c.requires.rows.some c.row_over.ensures.row c.row_over.ensures.links

pub returns-then-links-le-ROW_LINKS-clause-thick : goal.returns-then-links-le-ROW_LINKS-clause-thick
returns-then-links-le-ROW_LINKS-clause-thick g c = λ enough full. rw (alone g c) ((one g c).thick enough full)

pub returns-then-links-le-ROW_LINKS-clause-links : goal.returns-then-links-le-ROW_LINKS-clause-links
returns-then-links-le-ROW_LINKS-clause-links g c = rw (alone g c) (one g c).links

pub returns-then-links-le-ROW_LINKS-clause-halves : goal.returns-then-links-le-ROW_LINKS-clause-halves
returns-then-links-le-ROW_LINKS-clause-halves g c = rw (alone g c) (one-half c.row_over.new.heap (c.row_over.result ∷ []) (omega arith))

pub row_over-requires-2-clause-rows : goal.row_over-requires-2-clause-rows
row_over-requires-2-clause-rows g c =
    record {
      graph = c.requires.rows.graph;
      links = links-take c.args.heap.now c.args.height _ c.args.links.now c.requires.rows.links (omega arith);
      some = front-long 1 _ c.args.links.now (omega arith) (omega arith);
      low = c.requires.rows.low;
      short = front-short c.args.heap.now c.args.height _ c.args.links.now c.requires.rows.short;
      held = λ k. omega (arith, c.requires.rows.held k, count-split k (length c.args.links.now / 2) c.args.links.now);
      holds = c.requires.rows.holds;
    }

pub row_over-requires-3-clause-rows : goal.row_over-requires-3-clause-rows
row_over-requires-3-clause-rows g c =
    record {
      graph = c.row_over-2.ensures.builds.graph;
      links = links-rest c.args.height _ c.args.links.now (live-stays c.requires.rows.graph c.row_over-2.ensures.builds.extends) c.requires.rows.links;
      some = rest-long 1 _ c.args.links.now (omega arith);
      low = c.requires.rows.low;
      short = rest-short c.args.height _ c.args.links.now (live-stays c.requires.rows.graph c.row_over-2.ensures.builds.extends) c.requires.rows.links c.requires.rows.short;
      held = held-rest _ c.args.links.now c.row_over-2.ensures.builds c.requires.rows.held;
      holds = omega (arith, c.requires.rows.holds, c.row_over-2.ensures.builds.total, front-long 1 (length c.args.links.now / 2) c.args.links.now (omega arith) (omega arith));
    }

pushed : (g : given.Over) (c : goal.After-push-3 g) → c.push-3.new.self.items ≡ c.row_over-2.result ∷ c.row_over-3.result ∷ []
pushed g c = two-pushed c.new-rows.result.items c.push-2.new.self.items c.push-3.new.self.items c.row_over-2.result c.row_over-3.result c.new-rows.ensures c.push-2.ensures.items c.push-3.ensures.items

two : (g : given.Over) (c : goal.After-push-3 g) → AreTwoOver c.args.heap.now c.row_over-2.new.heap c.row_over-3.new.heap c.args.height c.row_over-2.result c.row_over-3.result c.args.links.now
two g c =
    two-over _ c.args.links.now (live-stays c.requires.rows.graph c.row_over-2.ensures.builds.extends) (live-stays c.row_over-2.ensures.builds.graph c.row_over-3.ensures.builds.extends) c.requires.rows.links
    c.row_over-2.ensures.row c.row_over-2.ensures.links c.row_over-3.ensures.row c.row_over-3.ensures.links

pub returns-clause-rows : goal.returns-clause-rows
returns-clause-rows g c =
    rw (pushed g c) ((two g c).rows (rw c.row_over-2.ensures.links (front-long 16 _ c.args.links.now (omega arith) (omega arith))) (rw c.row_over-3.ensures.links (rest-long 1 _ c.args.links.now (omega arith))))

pub returns-clause-items : goal.returns-clause-items
returns-clause-items g c = rw (pushed g c) (two g c).items

pub returns-clause-links : goal.returns-clause-links
returns-clause-links g c = rw (pushed g c) (two g c).links

pub returns-clause-halves : goal.returns-clause-halves
returns-clause-halves g c =
    rw (pushed g c) ((two g c).halves (rw c.row_over-2.ensures.links (front-long 16 _ c.args.links.now (omega arith) (omega arith))) (rw c.row_over-3.ensures.links (rest-long 17 _ c.args.links.now (omega arith))))

pub returns-clause-thick : goal.returns-clause-thick
returns-clause-thick g c = λ enough full.
    rw (pushed g c) ((two g c).thick (rw c.row_over-2.ensures.links (front-long 16 _ c.args.links.now (omega arith) (omega arith))) (rw c.row_over-3.ensures.links (rest-long 16 _ c.args.links.now (omega arith))) full)

pub returns-clause-builds : goal.returns-clause-builds
returns-clause-builds g c = rw (pushed g c) (builds-two _ c.args.links.now c.row_over-2.ensures.builds c.row_over-3.ensures.builds)
