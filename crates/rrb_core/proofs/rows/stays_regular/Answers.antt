use Rattle.std.proofs.Common.{arith, ◌≡◌, ◌-◌, ◌^◌, suc, [], length, get_or, ap, ◌∙◌, sym}
use Rattle.std.proofs.lemmas.Bool.Decides.{nat_tests}
use Rattle.node_heap.specs.Heap.{form_at, links_at}
use Rattle.rrb_core.specs.Seq.{seq_at}
use Rattle.rrb_core.specs.Vector.{sums_at}
use Rattle.rrb_core.proofs.Lists.{empty-list}
use Rattle.rrb_core.proofs.RowLists.{last-place, placed-child, placed-before, regular-end, regular-amid, regular-behind}
use Rattle.rrb_core.proofs.rows.stays_regular.Goals as goal

pub has_full_size-requires-clause-well : goal.has_full_size-requires-clause-well
has_full_size-requires-clause-well g c = (placed-child c.requires).0

pub has_full_size-requires-clause-sums : goal.has_full_size-requires-clause-sums
has_full_size-requires-clause-sums g c = (placed-child c.requires).1

pub returns-then-skip-count : goal.returns-then-skip-count
returns-then-skip-count g c = λ _.
    let empty : length c.sums_of.result.now ≡ 0 = grind (arith, nat_tests, c.if-not-is_empty.ensures) in
    let none : sums_at c.args.heap.now c.args.link ≡ [] = sym c.sums_of.ensures ∙ empty-list c.sums_of.result.now empty in
    let count = ap length c.links-links.ensures.links in
    regular-end c.requires none (omega (arith, c.if-keep-count.true, count)) (omega (arith, c.if-skip-count.true, count))

pub returns-else-skip-count : goal.returns-else-skip-count
returns-else-skip-count g c = λ full.
    let empty : length c.sums_of.result.now ≡ 0 = grind (arith, nat_tests, c.if-not-is_empty.ensures) in
    let none : sums_at c.args.heap.now c.args.link ≡ [] = sym c.sums_of.ensures ∙ empty-list c.sums_of.result.now empty in
    let count = ap length c.links-links.ensures.links in
    regular-amid c.requires none (omega (arith, c.if-keep-count.true, count)) (omega (arith, c.requires.skip_in, c.if-skip-count.false, count)) (c.has_full_size.ensures.test.0 full)

pub has_full_size-requires-2-clause-well : goal.has_full_size-requires-2-clause-well
has_full_size-requires-2-clause-well g c =
    let count = ap length c.links-links.ensures.links in
    let is = last-place c.links-links.result.now (links_at c.args.heap.now c.args.link) c.index-links-count.result c.index-links-count.is c.links-links.ensures.links (omega (arith, count)) in
    rw is (placed-before c.requires (length (links_at c.args.heap.now c.args.link) - 1) (omega (arith, count))).0

pub has_full_size-requires-2-clause-sums : goal.has_full_size-requires-2-clause-sums
has_full_size-requires-2-clause-sums g c =
    let count = ap length c.links-links.ensures.links in
    let is = last-place c.links-links.result.now (links_at c.args.heap.now c.args.link) c.index-links-count.result c.index-links-count.is c.links-links.ensures.links (omega (arith, count)) in
    rw is (placed-before c.requires (length (links_at c.args.heap.now c.args.link) - 1) (omega (arith, count))).1

pub has_full_size-requires-2-clause-short : goal.has_full_size-requires-2-clause-short
has_full_size-requires-2-clause-short g c =
    let count = ap length c.links-links.ensures.links in
    let is = last-place c.links-links.result.now (links_at c.args.heap.now c.args.link) c.index-links-count.result c.index-links-count.is c.links-links.ensures.links (omega (arith, count)) in
    rw is (placed-before c.requires (length (links_at c.args.heap.now c.args.link) - 1) (omega (arith, count))).2

pub returns : goal.returns
returns g c = λ yes.
    let empty : length c.sums_of.result.now ≡ 0 = grind (arith, nat_tests, c.if-not-is_empty.ensures) in
    let none : sums_at c.args.heap.now c.args.link ≡ [] = sym c.sums_of.ensures ∙ empty-list c.sums_of.result.now empty in
    let count = ap length c.links-links.ensures.links in
    let is = last-place c.links-links.result.now (links_at c.args.heap.now c.args.link) c.index-links-count.result c.index-links-count.is c.links-links.ensures.links (omega (arith, count)) in
    let full : length (seq_at (form_at c.args.heap.now) c.args.below (get_or (links_at c.args.heap.now c.args.link) (length (links_at c.args.heap.now c.args.link) - 1) 0)) ≡ 32 ^ suc c.args.below = rw is at (c.has_full_size-2.ensures.test.0 yes) in
    regular-behind c.requires none (omega (arith, count)) (omega (arith, count)) (omega (arith, count)) full
