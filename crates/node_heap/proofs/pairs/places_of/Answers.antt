use Rattle.std.proofs.Common.{◌+◌, drop, ap, ◌∙◌, arith}
use Rattle.node_heap.specs.Links.{count}
use Rattle.node_heap.proofs.Counts.{count-cons, test_same, test_other}
use Rattle.node_heap.proofs.Dying.{at_link}
use Rattle.node_heap.proofs.pairs.places_of.Goals as goal
use Rattle.node_heap.proofs.pairs.places_of.Goals.{then-link-place, else-link-place}

pub loop-link-preserved : goal.loop-link-preserved
loop-link-preserved c =
    let place = c.link.inside.place in
    let links = at_link c.args.links.now c.loop-link.link-index c.link-item.result place c.loop-link-test.true c.link.view_is c.link-item.is in
    let split = ap (count c.args.place) links ∙ count-cons c.args.place place (drop (c.loop-link.link-index + 1) c.args.links.now) in
    elim c.if-link-place.branch [
      | then-link-place w ↦
          record {
            rest = omega (arith, w.places-is, c.loop-link.invariant.rest, split, test_same place c.args.place w.if-link-place.true);
            few = omega (arith, w.places-is, c.loop-link.invariant.few);
          }
      | else-link-place w ↦
          record {
            rest = omega (arith, w.places-is, c.loop-link.invariant.rest, split, test_other place c.args.place w.if-link-place.false);
            few = omega (arith, w.places-is, c.loop-link.invariant.few);
          }
    ]
