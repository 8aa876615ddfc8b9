use Rattle.container_tests.proofs.TurnLemmas.{rows-live, found-there}
use Rattle.container_tests.proofs.turns.Counted.add_all.Goals as goal

pub loop-link-preserved : goal.loop-link-preserved
loop-link-preserved c =
    rows-live c.args.heap.now c.link-item.result c.loop-link.self.rows.items c.add.new.self.rows.items c.in_ok-add.ensures
    (c.requires.live c.link-item.result (found-there c.args.links.now c.loop-link.link-index c.link-item.result c.loop-link-test.true c.link-item.is)) c.loop-link.invariant
