use Rattle.std.proofs.Common.{arith}
use Rattle.node_heap.proofs.CallerLemmas.{owned-live}
use Rattle.container_tests.proofs.TurnLemmas.{held-out, held-in-place, held-in, sole-beside, node-beside, new-apart}
use Rattle.container_tests.proofs.turns.Turns.write_own.Goals as goal

pub returns-then-way-eq0 : goal.returns-then-way-eq0
returns-then-way-eq0 c = record { held = held-out c.remove_link-old.ensures.changes.trades c.push.ensures.items c.requires.held }

pub replace-old-requires-clause-apart : goal.replace-old-requires-clause-apart
replace-old-requires-clause-apart c = new-apart c.cell-cell.result c.args.row c.cell-cell.ensures.adds (owned-live c.args.self.now.heap c.requires.held.graph c.args.row (omega (arith, c.requires.sole)))

pub insert_link-requires-clause-sole : goal.insert_link-requires-clause-sole
insert_link-requires-clause-sole c = sole-beside c.cell-cell.result c.args.row c.cell-cell.ensures.adds c.cell-cell.ensures.owners (owned-live c.args.self.now.heap c.requires.held.graph c.args.row (omega (arith, c.requires.sole))) c.requires.sole

pub insert_link-requires-clause-node : goal.insert_link-requires-clause-node
insert_link-requires-clause-node c = node-beside c.cell-cell.result c.args.row c.cell-cell.ensures.adds (owned-live c.args.self.now.heap c.requires.held.graph c.args.row (omega (arith, c.requires.sole))) c.requires.node

pub insert_link-requires-clause-apart : goal.insert_link-requires-clause-apart
insert_link-requires-clause-apart c = new-apart c.cell-cell.result c.args.row c.cell-cell.ensures.adds (owned-live c.args.self.now.heap c.requires.held.graph c.args.row (omega (arith, c.requires.sole)))

pub returns-then-way-eq1 : goal.returns-then-way-eq1
returns-then-way-eq1 c = record { held = held-in-place c.cell-cell.ensures.adds c.cell-cell.ensures.count c.replace-old.ensures.changes.trades c.push-then-way-eq1.ensures.items c.requires.held }

pub returns-else-way-eq1 : goal.returns-else-way-eq1
returns-else-way-eq1 c = record { held = held-in c.cell-cell.ensures.adds c.cell-cell.ensures.count c.insert_link.ensures.changes.trades c.requires.held }
