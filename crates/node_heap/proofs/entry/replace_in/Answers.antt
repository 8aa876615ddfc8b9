use Rattle.std.proofs.Math.Seq.{take-set-lt}
use Rattle.node_heap.proofs.entry.replace_in.Goals as goal

pub returns-clause-links : goal.returns-clause-links
returns-clause-links c = take-set-lt c.args.len c.args.items.now c.args.index c.args.link c.requires.index
