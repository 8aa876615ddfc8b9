use Rattle.std.proofs.Common.{sym, ◌∙◌, arith}
use Rattle.versions_pool.proofs.RiseLemmas.{goes-on, falls-off, all-risen}
use Rattle.versions_pool.proofs.document.rise_behind.Goals as goal

pub returns-then-name-last : goal.returns-then-name-last
returns-then-name-last c = sym (c.loop-name.invariant ∙ falls-off c.loop-name.last c.args.rest.now c.loop-name.name-index c.loop-name-test.true (omega (arith, c.if-name-last.true)))

pub loop-name-preserved : goal.loop-name-preserved
loop-name-preserved c = c.loop-name.invariant ∙ goes-on c.loop-name.last c.args.rest.now c.loop-name.name-index c.loop-name-test.true (omega (arith, c.if-name-last.false))

pub returns : goal.returns
returns c = sym (c.loop-name.invariant ∙ all-risen c.loop-name.last c.args.rest.now c.loop-name.name-index (omega arith))
