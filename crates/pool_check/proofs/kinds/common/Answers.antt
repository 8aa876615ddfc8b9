use Rattle.std.proofs.Common.{refl, ap, ◌∙◌, arith}
use Rattle.std.proofs.lemmas.List.{take_all}
use Rattle.pool_check.specs.Facts.{common_facts}
use Rattle.pool_check.proofs.FactLemmas.{common-more}
use Rattle.pool_check.proofs.kinds.common.Goals as goal

pub loop-link-init : goal.loop-link-init
unfolding common_facts
loop-link-init c = λ facts are. refl

pub loop-link-preserved : goal.loop-link-preserved
loop-link-preserved c = λ facts are.
    let now = c.loop-link.invariant facts are in
    let next = c.facts_of.ensures facts are in
    let more = common-more facts c.args.links.now c.loop-link.link-index (omega arith) in
    cc

pub returns : goal.returns
returns c facts are = c.loop-link.invariant facts are ∙ ap (common_facts facts) (take_all c.loop-link.link-index c.args.links.now (omega arith))
