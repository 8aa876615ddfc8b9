use Rattle.std.proofs.Common.{subst, Result}
use Rattle.pool_text.specs.declared.damage.Damage.{Damage}
use Rattle.pool_text.specs.declared.pool.Pool.{Pool}
use Rattle.ewig_shell.specs.Chaining.{IsReadAs}
use Rattle.ewig_shell.proofs.ChainLemmas.{reads-more, read-before}
use Rattle.ewig_shell.proofs.chained.with_more.Goals as goal

pub returns-in-Ok : goal.returns-in-Ok
returns-in-Ok c = λ bits files read.
    reads-more c.args.bytes.now bits files c.in-Ok.chain c.chain_more.result (subst (λ (r : Result Pool Damage). IsReadAs bits files r) c.in-Ok.is read)
    c.chain_more.ensures.chain c.chain_more.ensures.is_chain c.chain_more.ensures.bits c.chain_more.ensures.whole c.chain_more.ensures.damage

pub returns-in-Err : goal.returns-in-Err
returns-in-Err c = λ bits files read. read-before c.args.bytes.now bits files c.in-Err.damage (subst (λ (r : Result Pool Damage). IsReadAs bits files r) c.in-Err.is read)
