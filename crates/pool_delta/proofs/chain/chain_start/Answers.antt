use Rattle.std.proofs.Common.{◌≡◌, rules, Bool, true, false, Some, None, ap, sym, subst, ◌∙◌, arith}
use Rattle.pool_text.specs.Rules.{present_rules}
use Rattle.pool_text.specs.declared.pool.Pool.{Pool}
use Rattle.pool_text.specs.declared.damage.Damage.TheVariants.{Order}
use Rattle.pool_text.proofs.Refusals.{handed-on}
use Rattle.pool_check.specs.Damages.{rows_in_order}
use Rattle.pool_check.proofs.DamageLemmas.{open-fails, order-fails, order-passes}
use Rattle.pool_delta.specs.Chains.{IsChain, start_damage}
use Rattle.pool_delta.proofs.ChainLaws.{range-of}
use Rattle.pool_delta.proofs.ChainCode.{start-read, start-found, start-chain}
use Rattle.pool_delta.proofs.chain.chain_start.Goals as goal

pub returns-in_err-pool-clause-damage : goal.returns-in_err-pool-clause-damage
returns-in_err-pool-clause-damage c =
    handed-on c.from_residual.result c.in_err-pool.field-0.0 (start_damage c.args.bits c.args.bytes.now) c.from_residual.ensures.1
    (λ other. start-read c.args.bits c.args.bytes.now c.in_err-pool.field-0.0 (c.in_err-pool.ensures.damage other))

pub check_open-requires-clause-bits : goal.check_open-requires-clause-bits
check_open-requires-clause-bits c = omega (arith, c.in_ok-pool.ensures.bits, c.requires)

pub returns-in_err-tested-clause-damage : goal.returns-in_err-tested-clause-damage
returns-in_err-tested-clause-damage c =
    let P : Pool = c.in_ok-pool.pool in
    let d = c.in_err-tested.field-0.0 in
    handed-on c.from_residual-in_err-tested.result d (start_damage c.args.bits c.args.bytes.now) c.from_residual-in_err-tested.ensures.1
    (λ other. start-found c.args.bits c.args.bytes.now P (Some d) c.in_ok-pool.ensures.whole c.in_ok-pool.ensures.pool
    (open-fails present_rules P (range-of P c.in_ok-pool.ensures.rows) d (c.in_err-tested.ensures.damage other)))

pub returns-then-not-branch-clause-damage : goal.returns-then-not-branch-clause-damage
returns-then-not-branch-clause-damage c = λ _.
    let P : Pool = c.in_ok-pool.pool in
    let fails : rows_in_order c.in_ok-tested.tested ≡ false = search rules in
    start-found c.args.bits c.args.bytes.now P (Some Order) c.in_ok-pool.ensures.whole c.in_ok-pool.ensures.pool
    (order-fails present_rules P (range-of P c.in_ok-pool.ensures.rows) c.in_ok-tested.ensures.passed (sym (ap rows_in_order c.in_ok-tested.ensures.same) ∙ fails))

pub invariant_of-result : goal.invariant_of-result
invariant_of-result c =
    subst IsChain (sym c.in_ok-tested.ensures.same)
    (start-chain c.in_ok-pool.pool c.in_ok-pool.ensures.version (omega (arith, c.in_ok-pool.ensures.bits, c.requires)) c.in_ok-pool.ensures.history c.in_ok-pool.ensures.roots c.in_ok-pool.ensures.rows c.in_ok-tested.ensures.passed)

pub returns-clause-is_chain : goal.returns-clause-is_chain
returns-clause-is_chain c =
    subst IsChain (sym c.in_ok-tested.ensures.same)
    (start-chain c.in_ok-pool.pool c.in_ok-pool.ensures.version (omega (arith, c.in_ok-pool.ensures.bits, c.requires)) c.in_ok-pool.ensures.history c.in_ok-pool.ensures.roots c.in_ok-pool.ensures.rows c.in_ok-tested.ensures.passed)

pub returns-clause-whole : goal.returns-clause-whole
returns-clause-whole c =
    let P : Pool = c.in_ok-pool.pool in
    let passes : rows_in_order c.in_ok-tested.tested ≡ true = search rules in
    start-found c.args.bits c.args.bytes.now P None c.in_ok-pool.ensures.whole c.in_ok-pool.ensures.pool
    (order-passes present_rules P (range-of P c.in_ok-pool.ensures.rows) c.in_ok-tested.ensures.passed (sym (ap rows_in_order c.in_ok-tested.ensures.same) ∙ passes))
