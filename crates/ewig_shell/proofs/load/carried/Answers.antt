use Rattle.std.proofs.Common.{◌≡◌, ◌≢◌, Some, sym, ap, subst, ◌∙◌, arith}
use Rattle.std.proofs.lemmas.Option.{none-some}
use Rattle.std.proofs.lemmas.Result.{IfOk-weaker, IfErr-weaker}
use Rattle.pool_text.specs.Rules.{first_rules, present_rules, rules_of}
use Rattle.pool_text.specs.declared.pool.Pool.{Pool}
use Rattle.pool_text.specs.declared.damage.Damage.TheVariants.{Memory}
use Rattle.pool_check.specs.Damages.{damage, IsValid}
use Rattle.pool_check.proofs.DamageLemmas.{valid-undamaged}
use Rattle.pool_carry.specs.Carried.{IsCarried}
use Rattle.ewig_shell.proofs.DocumentLemmas.{valid-range, no-test}
use Rattle.ewig_shell.proofs.load.carried.Goals as goal

pub check-requires-clause-rules : goal.check-requires-clause-rules
check-requires-clause-rules c = ap rules_of c.in_ok-pool.ensures.version

pub check-requires-clause-history : goal.check-requires-clause-history
check-requires-clause-history c = record { within = omega (arith, c.in_ok-pool.ensures.history); older = λ _. c.in_ok-pool.ensures.history }

pub check-requires-clause-bits : goal.check-requires-clause-bits
check-requires-clause-bits c = omega (arith, c.in_ok-pool.ensures.bits, c.requires.bits)

pub check-requires-clause-rows : goal.check-requires-clause-rows
check-requires-clause-rows c =
    valid-range c.in_ok-pool.pool (c.carried_is_valid.ensures first_rules present_rules c.args.bits c.args.old c.in_ok-pool.pool (omega (arith, c.requires.bits)) c.requires.valid c.in_ok-pool.ensures.carried)

pub returns-clause-carried : goal.returns-clause-carried
returns-clause-carried c =
    IfOk-weaker c.check.result (λ (P : Pool). P ≡ c.in_ok-pool.pool) (IsCarried present_rules c.args.bits c.args.old)
    (λ P same. subst (IsCarried present_rules c.args.bits c.args.old) (sym same) c.in_ok-pool.ensures.carried) c.check.ensures.same

pub returns-clause-valid : goal.returns-clause-valid
returns-clause-valid c =
    let valid = c.carried_is_valid.ensures first_rules present_rules c.args.bits c.args.old c.in_ok-pool.pool (omega (arith, c.requires.bits)) c.requires.valid c.in_ok-pool.ensures.carried in
    IfOk-weaker c.check.result (λ (P : Pool). P ≡ c.in_ok-pool.pool) IsValid (λ P same. subst IsValid (sym same) valid) c.check.ensures.same

pub returns-clause-bits : goal.returns-clause-bits
returns-clause-bits c =
    IfOk-weaker c.check.result (λ (P : Pool). P ≡ c.in_ok-pool.pool) (λ P. P.bits ≡ c.args.bits) (λ P same. ap (λ (Q : Pool). Q.bits) same ∙ c.in_ok-pool.ensures.bits) c.check.ensures.same

pub returns-clause-memory : goal.returns-clause-memory
returns-clause-memory c =
    let valid = c.carried_is_valid.ensures first_rules present_rules c.args.bits c.args.old c.in_ok-pool.pool (omega (arith, c.requires.bits)) c.requires.valid c.in_ok-pool.ensures.carried in
    IfErr-weaker c.check.result (λ d. d ≢ Memory → damage c.in_ok-pool.pool ≡ Some d) (λ d. d ≡ Memory)
    (λ d says. no-test d (λ other. none-some d (sym (valid-undamaged c.in_ok-pool.pool valid) ∙ says other))) c.check.ensures.damage
