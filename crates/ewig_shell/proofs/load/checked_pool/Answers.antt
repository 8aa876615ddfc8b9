use Rattle.std.proofs.Common.{◌≡◌, ◌≢◌, Some, None, sym, ap, subst, ◌∙◌, arith}
use Rattle.std.proofs.lemmas.Result.{IfOk-weaker, IfErr-weaker}
use Rattle.pool_text.specs.Rules.{first_rules, present_rules}
use Rattle.pool_text.specs.Pool.{at_present_version}
use Rattle.pool_text.specs.declared.pool.Pool.{Pool}
use Rattle.pool_text.specs.declared.damage.Damage.TheVariants.{Memory}
use Rattle.pool_text.proofs.Refusals.{handed-on}
use Rattle.pool_check.specs.Damages.{damage, document_damage, IsValid, IsValidBy}
use Rattle.pool_check.proofs.Versions.{first-range, present-are, present-range, first-bits, present-bits}
use Rattle.pool_carry.specs.Carried.{IsCarried}
use Rattle.ewig_shell.specs.Step.{DocumentStandsFor}
use Rattle.ewig_shell.proofs.DocumentLemmas.{own-first, own-present, both-ok, stands-carried, stands-present}
use Rattle.ewig_shell.proofs.LoadLemmas.{read_damage, pool_damage}
use Rattle.ewig_shell.proofs.load.checked_pool.Goals as goal

pub returns-in_err-pool-clause-damage : goal.returns-in_err-pool-clause-damage
returns-in_err-pool-clause-damage c =
    handed-on c.from_residual.result c.in_err-pool.field-0.0 (document_damage c.args.bits c.args.bytes.now) c.from_residual.ensures.1
    (λ other. read_damage c.args.bits c.args.bytes.now c.in_err-pool.field-0.0 (c.in_err-pool.ensures.damage other))

-- ## The first version

pub check_old-requires-clause-bits : goal.check_old-requires-clause-bits
check_old-requires-clause-bits c = first-bits c.in_ok-pool.pool c.args.bits c.in_ok-pool.ensures.bits c.if-pool-eq-FIRST_VERSION.true

pub check_old-requires-clause-rows : goal.check_old-requires-clause-rows
check_old-requires-clause-rows c = first-range c.in_ok-pool.pool c.in_ok-pool.ensures.rows c.if-pool-eq-FIRST_VERSION.true

pub returns-in_err-old-clause-damage : goal.returns-in_err-old-clause-damage
returns-in_err-old-clause-damage c =
    handed-on c.from_residual-in_err-old.result c.in_err-old.field-0.0 (document_damage c.args.bits c.args.bytes.now) c.from_residual-in_err-old.ensures.1
    (λ other. pool_damage c.args.bits c.args.bytes.now c.in_ok-pool.pool (Some c.in_err-old.field-0.0) c.in_ok-pool.ensures.whole c.in_ok-pool.ensures.pool
    (own-first c.in_ok-pool.pool (Some c.in_err-old.field-0.0) c.if-pool-eq-FIRST_VERSION.true (c.in_err-old.ensures.damage other)))

pub carried-requires-clause-valid : goal.carried-requires-clause-valid
carried-requires-clause-valid c = subst (IsValidBy first_rules) (sym c.in_ok-old.ensures.same) c.in_ok-old.ensures.valid

pub returns-in_ok-old-clause-stands : goal.returns-in_ok-old-clause-stands
returns-in_ok-old-clause-stands c =
    IfOk-weaker c.carried.result (IsCarried present_rules c.args.bits c.in_ok-old.old) (λ P. DocumentStandsFor c.args.bits c.args.bytes.now (at_present_version P))
    (λ Q is. stands-carried c.args.bits c.args.bytes.now c.in_ok-pool.pool Q c.in_ok-pool.ensures.pool c.if-pool-eq-FIRST_VERSION.true
    (subst (λ (P : Pool). IsCarried present_rules c.args.bits P Q) c.in_ok-old.ensures.same is)) c.carried.ensures.carried

pub returns-in_ok-old-clause-whole : goal.returns-in_ok-old-clause-whole
returns-in_ok-old-clause-whole c =
    IfOk-weaker c.carried.result (λ (P : Pool). P.bits ≡ c.args.bits) (λ _. document_damage c.args.bits c.args.bytes.now ≡ None)
    (λ Q is. pool_damage c.args.bits c.args.bytes.now c.in_ok-pool.pool None c.in_ok-pool.ensures.whole c.in_ok-pool.ensures.pool
    (own-first c.in_ok-pool.pool None c.if-pool-eq-FIRST_VERSION.true c.in_ok-old.ensures.undamaged)) c.carried.ensures.bits

pub returns-in_ok-old-clause-damage : goal.returns-in_ok-old-clause-damage
returns-in_ok-old-clause-damage c =
    IfErr-weaker c.carried.result (λ d. d ≡ Memory) (λ d. d ≢ Memory → document_damage c.args.bits c.args.bytes.now ≡ Some d) (λ d is other. absurd (other is)) c.carried.ensures.memory

-- ## A later version

pub check-requires-clause-rules : goal.check-requires-clause-rules
check-requires-clause-rules c = present-are c.in_ok-pool.pool c.in_ok-pool.ensures.rows c.if-pool-eq-FIRST_VERSION.false

pub check-requires-clause-bits : goal.check-requires-clause-bits
check-requires-clause-bits c = omega (arith, present-bits c.in_ok-pool.pool c.args.bits c.in_ok-pool.ensures.bits c.if-pool-eq-FIRST_VERSION.false, c.requires)

pub check-requires-clause-history : goal.check-requires-clause-history
check-requires-clause-history c = c.in_ok-pool.ensures.history

pub check-requires-clause-rows : goal.check-requires-clause-rows
check-requires-clause-rows c = present-range c.in_ok-pool.pool c.in_ok-pool.ensures.rows c.if-pool-eq-FIRST_VERSION.false

pub returns-else-pool-eq-FIRST_VERSION-clause-stands : goal.returns-else-pool-eq-FIRST_VERSION-clause-stands
returns-else-pool-eq-FIRST_VERSION-clause-stands c =
    IfOk-weaker c.check.result (λ (P : Pool). P ≡ c.in_ok-pool.pool) (λ P. DocumentStandsFor c.args.bits c.args.bytes.now (at_present_version P))
    (λ Q same. stands-present c.args.bits c.args.bytes.now c.in_ok-pool.pool (at_present_version Q) c.in_ok-pool.ensures.pool c.if-pool-eq-FIRST_VERSION.false (ap at_present_version same)) c.check.ensures.same

pub returns-else-pool-eq-FIRST_VERSION-clause-valid : goal.returns-else-pool-eq-FIRST_VERSION-clause-valid
returns-else-pool-eq-FIRST_VERSION-clause-valid c =
    both-ok c.check.result (λ (P : Pool). P ≡ c.in_ok-pool.pool) (λ _. IsValid c.in_ok-pool.pool) IsValid (λ Q same valid. subst IsValid (sym same) valid) c.check.ensures.same c.check.ensures.valid

pub returns-else-pool-eq-FIRST_VERSION-clause-bits : goal.returns-else-pool-eq-FIRST_VERSION-clause-bits
returns-else-pool-eq-FIRST_VERSION-clause-bits c =
    IfOk-weaker c.check.result (λ (P : Pool). P ≡ c.in_ok-pool.pool) (λ P. P.bits ≡ c.args.bits)
    (λ Q same. ap (λ (R : Pool). R.bits) same ∙ present-bits c.in_ok-pool.pool c.args.bits c.in_ok-pool.ensures.bits c.if-pool-eq-FIRST_VERSION.false) c.check.ensures.same

pub returns-else-pool-eq-FIRST_VERSION-clause-whole : goal.returns-else-pool-eq-FIRST_VERSION-clause-whole
returns-else-pool-eq-FIRST_VERSION-clause-whole c =
    let now = present-are c.in_ok-pool.pool c.in_ok-pool.ensures.rows c.if-pool-eq-FIRST_VERSION.false in
    IfOk-weaker c.check.result (λ _. damage c.in_ok-pool.pool ≡ None) (λ _. document_damage c.args.bits c.args.bytes.now ≡ None)
    (λ Q none. pool_damage c.args.bits c.args.bytes.now c.in_ok-pool.pool None c.in_ok-pool.ensures.whole c.in_ok-pool.ensures.pool (own-present c.in_ok-pool.pool None now none)) c.check.ensures.undamaged

pub returns-else-pool-eq-FIRST_VERSION-clause-damage : goal.returns-else-pool-eq-FIRST_VERSION-clause-damage
returns-else-pool-eq-FIRST_VERSION-clause-damage c =
    let now = present-are c.in_ok-pool.pool c.in_ok-pool.ensures.rows c.if-pool-eq-FIRST_VERSION.false in
    IfErr-weaker c.check.result (λ d. d ≢ Memory → damage c.in_ok-pool.pool ≡ Some d) (λ d. d ≢ Memory → document_damage c.args.bits c.args.bytes.now ≡ Some d)
    (λ d says other. pool_damage c.args.bits c.args.bytes.now c.in_ok-pool.pool (Some d) c.in_ok-pool.ensures.whole c.in_ok-pool.ensures.pool (own-present c.in_ok-pool.pool (Some d) now (says other))) c.check.ensures.damage
