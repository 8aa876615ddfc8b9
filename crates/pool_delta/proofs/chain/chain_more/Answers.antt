use Rattle.std.proofs.Common.{◌≡◌, ◌≢◌, ℕ, Some, None, length, ap, sym, subst, ◌∙◌, arith}
use Rattle.std.specs.Result.{IfErr}
use Rattle.std.proofs.lemmas.List.{length-map}
use Rattle.pool_text.specs.Rows.{row_form}
use Rattle.pool_text.specs.Pool.{row_count}
use Rattle.pool_text.specs.Rules.{present_rules}
use Rattle.pool_text.specs.declared.pool.Pool.{Pool}
use Rattle.pool_text.specs.declared.damage.Damage.TheVariants.{Link, Memory}
use Rattle.pool_text.proofs.Refusals.{handed-on}
use Rattle.pool_check.specs.Damages.{open_damage}
use Rattle.pool_delta.specs.Parts.{Part}
use Rattle.pool_delta.specs.Chains.{IsChain, with_part, more_damage, chain_with}
use Rattle.pool_delta.specs.Read.{part_seen}
use Rattle.pool_delta.proofs.ChainCode.{more-read, more-link, more-found, more-with, longer-chain}
use Rattle.pool_delta.proofs.chain.chain_more.Goals as goal

pub returns-in_err-part-clause-damage : goal.returns-in_err-part-clause-damage
returns-in_err-part-clause-damage c =
    let C : Pool = c.chain.inside.tested in
    let here : C ≡ c.args.chain = cc in
    let D : Pool = c.pool-pool.result.now in
    subst (λ (P : Pool). IfErr c.from_residual.result (λ d. d ≢ Memory → more_damage P c.args.bytes.now ≡ Some d)) (c.pool-pool.ensures.same ∙ here)
    (handed-on c.from_residual.result c.in_err-part.field-0.0 (more_damage D c.args.bytes.now) c.from_residual.ensures.1
    (λ other. more-read D c.args.bytes.now c.in_err-part.field-0.0 (c.in_err-part.ensures.damage other)))

pub returns-then-part-as_slice-clause-damage : goal.returns-then-part-as_slice-clause-damage
returns-then-part-as_slice-clause-damage c not_memory =
    let C : Pool = c.chain.inside.tested in
    let here : C ≡ c.args.chain = cc in
    let D : Pool = c.pool-pool.result.now in
    let p : Part = part_seen D.bits c.in_ok-part.part in
    subst (λ (P : Pool). more_damage P c.args.bytes.now ≡ Some Link) (c.pool-pool.ensures.same ∙ here)
    (more-link D c.args.bytes.now p c.in_ok-part.ensures.whole c.in_ok-part.ensures.part
    (λ e. c.if-part-as_slice.true (omega (arith, e, ap length c.as_slice.ensures, length-map c.as_slice.result.now row_form))))

pub returns-in_err-longer-clause-damage : goal.returns-in_err-longer-clause-damage
returns-in_err-longer-clause-damage c =
    let C : Pool = c.chain.inside.tested in
    let here : C ≡ c.args.chain = cc in
    let D : Pool = c.pool-pool.result.now in
    let p : Part = part_seen D.bits c.in_ok-part.part in
    let d = c.in_err-longer.field-0.0 in
    subst (λ (P : Pool). IfErr c.from_residual-in_err-longer.result (λ d. d ≢ Memory → more_damage P c.args.bytes.now ≡ Some d)) (c.pool-pool.ensures.same ∙ here)
    (handed-on c.from_residual-in_err-longer.result d (more_damage D c.args.bytes.now) c.from_residual-in_err-longer.ensures.1
    (λ other. more-found D c.args.bytes.now p c.in_ok-part.ensures.whole c.in_ok-part.ensures.part
    (omega (arith, c.if-part-as_slice.false, ap length c.as_slice.ensures, length-map c.as_slice.result.now row_form)) (Some d)
    (subst (λ (Q : Pool). open_damage present_rules (with_part Q p) ≡ Some d) (sym c.pool-pool.ensures.same) (c.in_err-longer.ensures.damage other))))

pub invariant_of-result : goal.invariant_of-result
invariant_of-result c =
    let C : Pool = c.chain.inside.tested in
    subst IsChain (sym c.in_ok-longer.ensures.same)
    (longer-chain C (part_seen C.bits c.in_ok-part.part) c.chain.invariant c.in_ok-part.ensures.history c.in_ok-part.ensures.roots c.in_ok-part.ensures.rows c.in_ok-longer.ensures.passed)

pub returns-clause-is_chain : goal.returns-clause-is_chain
returns-clause-is_chain c =
    let C : Pool = c.chain.inside.tested in
    subst IsChain (sym c.in_ok-longer.ensures.same)
    (longer-chain C (part_seen C.bits c.in_ok-part.part) c.chain.invariant c.in_ok-part.ensures.history c.in_ok-part.ensures.roots c.in_ok-part.ensures.rows c.in_ok-longer.ensures.passed)

pub returns-clause-chain : goal.returns-clause-chain
returns-clause-chain c =
    let C : Pool = c.chain.inside.tested in
    let here : C ≡ c.args.chain = cc in
    let D : Pool = c.pool-pool.result.now in
    let p : Part = part_seen D.bits c.in_ok-part.part in
    subst (λ (P : Pool). chain_with P c.args.bytes.now ≡ Some c.in_ok-longer.longer) (c.pool-pool.ensures.same ∙ here)
    (more-with D c.args.bytes.now p c.in_ok-part.ensures.whole c.in_ok-part.ensures.part ∙ ap (λ (Q : Pool). Some (with_part Q p)) c.pool-pool.ensures.same ∙ ap Some (sym c.in_ok-longer.ensures.same))

pub returns-clause-bits : goal.returns-clause-bits
returns-clause-bits c =
    let C : Pool = c.chain.inside.tested in
    let here : C ≡ c.args.chain = cc in
    ap (λ (P : Pool). P.bits) c.in_ok-longer.ensures.same ∙ ap (λ (P : Pool). P.bits) here

pub returns-clause-whole : goal.returns-clause-whole
returns-clause-whole c =
    let C : Pool = c.chain.inside.tested in
    let here : C ≡ c.args.chain = cc in
    let D : Pool = c.pool-pool.result.now in
    let p : Part = part_seen D.bits c.in_ok-part.part in
    subst (λ (P : Pool). more_damage P c.args.bytes.now ≡ None) (c.pool-pool.ensures.same ∙ here)
    (more-found D c.args.bytes.now p c.in_ok-part.ensures.whole c.in_ok-part.ensures.part
    (omega (arith, c.if-part-as_slice.false, ap length c.as_slice.ensures, length-map c.as_slice.result.now row_form)) None
    (subst (λ (Q : Pool). open_damage present_rules (with_part Q p) ≡ None) (sym c.pool-pool.ensures.same) c.in_ok-longer.ensures.passed))
