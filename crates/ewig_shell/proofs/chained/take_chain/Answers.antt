-- What the space takes is the pool that the chain stands for.
use Rattle.std.proofs.Common.{◌≡◌, ◌∙◌, refl, ap, subst, sym, inl, arith, Bool, true, false, Ok}
use Rattle.std.specs.Prelude.{MatchBool}
use Rattle.plain_space.specs.Workspace.{in_batch}
use Rattle.pool_text.specs.Pool.{row_count, pool, at_present_version}
use Rattle.pool_text.specs.declared.pool.Pool.{Pool}
use Rattle.pool_check.specs.Damages.{IsValid}
use Rattle.pool_delta.specs.Chains.{chain_pool}
use Rattle.pool_delta.proofs.ChainCode.{of-chain}
use Rattle.space_state.specs.View.{SpaceView, TakesPool, IsTaken}
use Rattle.ewig_shell.proofs.chained.take_chain.Goals as goal

in-else : {X Y : Type 0} (b : Bool) → (X → ⊥) → MatchBool b X Y → Y
in-else true none is = absurd (none is)
in-else false none is = is

taken-done : (P : Pool) (old new : SpaceView) → TakesPool P old (Ok (tt {0})) new → IsTaken P old new
taken-done P old new takes = in-else (in_batch takes.work) (λ batch. (let bad = batch.0 in cc)) takes.ends

present : (Q : Pool) → at_present_version (chain_pool Q) ≡ chain_pool Q
unfolding pool
present Q = refl

pub returns-in-Ok : goal.returns-in-Ok
returns-in-Ok c =
    let Q = c.args.chain in
    let P = c.in_ok-chain_checked.field-0 in
    let new = c.take_pool.new.self in
    let made = of-chain Q c.requires.is_chain in
    let value : P ≡ chain_pool Q = c.in_ok-chain_checked.ensures.value in
    let taken = taken-done P c.args.space.now new c.in-Ok.ensures in
    let is : new.pool ≡ chain_pool Q = taken.pool ∙ ap at_present_version value ∙ present Q in
    let count : row_count P ≡ row_count new.pool = ap row_count value ∙ sym (ap row_count is) in
    inl (record {
      reply_is = refl;
      pool = is;
      valid = subst IsValid (sym is) made.valid;
      bits = ap (λ (R : Pool). R.bits) is ∙ made.bits ∙ c.requires.bits;
      made = omega (arith, taken.made, count);
    })
