use Rattle.std.proofs.Common.{◌≡◌, ℕ, ap, sym, subst, arith, [], ◌∷◌, length}
use Rattle.std.specs.Prelude.{slice_get, IfSome}
use Rattle.std.proofs.lemmas.List.{length-append}
use Rattle.pool_carry.proofs.Parts.{holds-end, holds-none}
use Rattle.pool_carry.proofs.tries.empty_parts.Goals as goal

pub loop-position-init : goal.loop-position-init
loop-position-init c = (ap length c.in_ok-parts.ensures.items, holds-none c.in_ok-parts.parts.items (λ part. part.items ≡ []) c.in_ok-parts.ensures.items)

pub loop-position-preserved : goal.loop-position-preserved
loop-position-preserved c = (
  omega (arith, ap length c.in_ok-push.ensures.items, length-append c.loop-position.parts.items (c.new.result ∷ []), c.loop-position.invariant.0),
  subst (λ xs. (p : ℕ) → IfSome (slice_get xs p) (λ part. part.items ≡ [])) (sym c.in_ok-push.ensures.items) (holds-end c.loop-position.parts.items (λ part. part.items ≡ []) c.new.result c.new.ensures.items c.loop-position.invariant.1),
)
