-- A carried pool stands for the workspace of the pool that it was carried from, and is valid.
use Rattle.std.proofs.Common.{map, refl, sym, subst, ◌∙◌}
use Rattle.rrb_core.specs.Seq.{IsWellShaped}
use Rattle.pool_text.specs.Pool.{forms_in}
use Rattle.pool_text.specs.declared.pool.Pool.{Pool}
use Rattle.pool_text.specs.declared.rules.TheConstants.{MOST_HISTORY}
use Rattle.pool_check.specs.Damages.{IsValidBy}
use Rattle.state_rows.specs.Standing.{StandsForBy}
use Rattle.state_rows.proofs.PassesSpace.{by-any-bound, undo-short}
use Rattle.state_rows.proofs.ValidSpace.{valid-stands}
use Rattle.pool_carry.specs.Laws.{CarriedStands, CarriedIsValid}
use Rattle.pool_carry.proofs.MadeSpace.{made-stands, made-valid}
use Rattle.pool_carry.proofs.ImagesStand.{images-stand}

pub carried-stands : CarriedStands
carried-stands from to bits P Q space valid most_kept carried stands =
    subst (λ (R : Pool). StandsForBy to R space) (sym carried.same)
    (made-stands to bits MOST_HISTORY carried.many carried.forms (map carried.image P.roots) carried.rooted space (stands.1 ∙ most_kept)
    (images-stand from to bits P valid carried.image carried.forms carried.images P.roots space stands.0))

pub carried-valid : CarriedIsValid
carried-valid from to bits P Q few valid carried =
    let workspace = valid-stands P valid in
    subst (λ (R : Pool). IsValidBy to R) (sym carried.same)
    (made-valid to bits MOST_HISTORY carried.many carried.forms (map carried.image P.roots) carried.rooted (record workspace.0 { history = MOST_HISTORY }) refl
    (images-stand from to bits P valid carried.image carried.forms carried.images P.roots (record workspace.0 { history = MOST_HISTORY })
    (by-any-bound from (forms_in P) (IsWellShaped (forms_in P)) P.bits MOST_HISTORY P.roots workspace.0 workspace.1.0)) few
    (undo-short from (forms_in P) P.bits P.roots workspace.0 workspace.1.0))
