-- A pool that stands for a workspace has four roots exactly outside a batch.
use Rattle.std.proofs.Common.{◌≡◌, ℕ, true, false, List, [], ◌∷◌, Option, Some, None, length, refl, ap, arith}
use Rattle.std.specs.Prelude.{is_some}
use Rattle.node_heap.specs.Forms.{Forms}
use Rattle.rrb_core.specs.Seq.{IsWellShaped}
use Rattle.pool_text.specs.Pool.{forms_in}
use Rattle.pool_text.specs.declared.pool.Pool.{Pool}
use Rattle.shell_terms.specs.Edit.{Bytes}
use Rattle.plain_space.specs.Workspace.{State, Workspace, in_batch}
use Rattle.state_rows.specs.Reading.{IsState}
use Rattle.state_rows.specs.Standing.{IsBase, StandFor, StandsFor}

no-base : (IsIt : ℕ → State → Type 0) (links : List ℕ) (base : Option State) → is_some base ≡ false → IsBase IsIt links base → links ≡ []
no-base IsIt [] base outside is = refl
no-base IsIt (l ∷ []) None outside is = absurd is
no-base IsIt (l ∷ []) (Some now) outside is = absurd (let never : true ≡ false = outside in cc)
no-base IsIt (l ∷ m ∷ ls) None outside is = absurd is
no-base IsIt (l ∷ m ∷ ls) (Some now) outside is = absurd is

four-stand : (F : Forms Bytes) (IsVector : ℕ → Type 0) (bits : ℕ) (roots : List ℕ) (W : Workspace) → StandFor F IsVector bits roots W → in_batch W ≡ false → length roots ≡ 4
four-stand F IsVector bits [] W stand outside = absurd stand
four-stand F IsVector bits (c ∷ []) W stand outside = absurd stand
four-stand F IsVector bits (c ∷ v ∷ []) W stand outside = absurd stand
four-stand F IsVector bits (c ∷ v ∷ u ∷ []) W stand outside = absurd stand
four-stand F IsVector bits (c ∷ v ∷ u ∷ r ∷ base) W stand outside =
    ap (λ ls. length (c ∷ v ∷ u ∷ r ∷ ls)) (no-base (IsState F IsVector bits) base W.base outside stand.4)

pub four-roots : (P : Pool) (W : Workspace) → StandsFor P W → in_batch W ≡ false → length P.roots ≡ 4
four-roots P W stands outside = four-stand (forms_in P) (IsWellShaped (forms_in P)) P.bits P.roots W stands.0 outside

based : (IsIt : ℕ → State → Type 0) (base : Option State) → IsBase IsIt [] base → is_some base ≡ false
based IsIt None is = refl
based IsIt (Some now) is = absurd is

four-outside : (F : Forms Bytes) (IsVector : ℕ → Type 0) (bits : ℕ) (roots : List ℕ) (W : Workspace) → StandFor F IsVector bits roots W → length roots ≡ 4 → in_batch W ≡ false
four-outside F IsVector bits [] W stand four = absurd stand
four-outside F IsVector bits (c ∷ []) W stand four = absurd stand
four-outside F IsVector bits (c ∷ v ∷ []) W stand four = absurd stand
four-outside F IsVector bits (c ∷ v ∷ u ∷ []) W stand four = absurd stand
four-outside F IsVector bits (c ∷ v ∷ u ∷ r ∷ []) W stand four = based (IsState F IsVector bits) W.base stand.4
four-outside F IsVector bits (c ∷ v ∷ u ∷ r ∷ l ∷ ls) W stand four = absurd (omega (arith, four))

pub outside-batch : (P : Pool) (W : Workspace) → StandsFor P W → length P.roots ≡ 4 → in_batch W ≡ false
outside-batch P W stands four = four-outside (forms_in P) (IsWellShaped (forms_in P)) P.bits P.roots W stands.0 four
