-- What a link that is there stands for.
use Rattle.std.proofs.Common.{◌≡◌, ℕ, Option, Some, None, subst}
use Rattle.std.specs.Prelude.{IsSomeAnd}
use Rattle.state_rows.specs.Reading.{StandsIfThere}

pub stands-there : {X : Type 0} (Is : ℕ → X → Type 0) (found : Option ℕ) (o : Option X) (l : ℕ) → found ≡ Some l → StandsIfThere Is found o → IsSomeAnd o (Is l)
stands-there Is None o l is stands = absurd (let h = is in cc)
stands-there Is (Some k) None l is stands = absurd stands
stands-there Is (Some k) (Some x) l is stands = let same : k ≡ l = cc in subst (λ j. Is j x) same stands
