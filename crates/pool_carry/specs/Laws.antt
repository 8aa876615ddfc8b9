-- Laws of carried pools, by whatever rules.
use Rattle.std.specs.Prelude.{◌≡◌, ℕ, ◌+◌, ◌*◌, ◌≤◌}
use Rattle.pool_text.specs.Rules.{Rules}
use Rattle.pool_text.specs.declared.pool.Pool.{Pool}
use Rattle.pool_text.specs.declared.rules.TheConstants.{MOST_HISTORY}
use Rattle.pool_check.specs.Damages.{IsValidBy}
use Rattle.plain_space.specs.Workspace.{Workspace}
use Rattle.state_rows.specs.Standing.{StandsForBy}
use Rattle.pool_carry.specs.Carried.{IsCarried}
use Rattle.pool_carry.specs.Computed.{carried}
use Rattle.pool_carry.specs.Named.{KeepsIdentities, IsKept}

-- all code bits are kept in the digits
abbrev pub HasDigits : Rules → ℕ → Type 0
HasDigits rules bits = bits ≤ 5 * (rules.deepest + 1)

-- there is a carried pool of each valid pool
abbrev pub PoolsAreCarried : Type 0
PoolsAreCarried = (from to : Rules) (bits : ℕ) (P : Pool) → IsValidBy from P → IsCarried to bits P (carried to bits P)

-- and no other
abbrev pub CarriedIsOne : Type 0
CarriedIsOne = (from to : Rules) (bits : ℕ) (P Q R : Pool) → IsValidBy from P → IsCarried to bits P Q → IsCarried to bits P R → Q ≡ R

-- it stands for the workspace that the pool stands for, where undo may keep as many states as it can, as in each document that says
-- no history
abbrev pub CarriedStands : Type 0
CarriedStands = (from to : Rules) (bits : ℕ) (P Q : Pool) (W : Workspace) → IsValidBy from P → P.history ≡ MOST_HISTORY → IsCarried to bits P Q → StandsForBy from P W
    → StandsForBy to Q W

-- it is valid
abbrev pub CarriedIsValid : Type 0
CarriedIsValid = (from to : Rules) (bits : ℕ) (P Q : Pool) → HasDigits to bits → IsValidBy from P → IsCarried to bits P Q → IsValidBy to Q

-- and it keeps all named places apart or one, as they were
abbrev pub CarriedKeepsIdentities : Type 0
CarriedKeepsIdentities = (from to : Rules) (bits : ℕ) (P Q : Pool) → IsValidBy from P → IsCarried to bits P Q → KeepsIdentities P Q

-- in one: it keeps the workspace and the identities of the pool
abbrev pub CarriedIsKept : Type 0
CarriedIsKept = (from to : Rules) (bits : ℕ) (P Q : Pool) → IsValidBy from P → P.history ≡ MOST_HISTORY → IsCarried to bits P Q → IsKept from to P Q
