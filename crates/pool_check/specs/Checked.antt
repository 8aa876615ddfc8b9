-- Pools that `check`, `check_roots` and `check_old` let through.
use Rattle.std.specs.Prelude.{◌≡◌, ◌≤◌, length, Some}
use Rattle.elem_core.specs.declared.codes.TheConstants.{CODE_BITS}
use Rattle.pool_text.specs.declared.pool.Pool.{Pool}
use Rattle.pool_text.specs.Rules.{first_rules, present_rules, rules_of}
use Rattle.pool_text.specs.Document.{HistoryFitsVersion}
use Rattle.pool_text.specs.declared.rules.TheConstants.{FIRST_VERSION, FIRST_CODE_BITS}
use Rattle.pool_check.specs.Damages.{IsValid, IsValidBy, HasValidRows}

-- a valid pool of four roots and of a version with today's rules, by no more bits than a code has. One of the second version, which
-- says no history, has the greatest.
pub record IsChecked (P : Pool) : Type 0 where
  pub rules : rules_of P.version ≡ Some present_rules
  pub history : HistoryFitsVersion P
  pub bits : P.bits ≤ CODE_BITS
  pub roots : length P.roots ≡ 4
  pub valid : IsValid P

-- one of a version with today's rules, by no more bits than a code has, with valid rows, whatever its roots are
pub record HasCheckedRows (P : Pool) : Type 0 where
  pub rules : rules_of P.version ≡ Some present_rules
  pub bits : P.bits ≤ CODE_BITS
  pub rows : HasValidRows present_rules P

-- one of the first version: valid by its rules, by no more bits than its codes had
pub record IsOld (P : Pool) : Type 0 where
  pub version : P.version ≡ FIRST_VERSION
  pub bits : P.bits ≤ FIRST_CODE_BITS
  pub roots : length P.roots ≡ 4
  pub valid : IsValidBy first_rules P
