-- What bytes without damage stand for.
use Rattle.std.specs.Prelude.{◌≡◌, ℕ, ◌≤◌, List, Some, None}
use Rattle.elem_core.specs.declared.codes.TheConstants.{CODE_BITS}
use Rattle.pool_text.specs.Rules.{first_rules, present_rules}
use Rattle.pool_text.specs.Document.{pool_in_bytes}
use Rattle.pool_text.specs.declared.pool.Pool.{Pool}
use Rattle.pool_text.specs.declared.rules.TheConstants.{FIRST_VERSION}
use Rattle.pool_check.specs.Damages.{document_damage, IsValid}
use Rattle.pool_carry.specs.Named.{IsKept}
use Rattle.ewig_shell.specs.Step.{DocumentStandsFor}

-- In a space of so many bits the bytes stand for one pool.
pub record StandsForOne (bits : ℕ) (bytes : List ℕ) : Type 0 where
  -- this one
  pub pool : Pool
  pub stands : DocumentStandsFor bits bytes pool
  -- which is valid by the rules of today
  pub valid : IsValid pool
  -- and goes by the bits of the space
  pub same_bits : pool.bits ≡ bits
  -- and no other
  pub alone : (other : Pool) → DocumentStandsFor bits bytes other → other ≡ pool

-- Bytes that fail no test stand for one pool.
abbrev pub DocumentsStand : Type 0
DocumentsStand = (bits : ℕ) (bytes : List ℕ) → bits ≤ CODE_BITS → document_damage bits bytes ≡ None → StandsForOne bits bytes

-- What those of the first version stand for keeps the workspace and the identities of the pool of their rows.
abbrev pub OldDocumentsAreKept : Type 0
OldDocumentsAreKept =
    (bits : ℕ) (bytes : List ℕ) (P Q : Pool) → document_damage bits bytes ≡ None
    → pool_in_bytes bytes ≡ Some P → P.version ≡ FIRST_VERSION → DocumentStandsFor bits bytes Q → IsKept first_rules present_rules P Q
