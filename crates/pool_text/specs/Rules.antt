-- What tells the versions of a document apart: the codes of texts, how deep tries go, and how many bits are kept.
use Rattle.std.specs.Prelude.{ℕ, min, ◌==◌, ◌||◌, Option, Some, None, if◌then◌else◌}
use Rattle.elem_core.specs.Codes.{text_code, old_text_code}
use Rattle.elem_core.specs.declared.codes.TheConstants.{DEEPEST}
use Rattle.pool_text.specs.Rows.{Bytes}
use Rattle.pool_text.specs.declared.rules.TheConstants.{FIRST_VERSION, SECOND_VERSION, PRESENT_VERSION, FIRST_CODE_BITS, FIRST_DEEPEST}
use Rattle.pool_text.specs.declared.rules.Rules.{Rules as RulesByName}
use Rattle.pool_text.specs.declared.rules.Rules.TheVariants.{First, Second}

-- the code of a text, and the depth of its last digit, below which chains stand
pub record Rules : Type 0 where
  pub code_of : Bytes → ℕ
  pub deepest : ℕ

-- the rules of the first version: shorter codes
abbrev pub first_rules : Rules
first_rules = record { code_of = old_text_code; deepest = FIRST_DEEPEST }

-- the rules of the second version and of the third: the codes of elements
abbrev pub second_rules : Rules
second_rules = record { code_of = text_code; deepest = DEEPEST }

-- the rules by which pools are made
abbrev pub present_rules : Rules
present_rules = second_rules

-- the rules of each version that is read
abbrev pub rules_of : ℕ → Option Rules
rules_of version = if version == FIRST_VERSION then Some first_rules else if version == SECOND_VERSION || version == PRESENT_VERSION then Some second_rules else None

-- how many bits a document of this version keeps in a space of so many
abbrev pub bits_by : ℕ → ℕ → ℕ
bits_by version bits = if version == FIRST_VERSION then min FIRST_CODE_BITS bits else bits

-- the rules that the code names
abbrev pub rules_named : RulesByName → Rules
rules_named First = first_rules
rules_named Second = second_rules
