-- What becomes of bytes that are sent to a sink.
use Rattle.std.specs.Prelude.{◌≡◌, ℕ, ◌-◌, ◌<◌, ◌≤◌, List, length, take, IsOk, IsErr, MatchResult}
use Rattle.std.specs.declared.option.Option.{Option}
use Rattle.std.specs.declared.result.Result.{Result}
use Rattle.std.specs.Io.KnownBytes.{Appends}
use Rattle.shell_io.specs.Fault.{CountsFaults}
use Rattle.shell_io.specs.declared.device.Failed.{Failed}

-- of the bytes, only the first were written, and not all
abbrev pub WritesPart : Option (List ℕ) → Option (List ℕ) → List ℕ → Type 0
WritesPart before now bytes = (count : ℕ) × (count < length bytes) × Appends before now (take count bytes)

-- all the bytes were written at Ok, and only a part of them at Failed
pub record Sends {K A : Type 0} (written : K → Option (List ℕ)) (faults : K → ℕ) (steady : K → Type 0)
    (has_room : K → ℕ → Type 0) (old new : K) (result : Result A Failed) (bytes : List ℕ) : Type 0 where
  pub writes : MatchResult result (λ _. Appends (written old) (written new) bytes)
      (λ _. WritesPart (written old) (written new) bytes)
  pub counts : CountsFaults faults steady old new (IsErr result)
  -- with room for the bytes there is no fault
  pub sure : (room : ℕ) → has_room old room → length bytes ≤ room →
      IsOk result × (faults new ≡ faults old) × has_room new (room - length bytes)
