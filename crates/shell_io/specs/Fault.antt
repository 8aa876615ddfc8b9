-- When a device may answer a fault, and how its faults are counted.
use Rattle.std.specs.Prelude.{◌≡◌, ℕ, ◌-◌, ◌^◌, ◌<◌, ◌≤◌, min, ◌+◌}

-- the last value of a device's count of faults, at which it stays
abbrev pub last_count : ℕ
last_count = 2 ^ 64 - 1

-- a fault has its cause: the count of faults rose in this call, or stands at its last value
abbrev pub HasCause : ℕ → ℕ → Type 0
HasCause old new = old < last_count → old < new

-- the count after one fault more
abbrev pub one_more : ℕ → ℕ
one_more faults = min (faults + 1) last_count

-- a call of a device, which failed or didn't: the count never falls, and a failure has its cause
pub record CountsFaults {S : Type 0} (faults : S → ℕ) (steady : S → Type 0) (old new : S) (failed : Type 0) : Type 0 where
  pub counted : faults old ≤ faults new
  pub cause : failed → HasCause (faults old) (faults new)
  -- a steady device stays so, and shows no fault of a call that didn't fail
  pub told : steady old → steady new × (¬ failed → faults new ≡ faults old)

-- a call of a source or a store, which failed or didn't
pub record Calls {S : Type 0} (faults : S → ℕ) (steady faultless : S → Type 0) (old new : S) (failed : Type 0) : Type 0 where
  pub counts : CountsFaults faults steady old new failed
  -- a device that can't fail stays so, and the call didn't fail
  pub sure : faultless old → faultless new × (faults new ≡ faults old) × ¬ failed
