-- How much room a pull offers, and how much may be taken behind it.
use Rattle.std.specs.Prelude.{ℕ, ◌-◌, ◌≤◌, ◌==◌, min, if◌then◌else◌}

-- where so many bytes may still be taken, room for at least 4,096 is offered, or for all of them, and never for more
pub record IsAmple (left offered : ℕ) : Type 0 where
  pub least : min 4096 left ≤ offered
  pub most : offered ≤ left

-- how many bytes may still be taken behind a pull that gave so many: none behind one that told the end of the input
abbrev pub left_after : ℕ → ℕ → ℕ
left_after left given = if given == 0 then 0 else left - given
