-- How a reader's fields are seen, and what is true of each reader.
use Rattle.std.specs.Prelude.{◌≡◌, ◌+◌, ◌-◌, ◌<◌, ◌≤◌, ◌^◌, true, false, length, None, Some, if◌then◌else◌}
use Rattle.elem_core.specs.declared.TheConstants.{MAX_LINE}
use Rattle.shell_io.specs.declared.reader.Next.TheVariants.{End, Budget}
use Rattle.shell_io.specs.declared.reader.LineReader.TheInside.{Inside}
use Rattle.shell_io.specs.Reader.{Reading, limit_of}

-- a reader's fields, as callers see them
abbrev pub reading_of : Inside → Reading
reading_of r = record {
  taken = r.given + r.let_go + length r.window.held;
  given = r.given;
  let_go = r.let_go;
  held = r.window.held;
  line = r.window.line;
  most = r.most;
  at_end = r.at_end;
  settled = if r.over then Some (if r.at_end then End else Budget) else None;
}

-- what is true of each reader's fields
pub record IsSound (r : Inside) : Type 0 where
  pub bounded : (reading_of r).taken ≤ limit_of r.most
  pub small : limit_of r.most ≤ 2 ^ 63
  -- what was given ended within the first `most` bytes
  pub in_time : r.given ≤ limit_of r.most - 1
  -- bytes are let go only where they are too many for a line
  pub too_long : 0 < r.let_go → MAX_LINE < r.let_go
  -- the source came to its end before the limit
  pub early_end : r.at_end ≡ true → (reading_of r).taken < limit_of r.most
  -- it answers that the bound was passed only where one byte more was taken
  pub used_up : r.over ≡ true → r.at_end ≡ false → (reading_of r).taken ≡ limit_of r.most
  pub begun : r.over ≡ true → 0 < limit_of r.most
