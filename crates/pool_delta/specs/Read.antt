-- Inside: a partial document as it is read.
use Rattle.std.specs.Prelude.{ℕ, map}
use Rattle.serde_json.specs.View.{view}
use Rattle.pool_delta.specs.Parts.{Part, PartValues}
use Rattle.pool_delta.specs.declared.part.ReadPart.{ReadPart}
use Rattle.pool_delta.specs.declared.part.Said.{Said}

-- what was read, of a document of so many bits
abbrev pub part_seen : ℕ → ReadPart → Part
part_seen bits p = record { after = p.after; bits = bits; history = p.history; roots = p.roots; rows = p.rows }

abbrev pub values_seen : Said → PartValues
values_seen p = record { after = p.after; bits = p.bits; history = p.history; roots = p.roots; rows = map view p.rows.now; version = p.version }
