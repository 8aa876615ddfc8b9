-- Inside: a document as it is read.
use Rattle.std.specs.Prelude.{map}
use Rattle.serde_json.specs.View.{view}
use Rattle.versions_pool.specs.Saved.{Saved, SavedValues}
use Rattle.versions_pool.specs.declared.document.SavedStore.{SavedStore}
use Rattle.versions_pool.specs.declared.document.Said.{Said}

-- what was read
abbrev pub saved_seen : SavedStore → Saved
saved_seen s = record { names = s.names; roots = s.roots; rows = s.rows }

abbrev pub values_seen : Said → SavedValues
values_seen s = record { names = s.names; roots = s.roots; rows = map view s.rows.now; version = s.version }
