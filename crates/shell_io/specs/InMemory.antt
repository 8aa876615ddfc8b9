-- The devices over memory, as callers see them, and what each of their calls does.
use Rattle.std.specs.Prelude.{map, refl, ◌≡◌, ℕ, ◌+◌, ◌-◌, ◌<◌, min, List, ◌++◌, length, drop, Contains, ◌⊎◌}
use Rattle.std.specs.Ordering.{nat_cmp}
use Rattle.std.specs.Cmp.Lexicographic.{slice_cmp}
use Rattle.std.specs.FinMap.{FinMap, from_entries, insert, code}
use Rattle.std.specs.Coded.{Coded, code_by, coded×, coded_ℕ, coded_list}
use Rattle.std.specs.String.{string_bytes}
use Rattle.std.specs.declared.string.String.{String}
use Rattle.std.specs.declared.vec.Vec.{Vec}
use Rattle.std.specs.declared.result.Result.{Result}
use Rattle.std.specs.declared.result.Result.TheVariants.{Ok, Err}
use Rattle.shell_io.specs.Fault.{last_count, one_more}
use Rattle.shell_io.specs.declared.device.FetchFault.{FetchFault}
use Rattle.shell_io.specs.declared.device.FetchFault.TheVariants as fetch
use Rattle.shell_io.specs.declared.device.KeepFault.{KeepFault}
use Rattle.shell_io.specs.declared.device.KeepFault.TheVariants as keep

-- files: a finite map from the bytes of their names to their bytes
abbrev pub Files : Type 0
Files = FinMap (slice_cmp nat_cmp) (List ℕ)

-- the files of the entries of a map from texts to bytes
abbrev pub files_of : {A B : Type 0} → List (String A × Vec ℕ B) → Files
files_of entries = from_entries (map (λ e. (string_bytes e.0, e.1.items)) entries)

-- a source over memory, as callers see it
pub record SourceState : Type 0 where
  -- the bytes still to come
  pub left : List ℕ
  -- the most bytes that one call gives
  pub piece : ℕ
  -- the numbers of the calls that fail
  pub fails : List ℕ
  -- the number of the next call, from 0
  pub call : ℕ
  -- how many calls have failed
  pub faults : ℕ

-- a sink over memory, as callers see it
pub record SinkState : Type 0 where
  pub written : List ℕ
  -- how many bytes more it has room for
  pub room : ℕ
  -- the most bytes that one call accepts
  pub piece : ℕ
  -- the numbers of the calls that fail
  pub fails : List ℕ
  -- the number of the next call, from 0
  pub call : ℕ
  -- how many calls have failed
  pub faults : ℕ

-- a store over memory, as callers see it
pub record StoreState : Type 0 where
  pub held : Files
  -- the numbers of the fetches, and of the keeps, that fail
  pub fetch_fails : List ℕ
  pub keep_fails : List ℕ
  -- the number of the next fetch, and of the next keep, from 0
  pub fetch_call : ℕ
  pub keep_call : ℕ
  -- how many calls have failed
  pub faults : ℕ

-- a store is stored as the tuple of its fields
abbrev pub store_code : Coded StoreState
store_code =
    code_by (Files × (List ℕ × (List ℕ × (ℕ × (ℕ × ℕ)))))
    (coded× (code (coded_list coded_ℕ) (coded_list coded_ℕ)) (coded× (coded_list coded_ℕ) (coded× (coded_list coded_ℕ) (coded× coded_ℕ (coded× coded_ℕ coded_ℕ)))))
    (λ s. (s.held, (s.fetch_fails, (s.keep_fails, (s.fetch_call, (s.keep_call, s.faults))))))
    (λ p. record {
      held = p.0;
      fetch_fails = p.1.0;
      keep_fails = p.1.1.0;
      fetch_call = p.1.1.1.0;
      keep_call = p.1.1.1.1.0;
      faults = p.1.1.1.1.1;
    }) (λ _. refl)

-- the number of the call after this one; it stays at its last value
abbrev pub next_call : ℕ → ℕ
next_call call = min (call + 1) last_count

-- a call that fails changes nothing but its number and the count of faults
abbrev pub source_after_fault : SourceState → SourceState
source_after_fault s = record s { call = next_call s.call; faults = one_more s.faults }

-- a call that gives n bytes
abbrev pub source_after : SourceState → ℕ → SourceState
source_after s n = record s { left = drop n s.left; call = next_call s.call }

-- how many bytes a call gives to a buffer of this length
abbrev pub given_by : SourceState → ℕ → ℕ
given_by s room = min room (min s.piece (length s.left))

-- a push of this piece fails: its number is listed, or it has bytes and none of them has room
abbrev pub RefusesPush : SinkState → List ℕ → Type 0
RefusesPush s piece = Contains s.fails s.call ⊎ ((0 < length piece) × (s.room ≡ 0))

-- a call that fails changes nothing but its number and the count of faults
abbrev pub sink_after_fault : SinkState → SinkState
sink_after_fault s = record s { call = next_call s.call; faults = one_more s.faults }

-- a call that writes these bytes
abbrev pub sink_after : SinkState → List ℕ → SinkState
sink_after s bytes = record s {
  written = s.written ++ bytes;
  room = s.room - length bytes;
  call = next_call s.call;
}

-- a fetch changes nothing but its number, and the count of faults where it fails
abbrev pub store_after_fetch : {A : Type 0} → StoreState → Result A FetchFault → StoreState
store_after_fetch s (Err fetch.Failed) = record s { fetch_call = next_call s.fetch_call; faults = one_more s.faults }
store_after_fetch s _ = record s { fetch_call = next_call s.fetch_call }

-- a keep of these bytes under this name: where it is refused, the files are as they were
abbrev pub store_after_keep : {A : Type 0} → StoreState → List ℕ → List ℕ → Result A KeepFault → StoreState
store_after_keep s name bytes (Ok _) = record s { held = insert s.held name bytes; keep_call = next_call s.keep_call }
store_after_keep s name bytes (Err keep.Failed) = record s { keep_call = next_call s.keep_call; faults = one_more s.faults }
store_after_keep s name bytes (Err keep.Memory) = record s { keep_call = next_call s.keep_call }

-- how many bytes of a piece of this length a call accepts
abbrev pub accepted_by : SinkState → ℕ → ℕ
accepted_by s length_of = min length_of (min s.piece s.room)
