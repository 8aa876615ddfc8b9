-- Refusals, one after another: each word goes on to the next test, or refuses.
use Rattle.std.specs.Prelude.{ℕ, ◌+◌, ◌-◌, Bool, true, false, ◌&&◌, nat_le, List, Option, None, Some, length, take, slice_get, Result, Err}
use Rattle.elem_core.specs.declared.TheConstants.{MAX_LINE}
use Rattle.plain_space.specs.declared.TheConstants.{MOST_PARTS, MOST_SPACES}
use Rattle.plain_space.specs.declared.refusal.Refusal.{Refusal}
use Rattle.plain_space.specs.declared.refusal.Refusal.TheVariants.{Absent, Range, Limit, Batch, Empty}
use Rattle.shell_terms.specs.Edit.{Bytes}
use Rattle.plain_space.specs.Workspace.{State, Workspace, most, lines_of, in_batch}

-- Refused for this reason where the test fails.
abbrev pub needs : {X : Type 0} → Bool → Refusal → Result X Refusal → Result X Refusal
needs true reason next = next
needs false reason next = Err reason

-- Refused for this reason where the test holds.
abbrev pub unless : {X : Type 0} → Bool → Refusal → Result X Refusal → Result X Refusal
unless true reason next = Err reason
unless false reason next = next

-- Goes on with what is there; refused for this reason where there is nothing.
abbrev pub given : {X Y : Type 0} → Option X → Refusal → (X → Result Y Refusal) → Result Y Refusal
given None reason next = Err reason
given (Some x) reason next = next x

-- Goes on with the lines of the buffer; Absent where there is no such buffer.
abbrev pub on_lines : {X : Type 0} → State → Bytes → (List Bytes → Result X Refusal) → Result X Refusal
on_lines state name next = given (lines_of state name) Absent next

-- Goes on where the lines have a range from the one index to the other; else Range.
abbrev pub on_range : {X : Type 0} → ℕ → ℕ → List Bytes → Result X Refusal → Result X Refusal
on_range from to lines next = needs (nat_le from to && nat_le to (length lines)) Range next

-- Goes on where a partial document may have this number in its chain: 1 to the most; else Range.
abbrev pub on_number : {X : Type 0} → ℕ → Result X Refusal → Result X Refusal
on_number number next = needs (nat_le 1 number && nat_le number MOST_PARTS) Range next

-- Goes on where lines may be moved by so many spaces; else Range.
abbrev pub on_count : {X : Type 0} → ℕ → Result X Refusal → Result X Refusal
on_count count next = needs (nat_le count MOST_SPACES) Range next

-- Whether a line is a line with so many bytes more.
abbrev pub has_room_for : ℕ → Bytes → Bool
has_room_for count line = nat_le (length line + count) MAX_LINE

-- Goes on where so many lines, or states, may be in one list; else Limit.
abbrev pub room : {X : Type 0} → ℕ → Result X Refusal → Result X Refusal
room count next = needs (nat_le count most) Limit next

-- Goes on with the last state and those before it; Empty where there is none.
abbrev pub on_last : {X : Type 0} → List State → (State → List State → Result X Refusal) → Result X Refusal
on_last states next =
    given (slice_get states (length states - 1)) Empty (λ last. next last (take (length states - 1) states))

-- Goes on outside a batch; else Batch.
abbrev pub outside_batch : {X : Type 0} → Workspace → Result X Refusal → Result X Refusal
outside_batch work next = unless (in_batch work) Batch next

-- Goes on with the base of the open batch; Batch where none is open.
abbrev pub on_base : {X : Type 0} → Workspace → (State → Result X Refusal) → Result X Refusal
on_base work next = given work.base Batch next
