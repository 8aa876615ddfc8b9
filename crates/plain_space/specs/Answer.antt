-- What a command answers on a plain workspace, row by row of the tables of commands.
use Rattle.std.specs.Prelude.{ℕ, ◌+◌, Bool, true, false, List, [], ◌∷◌, ◌++◌, Some, None, is_some, length, map as each, slice_get, slice_range, Result, Ok, Err}
use Rattle.std.specs.Fmt.{decimal}
use lib.Chars.{codes}
use Rattle.std.specs.FinMap as map
use Rattle.plain_space.specs.declared.refusal.Refusal.{Refusal}
use Rattle.plain_space.specs.declared.refusal.Refusal.TheVariants.{Absent, Exists, Range, Limit}
use Rattle.shell_terms.specs.Edit.{Bytes}
use Rattle.shell_terms.specs.Command.{PlainCommand, edit, merge, mark, unmark, back, undo, redo, begin, «end», abort, history, get, len, show, list, stars, marks, same, eqv, stats, made, read, write, save, load, part, chain, indent, dedent, quit}
use Rattle.plain_space.specs.Workspace.{State, Workspace, sizes, same_texts, same_state, merged_with, all_lines_pass, version_of, undo_with, last_of, with_current}
use Rattle.plain_space.specs.Refusing.{needs, unless, given, on_lines, on_range, on_number, on_count, has_room_for, room, on_last, outside_batch, on_base}
use Rattle.plain_space.specs.Edited.{edited}

-- What a command comes to that nothing in the workspace refuses: its reply lines, and the workspace afterwards; or what the
-- space or the store has to say, and not the workspace.
pub data Told : Type 0 where
  tells : (reply : List Bytes) (after : Workspace) → Told
  elsewhere : Told

-- An answer: what the command comes to, or the first refusal that holds, which changes nothing.
abbrev pub Answer : Type 0
Answer = Result Told Refusal

-- The reply line of a command that was carried out.
abbrev pub ok_line : Bytes
ok_line = codes "ok"

-- The reply line that shows a text.
abbrev pub text_line : Bytes → Bytes
text_line text = codes "= " ++ text

-- The reply line that shows a number.
abbrev pub number_line : ℕ → Bytes
number_line number = codes "= " ++ decimal number

-- The reply line that shows a name and a number.
abbrev pub size_line : Bytes × ℕ → Bytes
size_line size = codes "= " ++ size.0 ++ codes " " ++ decimal size.1

-- The reply line to a question of equality.
abbrev pub equal_line : Bool → Bytes
equal_line true = codes "= yes"
equal_line false = codes "= no"

-- A command was carried out and left this workspace.
abbrev pub done : Workspace → Answer
done after = Ok (tells (ok_line ∷ []) after)

-- A question: its reply lines, and the workspace as it was.
abbrev pub asked : Workspace → Result (List Bytes) Refusal → Answer
asked work (Ok reply) = Ok (tells reply work)
asked work (Err reason) = Err reason

-- An edit: another current state.
abbrev pub becomes : Workspace → Result State Refusal → Answer
becomes work (Ok next) = done (with_current work next)
becomes work (Err reason) = Err reason

-- The answer of each command: the first refusal that holds, else its reply and the workspace afterwards.
unfoldable pub answer : Workspace → PlainCommand → Answer
answer work (edit change) = becomes work (edited work.current change)
answer work (merge kind version) =
    given (version_of work version) Absent (λ state. becomes work (Ok (merged_with kind work.current state)))
answer work (mark version) = outside_batch work (
    unless (is_some (version_of work version)) Exists (
    done (record work { versions = map.insert work.versions version work.current })))
answer work (unmark version) = outside_batch work (
    given (version_of work version) Absent (λ state.
    done (record work { versions = map.remove work.versions version })))
answer work (back version) = outside_batch work (
    given (version_of work version) Absent (λ state. becomes work (Ok state)))
answer work undo = outside_batch work (
    on_last work.undo (λ last before.
    room (length work.redo + 1) (
    done (record work { current = last; undo = before; redo = work.redo ++ work.current ∷ [] }))))
answer work redo = outside_batch work (
    on_last work.redo (λ last before.
    done (record work { current = last; undo = undo_with work work.current; redo = before })))
answer work begin = outside_batch work (done (record work { base = Some work.current }))
answer work end = on_base work (λ base. done (record work { undo = undo_with work base; redo = []; base = None }))
answer work abort = on_base work (λ base. done (record work { current = base; base = None }))
answer work (history count) = outside_batch work (done (record work { undo = last_of count work.undo; history = count }))
answer work (get name index) = asked work (
    on_lines work.current name (λ lines.
    given (slice_get lines index) Range (λ line. Ok (text_line line ∷ []))))
answer work (len name) = asked work (
    on_lines work.current name (λ lines. Ok (number_line (length lines) ∷ [])))
answer work (show name from to) = asked work (
    on_lines work.current name (λ lines.
    on_range from to lines (Ok (each text_line (slice_range lines from to) ++ ok_line ∷ []))))
answer work list = asked work (Ok (each size_line (sizes work.current) ++ ok_line ∷ []))
answer work stars = asked work (Ok (each text_line (map.keys work.current.stars) ++ ok_line ∷ []))
answer work marks = asked work (Ok (each text_line (map.keys work.versions) ++ ok_line ∷ []))
answer work (same name other) = asked work (
    on_lines work.current name (λ lines.
    on_lines work.current other (λ others. Ok (equal_line (same_texts lines others) ∷ []))))
answer work (eqv version other) = asked work (
    given (version_of work version) Absent (λ state.
    given (version_of work other) Absent (λ others. Ok (equal_line (same_state state others) ∷ []))))
answer work stats = Ok elsewhere
answer work made = Ok elsewhere
answer work (read name file) = Ok elsewhere
answer work (write name file) = on_lines work.current name (λ lines. Ok elsewhere)
answer work (save file) = outside_batch work (Ok elsewhere)
answer work (load file) = outside_batch work (Ok elsewhere)
answer work (part file number) = outside_batch work (on_number number (Ok elsewhere))
answer work (chain file number) = outside_batch work (on_number number (Ok elsewhere))
answer work (indent count file) = outside_batch work (
    on_count count (
    needs (all_lines_pass (has_room_for count) work) Limit (Ok elsewhere)))
answer work (dedent count file) = outside_batch work (on_count count (Ok elsewhere))
answer work quit = done work
