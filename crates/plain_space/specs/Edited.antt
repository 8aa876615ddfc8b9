-- What an edit makes of a state, row by row of the table of edits.
use Rattle.std.specs.Prelude.{◌+◌, [], ◌∷◌, ◌++◌, nat_lt, nat_le, is_some, length, slice_set, slice_range, Result, Ok}
use Rattle.std.specs.List.{insert, remove_range}
use Rattle.plain_space.specs.declared.refusal.Refusal.{Refusal}
use Rattle.plain_space.specs.declared.refusal.Refusal.TheVariants.{Absent, Exists, Range}
use Rattle.shell_terms.specs.Edit.{PlainEdit, new, add, set, put, del, cat, cut, copy, drop, star, unstar, fill}
use Rattle.plain_space.specs.Workspace.{State, lines_of, with_lines, without_lines, is_starred, with_star, without_star}
use Rattle.plain_space.specs.Refusing.{needs, unless, on_lines, on_range, room}

-- The state afterwards, or the first refusal that holds.
unfoldable pub edited : State → PlainEdit → Result State Refusal
edited now (new name) =
    unless (is_some (lines_of now name)) Exists (Ok (with_lines now name []))
edited now (add name text) =
    on_lines now name (λ lines.
    room (length lines + 1) (Ok (with_lines now name (lines ++ text ∷ []))))
edited now (set name index text) =
    on_lines now name (λ lines.
    needs (nat_lt index (length lines)) Range (Ok (with_lines now name (slice_set lines index text))))
edited now (put name index text) =
    on_lines now name (λ lines.
    needs (nat_le index (length lines)) Range (
    room (length lines + 1) (Ok (with_lines now name (insert lines index text)))))
edited now (del name from to) =
    on_lines now name (λ lines.
    on_range from to lines (Ok (with_lines now name (remove_range lines from to))))
edited now (cat name other) =
    on_lines now name (λ lines.
    on_lines now other (λ more.
    room (length lines + length more) (Ok (with_lines now name (lines ++ more)))))
edited now (cut name from to other) =
    on_lines now name (λ lines.
    on_range from to lines (
    Ok (with_lines (with_lines now name (remove_range lines from to)) other (slice_range lines from to))))
edited now (copy name other) =
    on_lines now name (λ lines. Ok (with_lines now other lines))
edited now (drop name) =
    on_lines now name (λ lines. Ok (without_lines now name))
edited now (star name) =
    unless (is_starred now name) Exists (Ok (with_star now name))
edited now (unstar name) =
    needs (is_starred now name) Absent (Ok (without_star now name))
edited now (fill name lines) = Ok (with_lines now name lines)
