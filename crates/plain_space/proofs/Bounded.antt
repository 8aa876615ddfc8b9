-- What a command leaves of undo and its bound: `history` alone changes the bound, and undo stays within it.
use Rattle.std.proofs.Common.{◌≡◌, ℕ, ◌+◌, ◌-◌, ◌≤◌, Bool, true, false, ◌&&◌, List, [], ◌∷◌, ◌++◌, Option, None, Some, Result, Ok, Err, is_some, length, take, slice_get, refl, arith, subst}
use Rattle.std.specs.Prelude.{nat_le}
use Rattle.std.proofs.lemmas.List.{length-take}
use Rattle.plain_space.specs.declared.TheConstants.{MOST_PARTS, MOST_SPACES}
use Rattle.plain_space.specs.declared.refusal.Refusal.{Refusal}
use Rattle.plain_space.specs.declared.refusal.Refusal.TheVariants.{Absent, Exists, Range, Limit, Batch, Empty}
use Rattle.shell_terms.specs.Edit.{Bytes}
use Rattle.shell_terms.specs.Command.{PlainCommand, edit, merge, mark, unmark, back, undo, redo, begin, «end», abort, history, get, len, show, list, stars, marks, same, eqv, stats, made, read, write, save, load, part, chain, indent, dedent, quit}
use Rattle.plain_space.specs.Workspace.{State, Workspace, HasBoundedUndo, most, lines_of, merged_with, all_lines_pass, in_batch, version_of, with_current}
use Rattle.plain_space.specs.Refusing.{needs, unless, given, has_room_for, room, outside_batch}
use Rattle.plain_space.specs.Edited.{edited}
use Rattle.plain_space.specs.Answer.{Answer, tells, elsewhere, answer, asked, becomes}
use Rattle.plain_space.specs.Laws.{bound_after}
use Rattle.plain_space.proofs.LastOf.{last-few}

-- the workspace afterwards has this bound, and undo within it where it was so before
record IsBoundedAfter (bound : ℕ) (work after : Workspace) : Type 0 where
  same : after.history ≡ bound
  few : HasBoundedUndo work → HasBoundedUndo after

module _ (bound : ℕ) (work : Workspace) where
  -- what an answer leaves is so
  IsBounded : Answer → Type 0
  IsBounded (Ok (tells reply after)) = IsBoundedAfter bound work after
  IsBounded (Ok elsewhere) = Unit {0}
  IsBounded (Err reason) = Unit {0}

  of_given : {X : Type 0} (o : Option X) (why : Refusal) (next : X → Answer) → ((x : X) → IsBounded (next x)) → IsBounded (given o why next)
  unfolding IsBounded
  of_given None why next each = tt
  of_given (Some x) why next each = each x

  of_unless : (b : Bool) (why : Refusal) (next : Answer) → IsBounded next → IsBounded (unless b why next)
  unfolding IsBounded
  of_unless true why next each = tt
  of_unless false why next each = each

  of_needs : (b : Bool) (why : Refusal) (next : Answer) → IsBounded next → IsBounded (needs b why next)
  unfolding IsBounded
  of_needs true why next each = each
  of_needs false why next each = tt

  of_room : (count : ℕ) (next : Answer) → IsBounded next → IsBounded (room count next)
  of_room count next each = of_needs (nat_le count most) Limit next each

  of_outside : (next : Answer) → IsBounded next → IsBounded (outside_batch work next)
  of_outside next each = of_unless (in_batch work) Batch next each

  of_last : (states : List State) (next : State → Answer) → ((last : State) → IsBounded (next last)) → IsBounded (given (slice_get states (length states - 1)) Empty next)
  of_last states next each = of_given (slice_get states (length states - 1)) Empty next each

module _ (work : Workspace) where
  stays : IsBoundedAfter work.history work work
  stays = record { same = refl; few = λ few. few }

  of_asked : (r : Result (List Bytes) Refusal) → IsBounded work.history work (asked work r)
  unfolding IsBounded
  of_asked (Ok reply) = stays
  of_asked (Err reason) = tt

  current-bounded : (batch : Bool) (next : State) → in_batch work ≡ batch → IsBoundedAfter work.history work (with_current work next)
  current-bounded true next e = rw e (record { same = refl; few = λ few. few })
  current-bounded false next e = rw e (record { same = refl; few = λ few. last-few work.history (work.undo ++ work.current ∷ []) })

  of_becomes : (r : Result State Refusal) → IsBounded work.history work (becomes work r)
  unfolding IsBounded
  of_becomes (Ok next) = current-bounded (in_batch work) next refl
  of_becomes (Err reason) = tt

-- without the last one there are no more than with it
before-few : (states : List State) (n : ℕ) → length states ≤ n → length (take (length states - 1) states) ≤ n
before-few states n few = let short = length-take (length states - 1) states in omega (arith, few)

of_answer : (work : Workspace) (command : PlainCommand) → IsBounded (bound_after command work.history) work (answer work command)
unfolding answer IsBounded
of_answer work (edit change) = of_becomes work (edited work.current change)
of_answer work (merge kind version) = of_given work.history work (version_of work version) Absent _ (λ state. of_becomes work (Ok (merged_with kind work.current state)))
of_answer work (mark version) = of_outside work.history work _ (of_unless work.history work (is_some (version_of work version)) Exists _ (record { same = refl; few = λ few. few }))
of_answer work (unmark version) = of_outside work.history work _ (of_given work.history work (version_of work version) Absent _ (λ state. record { same = refl; few = λ few. few }))
of_answer work (back version) = of_outside work.history work _ (of_given work.history work (version_of work version) Absent _ (λ state. of_becomes work (Ok state)))
of_answer work undo = of_outside work.history work _ (of_last work.history work work.undo _ (λ last. of_room work.history work (length work.redo + 1) _
    (record { same = refl; few = before-few work.undo work.history })))
of_answer work redo = of_outside work.history work _ (of_last work.history work work.redo _ (λ last. record { same = refl; few = λ few. last-few work.history (work.undo ++ work.current ∷ []) }))
of_answer work begin = of_outside work.history work _ (record { same = refl; few = λ few. few })
of_answer work end = of_given work.history work work.base Batch _ (λ base. record { same = refl; few = λ few. last-few work.history (work.undo ++ base ∷ []) })
of_answer work abort = of_given work.history work work.base Batch _ (λ base. record { same = refl; few = λ few. few })
of_answer work (history count) = of_outside count work _ (record { same = refl; few = λ few. last-few count work.undo })
of_answer work (get name index) = of_asked work _
of_answer work (len name) = of_asked work _
of_answer work (show name from to) = of_asked work _
of_answer work list = stays work
of_answer work stars = stays work
of_answer work marks = stays work
of_answer work (same name other) = of_asked work _
of_answer work (eqv version other) = of_asked work _
of_answer work stats = tt
of_answer work made = tt
of_answer work (read name file) = tt
of_answer work (write name file) = of_given work.history work (lines_of work.current name) Absent _ (λ lines. tt)
of_answer work (save file) = of_outside work.history work _ tt
of_answer work (load file) = of_outside work.history work _ tt
of_answer work (part file number) = of_outside work.history work _ (of_needs work.history work (nat_le 1 number && nat_le number MOST_PARTS) Range (Ok elsewhere) tt)
of_answer work (chain file number) = of_outside work.history work _ (of_needs work.history work (nat_le 1 number && nat_le number MOST_PARTS) Range (Ok elsewhere) tt)
of_answer work (indent count file) = of_outside work.history work _ (of_needs work.history work (nat_le count MOST_SPACES) Range _ (of_needs work.history work (all_lines_pass (has_room_for count) work) Limit (Ok elsewhere) tt))
of_answer work (dedent count file) = of_outside work.history work _ (of_needs work.history work (nat_le count MOST_SPACES) Range (Ok elsewhere) tt)
of_answer work quit = stays work

module _ (work after : Workspace) (command : PlainCommand) (reply : List Bytes) where
  told-after : answer work command ≡ Ok (tells reply after) → IsBoundedAfter (bound_after command work.history) work after
  unfolding IsBounded
  told-after told = subst (IsBounded (bound_after command work.history) work) told (of_answer work command)

  pub answer-bounded : HasBoundedUndo work → answer work command ≡ Ok (tells reply after) → HasBoundedUndo after
  answer-bounded few told = (told-after told).few few

  pub answer-bound : answer work command ≡ Ok (tells reply after) → after.history ≡ bound_after command work.history
  answer-bound told = (told-after told).same
