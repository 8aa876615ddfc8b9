use Rattle.std.proofs.Common.{◌≡◌, List, [], ◌∷◌, ◌++◌, refl, ap, ◌∙◌}
use Rattle.std.specs.Fmt.{digits}
use Rattle.std.specs.FinMap.{empty, insert}
use Rattle.shell_terms.specs.Edit.{set, copy, drop, star, unstar, new, add}
use Rattle.shell_terms.specs.Command.{PlainCommand, edit, mark, eqv}
use Rattle.plain_space.specs.Workspace.{State, Workspace, blank, start, with_lines}
use Rattle.plain_space.specs.Edited.{edited}
use Rattle.plain_space.specs.Answer.{answer}
use Rattle.plain_space.specs.Session.{replies}
use Rattle.plain_space.specs.Worked.{lines, a, b, p, q, v, w, x, y, z}
use Rattle.plain_space.proofs.Computing.{computing}
use Rattle.plain_space.proofs.worked.equal_versions.Goals as goal

-- the states up to the one that is changed back, and the workspace then
abbrev made : State
made = with_lines blank a []

abbrev one : State
one = with_lines made a (x ∷ [])

abbrev changed : State
changed = with_lines one a (y ∷ [])

abbrev changed_back : State
changed_back = with_lines changed a (x ∷ [])

abbrev marked : List State → Workspace
marked undo =
    record start { current = changed_back; versions = insert (insert (insert empty v one) p changed) w changed_back; undo = undo }

first : (more : List PlainCommand)
    → replies start (edit (new a) ∷ edit (add a x) ∷ mark v ∷ edit (set a 0 y) ∷ mark p ∷ eqv v p ∷ edit (set a 0 x) ∷ mark w ∷ eqv v w ∷ more)
    ≡ lines ("ok" ∷ "ok" ∷ "ok" ∷ "ok" ∷ "ok" ∷ "= no" ∷ "ok" ∷ "ok" ∷ "= yes" ∷ []) ++ replies (marked (blank ∷ made ∷ one ∷ changed ∷ [])) more
unfolding replies answer edited digits
first more = simp computing refl

-- what comes then, and its replies, whatever undo holds
abbrev rest : List PlainCommand
rest = edit (star z) ∷ mark z ∷ eqv v z ∷ edit (unstar z) ∷ edit (copy a b) ∷ edit (drop a) ∷ mark q ∷ eqv v q ∷ eqv v y ∷ eqv y v ∷ eqv v v ∷ []

later : (undo : List State)
    → replies (marked undo) rest ≡ lines ("ok" ∷ "ok" ∷ "= no" ∷ "ok" ∷ "ok" ∷ "ok" ∷ "ok" ∷ "= no" ∷ "! none" ∷ "! none" ∷ "= yes" ∷ [])
unfolding replies answer edited digits
later undo = simp computing refl

pub returns : goal.returns
returns c =
    first rest ∙ ap (lines ("ok" ∷ "ok" ∷ "ok" ∷ "ok" ∷ "ok" ∷ "= no" ∷ "ok" ∷ "ok" ∷ "= yes" ∷ []) ++◌) (later (blank ∷ made ∷ one ∷ changed ∷ []))
