use Rattle.std.proofs.Common.{◌≡◌, ℕ, List, [], ◌∷◌, ◌++◌, Some, refl, ap, ◌∙◌, arith, length, lit≤}
use Rattle.std.specs.Prelude.{replicate}
use Rattle.std.specs.Fmt.{digits}
use Rattle.std.specs.FinMap.{get}
use Rattle.shell_terms.specs.Edit.{Bytes, new, add, cat}
use Rattle.shell_terms.specs.Command.{PlainCommand, edit, len}
use Rattle.plain_space.specs.Workspace.{Workspace, start}
use Rattle.plain_space.specs.Edited.{edited}
use Rattle.plain_space.specs.Answer.{answer, ok_line, number_line}
use Rattle.plain_space.specs.Session.{replies, refusal_line}
use Rattle.plain_space.specs.Worked.{a, x}
use Rattle.plain_space.specs.declared.refusal.Refusal.TheVariants.{Limit}
use Rattle.plain_space.proofs.Computing.{computing}
use Rattle.plain_space.proofs.Doubling.{one_line, Doubled, doubled, cat-refused, replies-refused}
use Rattle.plain_space.proofs.worked.doubling.Goals as goal

first : (rest : List PlainCommand) → replies start (edit (new a) ∷ edit (add a x) ∷ rest) ≡ ok_line ∷ ok_line ∷ replies (one_line a x) rest
unfolding replies answer edited
first rest = simp computing refl

there : get (one_line a x).current.buffers a ≡ Some (x ∷ [])
there = simp computing refl

asked : (work : Workspace) (ls : List Bytes) → get work.current.buffers a ≡ Some ls → replies work (len a ∷ []) ≡ number_line (length ls) ∷ []
unfolding replies answer
asked work ls found = rw found refl

pub returns : goal.returns
unfolding digits
returns c =
    let rest : List PlainCommand = edit (cat a a) ∷ len a ∷ [] in
    let d : Doubled (one_line a x) a (x ∷ []) 31 rest = doubled 31 (one_line a x) a (x ∷ []) rest there refl (lit≤ tt) in
    let long : length d.lines ≡ 2147483648 = d.long in
    let refused = cat-refused d.after a d.lines d.found (omega arith) in
    let last : replies d.after rest ≡ refusal_line Limit ∷ number_line 2147483648 ∷ [] =
    replies-refused d.after Limit (edit (cat a a)) (len a ∷ []) refused
    ∙ ap (refusal_line Limit ∷◌) (asked d.after d.lines d.found)
    ∙ ap (λ (n : ℕ). refusal_line Limit ∷ number_line n ∷ []) long in
    first (replicate 31 (edit (cat a a)) ++ rest)
    ∙ ap (λ (l : List Bytes). ok_line ∷ ok_line ∷ l) (d.same_replies ∙ ap (replicate 31 ok_line ++◌) last)
