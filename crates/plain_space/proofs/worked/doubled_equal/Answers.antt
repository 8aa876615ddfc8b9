use Rattle.std.proofs.Common.{◌≡◌, ℕ, zero, suc, Bool, true, false, cond, List, [], ◌∷◌, ◌++◌, Option, Some, None, Ok, refl, sym, ap, ◌∙◌, lit≤}
use Rattle.std.specs.Prelude.{replicate}
use Rattle.std.specs.Ordering.{nat_cmp, eq_by_cmp}
use Rattle.std.specs.Cmp.Lexicographic.{slice_cmp, nat_list_cmp_total, bytes_decides, texts_ties}
use Rattle.std.specs.FinMap.{get, insert, remove, same_map, nat_cmp-IsAntisymmetric, slice_cmp-IsAntisymmetric}
use Rattle.shell_terms.specs.Edit.{Bytes, PlainEdit, new, add, cat, copy, drop}
use Rattle.shell_terms.specs.Command.{PlainCommand, edit, mark, same, eqv}
use Rattle.plain_space.specs.Workspace.{Named, State, Workspace, start, undo_with, same_texts, same_state, with_lines, without_lines}
use Rattle.plain_space.specs.Edited.{edited}
use Rattle.plain_space.specs.Answer.{answer, tells, done, ok_line, equal_line}
use Rattle.plain_space.specs.Session.{replies}
use Rattle.plain_space.specs.Worked.{a, b, c, v, w, x}
use Rattle.plain_space.proofs.Computing.{computing, get-none, get-with, get-without}
use Rattle.plain_space.proofs.Doubling.{one_line, Doubled, doubled, replies-done, put-there}
use Rattle.plain_space.proofs.Equality.{same_texts-Decides, same_state-Decides}
use Rattle.plain_space.proofs.worked.doubled_equal.Goals as goal

first : (rest : List PlainCommand) → replies start (edit (new a) ∷ edit (add a x) ∷ rest) ≡ ok_line ∷ ok_line ∷ replies (one_line a x) rest
unfolding replies answer edited
first rest = simp computing refl

there : get (one_line a x).current.buffers a ≡ Some (x ∷ [])
there = simp computing refl

no_b : get (one_line a x).current.buffers b ≡ None
no_b = simp computing refl

no_c : get (one_line a x).current.buffers c ≡ None
no_c = simp computing refl

abbrev yes : Bytes
yes = equal_line true

-- the workspace after an edit outside a batch
abbrev moved : Workspace → State → Workspace
moved work next = record work { current = next; undo = undo_with work work.current; redo = [] }

edit-done : (work : Workspace) (change : PlainEdit) (next : State) → work.base ≡ None → edited work.current change ≡ Ok next → answer work (edit change) ≡ done (moved work next)
unfolding answer
edit-done work change next unbatched e = rw (e, unbatched) refl

-- the workspace after a version of a new name
abbrev marked : Workspace → Bytes → Workspace
marked work version = record work { versions = insert work.versions version work.current }

mark-done : (work : Workspace) (version : Bytes) → work.base ≡ None → get work.versions version ≡ None → answer work (mark version) ≡ done (marked work version)
unfolding answer
mark-done work version unbatched none = rw (unbatched, none) refl

replies-yes : (work : Workspace) (command : PlainCommand) (rest : List PlainCommand) → answer work command ≡ Ok (tells (yes ∷ []) work) → replies work (command ∷ rest) ≡ yes ∷ replies work rest
unfolding replies
replies-yes work command rest e = rw e refl

yes-again : (n : ℕ) (work : Workspace) (command : PlainCommand) (rest : List PlainCommand) → answer work command ≡ Ok (tells (yes ∷ []) work) → replies work (replicate n command ++ rest) ≡ replicate n yes ++ replies work rest
yes-again zero work command rest e = refl
yes-again (suc n) work command rest e = replies-yes work command (replicate n command ++ rest) e ∙ ap (yes ∷◌) (yes-again n work command rest e)

yes-only : (n : ℕ) (work : Workspace) (command : PlainCommand) → answer work command ≡ Ok (tells (yes ∷ []) work) → replies work (replicate n command) ≡ replicate n yes
unfolding replies
yes-only zero work command e = refl
yes-only (suc n) work command e = replies-yes work command (replicate n command) e ∙ ap (yes ∷◌) (yes-only n work command e)

-- names that are tied are equal
tied-equal : (q k : Bytes) → eq_by_cmp (slice_cmp nat_cmp) q k ≡ true → q ≡ k
tied-equal q k e = (bytes_decides q k).0 (texts_ties q k ∙ e)

passed : {X : Type 0} (tied : Bool) (x : X) (found : Option X) → (tied ≡ true → found ≡ None) → cond tied None (cond tied (Some x) found) ≡ found
passed true x found none = sym (none refl)
passed false x found none = refl

-- what is put in and taken out again leaves the map as it was
put-back : {X : Type 0} (m : Named X) (k : Bytes) (x : X) → get m k ≡ None → remove (insert m k x) k ≡ m
put-back m k x none =
    same_map nat_list_cmp_total (slice_cmp-IsAntisymmetric nat_cmp-IsAntisymmetric) _ _ (λ q.
    get-without (insert m k x) k q
    ∙ ap (cond (eq_by_cmp (slice_cmp nat_cmp) q k) None) (get-with m k x q)
    ∙ passed (eq_by_cmp (slice_cmp nat_cmp) q k) x (get m q) (λ e. ap (get m) (tied-equal q k e) ∙ none))

-- what a map has at one name stays where another is put in
beside-same : {X : Type 0} (m : Named X) (k : Bytes) (x : X) (q : Bytes) (found : Option X) → eq_by_cmp (slice_cmp nat_cmp) q k ≡ false → get m q ≡ found → get (insert m k x) q ≡ found
beside-same m k x q found other e = get-with m k x q ∙ ap (λ tied. cond tied (Some x) (get m q)) other ∙ e

module _ (work : Workspace) (ls : List Bytes) (unbatched : work.base ≡ None) (at_a : get work.current.buffers a ≡ Some ls) (at_b : get work.current.buffers b ≡ None) (at_c : get work.current.buffers c ≡ None) (at_v : get work.versions v ≡ None) (at_w : get work.versions w ≡ None) where
  abbrev both : Named (List Bytes)
  both = insert work.current.buffers b ls

  abbrev copied : Workspace
  copied = moved work (with_lines work.current b ls)

  abbrev first_marked : Workspace
  first_marked = marked copied v

  abbrev with_new : Workspace
  with_new = moved first_marked (with_lines first_marked.current c [])

  abbrev dropped : Workspace
  dropped = moved with_new (without_lines with_new.current c)

  abbrev second_marked : Workspace
  second_marked = marked dropped w

  both_a : get both a ≡ Some ls
  both_a = beside-same work.current.buffers b ls a _ refl at_a

  both_b : get both b ≡ Some ls
  both_b = put-there work.current.buffers b ls

  both_c : get both c ≡ None
  both_c = beside-same work.current.buffers b ls c _ refl at_c

  again : remove (insert both c []) c ≡ both
  again = put-back both c [] both_c

  does_copy : edited work.current (copy a b) ≡ Ok copied.current
  unfolding edited
  does_copy = rw at_a refl

  does_new : edited first_marked.current (new c) ≡ Ok with_new.current
  unfolding edited
  does_new = rw both_c refl

  does_drop : edited with_new.current (drop c) ≡ Ok dropped.current
  unfolding edited
  does_drop = let there = put-there both c [] in rw there refl

  same-yes : answer second_marked (same a b) ≡ Ok (tells (yes ∷ []) second_marked)
  unfolding answer
  same-yes =
      let there_a : get second_marked.current.buffers a ≡ Some ls = ap (λ m. get m a) again ∙ both_a in
      let there_b : get second_marked.current.buffers b ≡ Some ls = ap (λ m. get m b) again ∙ both_b in
      let alike : same_texts ls ls ≡ true = (same_texts-Decides ls ls).1 refl in
      rw (there_a, there_b, alike) refl

  eqv-yes : answer second_marked (eqv v w) ≡ Ok (tells (yes ∷ []) second_marked)
  unfolding answer
  eqv-yes =
      let at_first : get second_marked.versions v ≡ Some copied.current = beside-same dropped.versions w dropped.current v _ refl (put-there work.versions v copied.current) in
      let at_second : get second_marked.versions w ≡ Some dropped.current = put-there dropped.versions w dropped.current in
      let alike : same_state copied.current dropped.current ≡ true = (same_state-Decides copied.current dropped.current).1 (ap (λ (m : Named (List Bytes)). record copied.current { buffers = m }) (sym again)) in
      rw (at_first, at_second, alike) refl

  last : replies work (edit (copy a b) ∷ mark v ∷ edit (new c) ∷ edit (drop c) ∷ mark w ∷ replicate 100 (same a b) ++ replicate 100 (eqv v w))
      ≡ ok_line ∷ ok_line ∷ ok_line ∷ ok_line ∷ ok_line ∷ replicate 100 yes ++ replicate 100 yes
  last =
      let asks = replicate 100 (same a b) ++ replicate 100 (eqv v w) in
      replies-done work copied (edit (copy a b)) _ (edit-done work (copy a b) copied.current unbatched does_copy)
      ∙ ap (ok_line ∷◌) (
      replies-done copied first_marked (mark v) _ (mark-done copied v unbatched at_v)
      ∙ ap (ok_line ∷◌) (
      replies-done first_marked with_new (edit (new c)) _ (edit-done first_marked (new c) with_new.current unbatched does_new)
      ∙ ap (ok_line ∷◌) (
      replies-done with_new dropped (edit (drop c)) _ (edit-done with_new (drop c) dropped.current unbatched does_drop)
      ∙ ap (ok_line ∷◌) (
      replies-done dropped second_marked (mark w) asks (mark-done dropped w unbatched (beside-same work.versions v copied.current w _ refl at_w))
      ∙ ap (ok_line ∷◌) (
      yes-again 100 second_marked (same a b) (replicate 100 (eqv v w)) same-yes
      ∙ ap (replicate 100 yes ++◌) (yes-only 100 second_marked (eqv v w) eqv-yes))))))

pub returns : goal.returns
returns g =
    let tail : List PlainCommand = edit (copy a b) ∷ mark v ∷ edit (new c) ∷ edit (drop c) ∷ mark w ∷ replicate 100 (same a b) ++ replicate 100 (eqv v w) in
    let d : Doubled (one_line a x) a (x ∷ []) 31 tail = doubled 31 (one_line a x) a (x ∷ []) tail there refl (lit≤ tt) in
    let no_versions : (q : Bytes) → get d.after.versions q ≡ None = λ q. ap (λ m. get m q) d.same_versions ∙ get-none q in
    first (replicate 31 (edit (cat a a)) ++ tail)
    ∙ ap (λ (l : List Bytes). ok_line ∷ ok_line ∷ l) (
    d.same_replies
    ∙ ap (replicate 31 ok_line ++◌) (
    last d.after d.lines d.unbatched d.found (d.others b refl ∙ no_b) (d.others c refl ∙ no_c) (no_versions v) (no_versions w)))
