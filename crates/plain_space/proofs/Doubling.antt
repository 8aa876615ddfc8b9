-- A buffer that is joined to itself again and again: what is replied, by the number of its lines alone.
use Rattle.std.proofs.Common.{◌≡◌, ℕ, zero, suc, ◌+◌, ◌<◌, ◌≤◌, List, [], ◌∷◌, ◌++◌, false, cond, None, Some, Err, length, refl, ap, ◌∙◌, arith}
use Rattle.std.specs.Prelude.{replicate}
use Rattle.std.proofs.lemmas.Bool.{le-leb, lt-leb}
use Rattle.std.proofs.lemmas.List.{length-append}
use Rattle.std.specs.Ordering.{is_eq, nat_cmp, eq_by_cmp}
use Rattle.std.specs.Cmp.{tied_itself}
use Rattle.std.specs.Cmp.Lexicographic.{slice_cmp, nat_list_cmp_total}
use Rattle.std.specs.FinMap.{get, insert}
use Rattle.plain_space.specs.declared.refusal.Refusal.TheVariants.{Limit}
use Rattle.plain_space.specs.declared.refusal.Refusal.{Refusal}
use Rattle.shell_terms.specs.Edit.{Bytes, cat}
use Rattle.shell_terms.specs.Command.{PlainCommand, edit}
use Rattle.plain_space.specs.Workspace.{Named, Workspace, blank, start, most, with_lines, with_current}
use Rattle.plain_space.specs.Edited.{edited}
use Rattle.plain_space.specs.Answer.{answer, done, ok_line}
use Rattle.plain_space.specs.Session.{replies, refusal_line}
use Rattle.plain_space.proofs.Computing.{get-with}

pub replies-done : (work next : Workspace) (c : PlainCommand) (rest : List PlainCommand) → answer work c ≡ done next → replies work (c ∷ rest) ≡ ok_line ∷ replies next rest
unfolding replies
replies-done work next c rest e = rw e refl

pub replies-refused : (work : Workspace) (why : Refusal) (c : PlainCommand) (rest : List PlainCommand) → answer work c ≡ Err why → replies work (c ∷ rest) ≡ refusal_line why ∷ replies work rest
unfolding replies
replies-refused work why c rest e = rw e refl

-- what was put in is there
pub put-there : {X : Type 0} (m : Named X) (k : Bytes) (v : X) → get (insert m k v) k ≡ Some v
put-there m k v = get-with m k v k ∙ ap (λ r. cond (is_eq r) (Some v) (get m k)) (tied_itself nat_list_cmp_total k)

-- so many lines after so many doublings
abbrev pub doubles : ℕ → ℕ → ℕ
doubles zero m = m
doubles (suc n) m = doubles n (m + m)

grows : (n m : ℕ) → m ≤ doubles n m
grows zero m = omega arith
grows (suc n) m = let more : m + m ≤ doubles n (m + m) = grows n (m + m) in omega arith

-- a buffer of one line, in a new space
abbrev pub one_line : Bytes → Bytes → Workspace
one_line name text =
    let none = with_lines blank name [] in
    record start { current = with_lines none name (text ∷ []); undo = blank ∷ none ∷ [] }

-- a buffer joined to itself
abbrev pub joined : Workspace → Bytes → List Bytes → Workspace
joined work name ls = with_current work (with_lines work.current name (ls ++ ls))

module _ (work : Workspace) (name : Bytes) (ls : List Bytes) (found : get work.current.buffers name ≡ Some ls) where
  -- refused past the most lines
  pub cat-refused : most < length ls + length ls → answer work (edit (cat name name)) ≡ Err Limit
  unfolding answer edited
  cat-refused many = let no = lt-leb (length ls + length ls) most many in rw (found, no) refl

  -- else done
  pub cat-done : length ls + length ls ≤ most → answer work (edit (cat name name)) ≡ done (joined work name ls)
  unfolding answer edited
  cat-done few =
      let yes = le-leb (length ls + length ls) most few in
      rw (found, yes) refl

  -- what a joining leaves outside a batch
  joined-found : work.base ≡ None → get (joined work name ls).current.buffers name ≡ Some (ls ++ ls)
  joined-found unbatched = rw unbatched (put-there work.current.buffers name (ls ++ ls))

  joined-unbatched : work.base ≡ None → (joined work name ls).base ≡ None
  joined-unbatched unbatched = rw unbatched refl

  joined-versions : work.base ≡ None → (joined work name ls).versions ≡ work.versions
  joined-versions unbatched = rw unbatched refl

  joined-others : work.base ≡ None → (q : Bytes) → eq_by_cmp (slice_cmp nat_cmp) q name ≡ false → get (joined work name ls).current.buffers q ≡ get work.current.buffers q
  joined-others unbatched q other =
      rw unbatched (get-with work.current.buffers name (ls ++ ls) q ∙ ap (λ b. cond b (Some (ls ++ ls)) (get work.current.buffers q)) other)

-- What some joinings leave, and what they reply.
pub record Doubled (work : Workspace) (name : Bytes) (ls : List Bytes) (n : ℕ) (rest : List PlainCommand) : Type 0 where
  pub after : Workspace
  pub lines : List Bytes
  pub same_replies : replies work (replicate n (edit (cat name name)) ++ rest) ≡ replicate n ok_line ++ replies after rest
  pub found : get after.current.buffers name ≡ Some lines
  pub long : length lines ≡ doubles n (length ls)
  pub unbatched : after.base ≡ None
  pub same_versions : after.versions ≡ work.versions
  pub others : (q : Bytes) → eq_by_cmp (slice_cmp nat_cmp) q name ≡ false → get after.current.buffers q ≡ get work.current.buffers q

pub doubled : (n : ℕ) (work : Workspace) (name : Bytes) (ls : List Bytes) (rest : List PlainCommand)
    → get work.current.buffers name ≡ Some ls → work.base ≡ None → doubles n (length ls) ≤ most
    → Doubled work name ls n rest
doubled zero work name ls rest found unbatched few =
    record {
      after = work;
      lines = ls;
      same_replies = refl;
      found = found;
      long = refl;
      unbatched = unbatched;
      same_versions = refl;
      others = λ q other. refl;
    }
doubled (suc n) work name ls rest found unbatched few =
    let twice : length (ls ++ ls) ≡ length ls + length ls = length-append ls ls in
    let long : length ls + length ls ≤ doubles n (length ls + length ls) = grows n (length ls + length ls) in
    let step = cat-done work name ls found (omega arith) in
    let later : Doubled (joined work name ls) name (ls ++ ls) n rest =
    doubled n (joined work name ls) name (ls ++ ls) rest (joined-found work name ls found unbatched) (joined-unbatched work name ls found unbatched) (rw twice few) in
    record {
      after = later.after;
      lines = later.lines;
      same_replies =
          replies-done work (joined work name ls) (edit (cat name name)) (replicate n (edit (cat name name)) ++ rest) step
          ∙ ap (ok_line ∷◌) later.same_replies;
      found = later.found;
      long = later.long ∙ ap (doubles n) twice;
      unbatched = later.unbatched;
      same_versions = later.same_versions ∙ joined-versions work name ls found unbatched;
      others = λ q other. later.others q other ∙ joined-others work name ls found unbatched q other;
    }
