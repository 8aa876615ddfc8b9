-- A test of all lines, list by list.
use Rattle.std.proofs.Common.{◌≡◌, ℕ, zero, suc, Bool, true, false, cond, ◌&&◌, T, List, [], ◌∷◌, ◌++◌, map, Option, None, Some, is_some, refl, sym, ap, subst, ◌∙◌, slice_get}
use Rattle.std.specs.Bool.{Decides}
use Rattle.std.specs.List.{list_all}
use Rattle.std.proofs.Common.{Ordering, Less, Equal, Greater}
use Rattle.std.specs.Ordering.{nat_cmp, eq_by_cmp, is_eq, is_lt}
use Rattle.std.specs.Cmp.{tied_itself}
use Rattle.std.specs.Cmp.Lexicographic.{slice_cmp, nat_list_cmp_total}
use Rattle.std.specs.FinMap.{get, entries, values, find, is_sorted, entries_sorted, get-entries, nat_cmp-IsAntisymmetric, slice_cmp-IsAntisymmetric}
use Rattle.std.specs.FinMap.Entries.{below_all}
use Rattle.std.proofs.lemmas.Bool.{and_parts, and_from}
use Rattle.std.proofs.lemmas.Option.{same_Some}
use Rattle.std.proofs.lemmas.List.Folds.{list_all-append}
use Rattle.shell_terms.specs.Edit.{Bytes}
use Rattle.plain_space.specs.Workspace.{Named, State, Workspace, all_lines_pass}
use Rattle.plain_space.specs.Lines.{IsStateOf, is_current, is_version, is_undone, is_redone, IsLineOf, IsLineIn}

nothing : {X : Type 0} (x : X) → None ≡ Some x → ⊥
nothing x e = subst (λ o. T (is_some o)) (sym e) tt

parts : (a b : Bool) → T (a && b) → T a × T b
parts true b t = (tt, t)
parts false b t = absurd t

less-differs : (r : Ordering) → T (is_lt r) → is_eq r ≡ false
less-differs Less t = refl
less-differs Equal t = absurd t
less-differs Greater t = absurd t

-- ## Lists

module _ {X : Type 0} (test : X → Bool) where
  all-passed : (xs : List X) → list_all test xs ≡ true → (i : ℕ) (x : X) → slice_get xs i ≡ Some x → test x ≡ true
  all-passed [] all i x at = absurd (nothing x at)
  all-passed (y ∷ ys) all zero x at = ap test (sym (same_Some y x at)) ∙ (and_parts _ _ all).0
  all-passed (y ∷ ys) all (suc i) x at = all-passed ys (and_parts _ _ all).1 i x at

  all-pass : (xs : List X) → ((i : ℕ) (x : X) → slice_get xs i ≡ Some x → test x ≡ true) → list_all test xs ≡ true
  all-pass [] each = refl
  all-pass (x ∷ xs) each = and_from _ _ (each 0 x refl) (all-pass xs (λ i y at. each (suc i) y at))

-- ## The values of a map

same : (x y : Bytes) → slice_cmp nat_cmp x y ≡ Equal → x ≡ y
same = slice_cmp-IsAntisymmetric nat_cmp-IsAntisymmetric

module _ {X : Type 0} where
  find_here : List (Bytes × X) → Bytes → Option X
  find_here es q = find (slice_cmp nat_cmp) q es

  find-below : (q : Bytes) (es : List (Bytes × X)) → T (below_all (slice_cmp nat_cmp) q es) → find_here es q ≡ None
  unfolding find_here
  find-below q [] below = refl
  find-below q (e ∷ es) below =
      let both = parts (is_lt (slice_cmp nat_cmp q e.0)) (below_all (slice_cmp nat_cmp) q es) below in
      ap (λ b. cond b (Some e.1) (find (slice_cmp nat_cmp) q es)) (less-differs (slice_cmp nat_cmp q e.0) both.0) ∙ find-below q es both.1

  -- what is found among later entries is found among all
  found-later : (e : Bytes × X) (es : List (Bytes × X)) (q : Bytes) (v : X) → T (below_all (slice_cmp nat_cmp) e.0 es)
      → find_here es q ≡ Some v → (r : Ordering) → slice_cmp nat_cmp q e.0 ≡ r → cond (is_eq r) (Some e.1) (find_here es q) ≡ Some v
  found-later e es q v below found Less is = found
  found-later e es q v below found Equal is = absurd (nothing v (sym (find-below e.0 es below) ∙ ap (find_here es) (sym (same q e.0 is)) ∙ found))
  found-later e es q v below found Greater is = found

  module _ (test : X → Bool) where
    value-here : (e : Bytes × X) (found : Option X) → test e.1 ≡ true → ((v : X) → found ≡ Some v → test v ≡ true)
        → (b : Bool) (v : X) → cond b (Some e.1) found ≡ Some v → test v ≡ true
    value-here e found first later true v is = ap test (sym (same_Some e.1 v is)) ∙ first
    value-here e found first later false v is = later v is

    value-passed : (es : List (Bytes × X)) → list_all test (map (λ e. e.1) es) ≡ true → (q : Bytes) (v : X) → find_here es q ≡ Some v → test v ≡ true
    unfolding find_here
    value-passed [] all q v found = absurd (nothing v found)
    value-passed (e ∷ es) all q v found =
        let both = and_parts _ _ all in
        value-here e (find (slice_cmp nat_cmp) q es) both.0 (value-passed es both.1 q) (eq_by_cmp (slice_cmp nat_cmp) q e.0) v found

    values-pass : (es : List (Bytes × X)) → T (is_sorted (slice_cmp nat_cmp) es) → ((q : Bytes) (v : X) → find_here es q ≡ Some v → test v ≡ true)
        → list_all test (map (λ e. e.1) es) ≡ true
    unfolding find_here
    values-pass [] sorted each = refl
    values-pass (e ∷ es) sorted each =
        let both = parts (below_all (slice_cmp nat_cmp) e.0 es) (is_sorted (slice_cmp nat_cmp) es) sorted in
        let first = ap (λ r. cond (is_eq r) (Some e.1) (find (slice_cmp nat_cmp) e.0 es)) (tied_itself nat_list_cmp_total e.0) in
        and_from _ _ (each e.0 e.1 first)
        (values-pass es both.1 (λ q v found. each q v (found-later e es q v both.0 found (slice_cmp nat_cmp q e.0) refl)))

    pub named-passed : (m : Named X) → list_all test (values m) ≡ true → (q : Bytes) (v : X) → get m q ≡ Some v → test v ≡ true
    unfolding find_here
    named-passed m all q v found = value-passed (entries m) all q v (sym (get-entries m q) ∙ found)

    pub named-pass : (m : Named X) → ((q : Bytes) (v : X) → get m q ≡ Some v → test v ≡ true) → list_all test (values m) ≡ true
    unfolding find_here
    named-pass m each = values-pass (entries m) (entries_sorted m) (λ q v found. each q v (get-entries m q ∙ found))

-- ## States and workspaces

module _ (test : Bytes → Bool) where
  state-passed : (now : State) → list_all (list_all test) (values now.buffers) ≡ true → (text : Bytes) → IsLineOf now text → test text ≡ true
  state-passed now all text l = all-passed test l.lines (named-passed (list_all test) now.buffers all l.name l.lines l.buffer) l.index text l.line

  state-passes : (now : State) → ((text : Bytes) → IsLineOf now text → test text ≡ true) → list_all (list_all test) (values now.buffers) ≡ true
  state-passes now each =
      named-pass (list_all test) now.buffers (λ name lines found.
      all-pass test lines (λ i text at. each text (record { name = name; lines = lines; index = i; buffer = found; line = at })))

  passes_all : State → Bool
  passes_all now = list_all (list_all test) (values now.buffers)

  state-in : (work : Workspace) (now : State) → IsStateOf work now → all_lines_pass test work ≡ true → passes_all now ≡ true
  unfolding passes_all
  state-in work now (is_current e) all = ap passes_all e ∙ (and_parts _ _ all).0
  state-in work now (is_version name found) all =
      let rest = sym (list_all-append passes_all (values work.versions) (work.undo ++ work.redo)) ∙ (and_parts _ _ all).1 in
      named-passed passes_all work.versions (and_parts _ _ rest).0 name now found
  state-in work now (is_undone i at) all =
      let rest = sym (list_all-append passes_all (values work.versions) (work.undo ++ work.redo)) ∙ (and_parts _ _ all).1 in
      let lists = sym (list_all-append passes_all work.undo work.redo) ∙ (and_parts _ _ rest).1 in
      all-passed passes_all work.undo (and_parts _ _ lists).0 i now at
  state-in work now (is_redone i at) all =
      let rest = sym (list_all-append passes_all (values work.versions) (work.undo ++ work.redo)) ∙ (and_parts _ _ all).1 in
      let lists = sym (list_all-append passes_all work.undo work.redo) ∙ (and_parts _ _ rest).1 in
      all-passed passes_all work.redo (and_parts _ _ lists).1 i now at

  states-in : (work : Workspace) → ((now : State) → IsStateOf work now → passes_all now ≡ true) → all_lines_pass test work ≡ true
  unfolding passes_all
  states-in work each =
      and_from _ _ (each work.current (is_current refl)) (
      list_all-append passes_all (values work.versions) (work.undo ++ work.redo)
      ∙ and_from _ _ (named-pass passes_all work.versions (λ name now found. each now (is_version name found)))
      (list_all-append passes_all work.undo work.redo
      ∙ and_from _ _ (all-pass passes_all work.undo (λ i now at. each now (is_undone i at)))
      (all-pass passes_all work.redo (λ i now at. each now (is_redone i at)))))

  pub lines-decided : (work : Workspace) → Decides (all_lines_pass test work) ((text : Bytes) → IsLineIn work text → test text ≡ true)
  unfolding passes_all
  lines-decided work = (
    (λ all text l. state-passed l.now (state-in work l.now l.state all) text l.line),
    (λ each. states-in work (λ now is. state-passes now (λ text l. each text (record { now = now; state = is; line = l })))),
  )
