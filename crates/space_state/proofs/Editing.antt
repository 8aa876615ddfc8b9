-- The edits of buffers: what each comes to at what was found, what the vector is that a call made, and how a call ends.
use Rattle.std.proofs.Common.{◌≡◌, ℕ, zero, suc, ◌+◌, ◌-◌, ◌<◌, ◌≤◌, List, [], ◌∷◌, ◌++◌, length, take, drop, set, map, Bool, true, false, cond, ◌&&◌, leb, ltb, Option, Some, None, is_some, IsSome, option_map, eqb, Result, Ok, Err, refl, sym, ap, subst, ◌∙◌, arith, ◌*◌}
use Rattle.std.proofs.lemmas.Bool.{leb-true, and_parts, false_from_ne_true}
use Rattle.std.proofs.lemmas.Bool.Decides.{nat_tests}
use Rattle.std.proofs.lemmas.List.{drop-take}
use Rattle.std.specs.Prelude.{nat_le, nat_lt, IsSomeAnd, IsOk, IsErrAnd, MatchResult, count_by, slice_range}
use Rattle.std.specs.List.{AllZip, insert, remove_range}
use Rattle.std.specs.declared.cmp.Ordering.{Ordering}
use Rattle.std.specs.declared.cmp.Ordering.TheVariants.{Less, Equal, Greater}
use Rattle.std.specs.Cmp.Lexicographic.{nat_list_cmp_total}
use Rattle.std.specs.FinMap as finite
use Rattle.std.specs.FinMap.Entries as sorted
use Rattle.elem_core.specs.declared.codes.TheConstants.{LEVELS}
use Rattle.elem_core.specs.Cell.{IsCell}
use Rattle.elem_core.specs.Codes.{text_code, masked_code}
use Rattle.node_heap.specs.Links.{here}
use Rattle.node_heap.specs.Forms.{cell, form_of}
use Rattle.node_heap.specs.Heap.{Heap, form_at, holds_at, hold_count, HasSpares, IsGraph}
use Rattle.node_heap.specs.Calls.{Extends, Adds, Makes, Answered}
use Rattle.node_heap.proofs.Frames.{Extends-trans}
use Rattle.node_heap.proofs.BuildLemmas.{count-cons}
use Rattle.champ_chain.proofs.SetLemmas.{count-cons as counted}
use Rattle.rrb_core.specs.Vector.{IsGoodVector, elements, height_at}
use Rattle.rrb_core.proofs.Stays.{well-live, extended-same}
use Rattle.rrb_join.specs.declared.inserting.InsertFault.{InsertFault}
use Rattle.rrb_join.specs.declared.inserting.InsertFault.TheVariants.{Range as insert_range, Long as insert_long, Memory as insert_memory}
use Rattle.rrb_join.specs.declared.cutting.SliceFault.{SliceFault}
use Rattle.rrb_join.specs.declared.cutting.SliceFault.TheVariants.{Range as slice_range_fault, Memory as slice_memory}
use Rattle.rrb_join.specs.declared.joining.JoinFault.{JoinFault}
use Rattle.rrb_join.specs.declared.joining.JoinFault.TheVariants.{Long as join_long, Memory as join_memory}
use Rattle.shell_terms.specs.Edit.{Bytes, PlainEdit, new, add, set as set_line, put, del, cat, cut, copy, drop as drop_buffer, fill, star, unstar}
use Rattle.shell_terms.specs.Command.{PlainCommand, edit}
use Rattle.plain_space.specs.declared.refusal.Refusal.{Refusal}
use Rattle.plain_space.specs.declared.refusal.Refusal.TheVariants.{Absent, Exists, Range, Limit, Memory}
use Rattle.plain_space.specs.Workspace.{State, Workspace, most, lines_of, with_lines, without_lines, is_starred, with_star, without_star, with_current}
use Rattle.plain_space.specs.Refusing.{needs, unless, given, on_lines, on_range, room}
use Rattle.plain_space.specs.Edited.{edited}
use Rattle.plain_space.specs.Answer.{answer, done, becomes}
use Rattle.plain_space.specs.Cost.{alike_buffers, edit_cost, cost}
use Rattle.plain_space.specs.Memory.{MayLackMemory}
use Rattle.state_rows.specs.Reading.{IsText}
use Rattle.state_rows.specs.InHeap.{AreLinesIn}
use Rattle.state_rows.proofs.Staying.{states-stay}
use Rattle.state_rows.proofs.Keys.{by_bytes}
use Rattle.space_state.specs.declared.roots.RootedHeap.{RootedHeap}
use Rattle.space_state.specs.declared.room.TheConstants.{EDIT_NODES, ERASE_NODES, SLICE_NODES, WRITTEN_NODES}
use Rattle.space_state.specs.declared.undo_end.TheConstants.{TURN_NODES}
use Rattle.space_state.specs.Roots.{Keeps}
use Rattle.space_state.specs.BatchEdits.{IsInPlace, new_key}
use Rattle.space_state.specs.Turns.{IsDue, IsSame, RoomIsMade, RoomIsRefused, TurnsTo, IsCarriedOut, IsRefused}
use Rattle.space_state.proofs.Keeping.{Rises, rises-answered, rises-then, rises-same, rises-more, keeps-extended, keeps-gained, keeps-same, answered-cell, keeps-swapped, first-held, unchanged-stands, turns-after}

-- ## Lists that go together

module _ {X Y : Type 0} (R : X → Y → Type 0) where
  pub zip-append : (ks bs : List X) (xs ys : List Y) → AllZip R ks xs → AllZip R bs ys → AllZip R (ks ++ bs) (xs ++ ys)
  zip-append [] bs [] ys first second = second
  zip-append [] bs (x ∷ xs) ys first second = absurd first
  zip-append (a ∷ ks) bs [] ys first second = absurd first
  zip-append (a ∷ ks) bs (x ∷ xs) ys first second = (first.0, zip-append ks bs xs ys first.1 second)

  pub zip-take : (n : ℕ) (ks : List X) (xs : List Y) → AllZip R ks xs → AllZip R (take n ks) (take n xs)
  zip-take zero ks xs zip = tt
  zip-take (suc n) [] [] zip = tt
  zip-take (suc n) [] (x ∷ xs) zip = absurd zip
  zip-take (suc n) (a ∷ ks) [] zip = absurd zip
  zip-take (suc n) (a ∷ ks) (x ∷ xs) zip = (zip.0, zip-take n ks xs zip.1)

  pub zip-drop : (n : ℕ) (ks : List X) (xs : List Y) → AllZip R ks xs → AllZip R (drop n ks) (drop n xs)
  zip-drop zero ks xs zip = zip
  zip-drop (suc n) [] [] zip = tt
  zip-drop (suc n) [] (x ∷ xs) zip = absurd zip
  zip-drop (suc n) (a ∷ ks) [] zip = absurd zip
  zip-drop (suc n) (a ∷ ks) (x ∷ xs) zip = zip-drop n ks xs zip.1

-- a part of a list is what is left of its first elements without the first of these
pub part-is : {X : Type 0} (from to : ℕ) (xs : List X) → from ≤ to → slice_range xs from to ≡ drop from (take to xs)
part-is from to xs inside = sym (ap (λ n. drop from (take n xs)) (sums from to inside) ∙ drop-take from (to - from) xs)
  where
    sums : (a b : ℕ) → a ≤ b → b ≡ a + (b - a)
    sums a b le = omega (arith, le)

-- ## Names that are alike

one-at-most : (t : Bool) → (let n : ℕ = cond t 1 0 in n) ≤ 1
one-at-most true = omega arith
one-at-most false = omega arith

-- a key put into a list is one more at most
put-counts : {X : Type 0} (test : Bytes → Bool) (k : Bytes) (v : X) (es : List (Bytes × X)) → count_by test (map (λ e. e.0) (sorted.put by_bytes k v es)) ≤ count_by test (map (λ e. e.0) es) + 1
put-counts test k v [] = omega (arith, counted test k [], one-at-most (test k))
put-counts {X} test k v (e ∷ es) = at_head (by_bytes k e.0) (put-counts test k v es)
  where
    at_head : (r : Ordering) → count_by test (map (λ d. d.0) (sorted.put by_bytes k v es)) ≤ count_by test (map (λ d. d.0) es) + 1
        → count_by test (map (λ d. d.0) (sorted.by_order r ((k, v) ∷ e ∷ es) ((e.0, v) ∷ es) (e ∷ sorted.put by_bytes k v es))) ≤ count_by test (e.0 ∷ map (λ d. d.0) es) + 1
    at_head Less rest = omega (arith, counted test k (e.0 ∷ map (λ d. d.0) es), one-at-most (test k))
    at_head Equal rest = omega arith
    at_head Greater rest = omega (arith, counted test e.0 (map (λ d. d.0) es), counted test e.0 (map (λ d. d.0) (sorted.put by_bytes k v es)), rest)

-- with another buffer one name more at most is alike
pub alike-with : (bits : ℕ) (now : State) (key : Bytes) (xs : List Bytes) (name : Bytes) → alike_buffers bits (with_lines now key xs) name ≤ alike_buffers bits now name + 1
alike-with bits now key xs name =
    let test : Bytes → Bool = λ other. eqb (masked_code (text_code other) bits) (masked_code (text_code name) bits) in
    omega (arith, ap (λ es. count_by test (map (λ e. e.0) es)) (finite.entries-insert nat_list_cmp_total now.buffers key xs), put-counts test key xs (finite.entries now.buffers))

-- ## Tests

pub le-true : (a b : ℕ) → a ≤ b → leb a b ≡ true
le-true a b le = grind (arith, nat_tests)

pub le-false : (a b : ℕ) → b < a → leb a b ≡ false
le-false a b lt = grind (arith, nat_tests)

pub lt-true : (a b : ℕ) → a < b → ltb a b ≡ true
lt-true a b lt = grind (arith, nat_tests)

pub lt-false : (a b : ℕ) → b ≤ a → ltb a b ≡ false
lt-false a b le = grind (arith, nat_tests)

both-true : (a b : Bool) → a ≡ true → b ≡ true → (a && b) ≡ true
both-true a b one two = ap (λ t. t && b) one ∙ two

some-of : {X : Type 0} (P : X → Type 0) (o : Option X) → IsSomeAnd o P → (x : X) × (o ≡ Some x) × P x
some-of P None is = absurd is
some-of P (Some x) is = (x, refl, is)

-- the lines that a buffer was found to have
pub found-lines : (s : RootedHeap) (l : ℕ) (now : State) (name : Bytes) → IsSomeAnd (lines_of now name) (AreLinesIn s.heap s.bits l) → (xs : List Bytes) × (lines_of now name ≡ Some xs) × AreLinesIn s.heap s.bits l xs
found-lines s l now name is = some-of (AreLinesIn s.heap s.bits l) (lines_of now name) is

-- ## What an edit comes to

module _ (now : State) (name : Bytes) where
  pub new-taken : is_some (lines_of now name) ≡ true → edited now (new name) ≡ Err Exists
  unfolding edited
  new-taken is = ap (λ t. unless t Exists (Ok (with_lines now name []))) is

  pub new-made : lines_of now name ≡ None → edited now (new name) ≡ Ok (with_lines now name [])
  unfolding edited
  new-made is = ap (λ o. unless (is_some o) Exists (Ok (with_lines now name []))) is

  module _ (text : Bytes) where
    pub add-absent : lines_of now name ≡ None → edited now (add name text) ≡ Err Absent
    unfolding edited
    add-absent is = ap (λ o. given o Absent (λ lines. room (length lines + 1) (Ok (with_lines now name (lines ++ text ∷ []))))) is

    add-found : (xs : List Bytes) → lines_of now name ≡ Some xs → edited now (add name text) ≡ room (length xs + 1) (Ok (with_lines now name (xs ++ text ∷ [])))
    unfolding edited
    add-found xs is = ap (λ o. given o Absent (λ lines. room (length lines + 1) (Ok (with_lines now name (lines ++ text ∷ []))))) is

    pub add-full : (xs : List Bytes) → lines_of now name ≡ Some xs → length xs ≡ most → edited now (add name text) ≡ Err Limit
    add-full xs is full = add-found xs is ∙ ap (λ t. needs t Limit (Ok (with_lines now name (xs ++ text ∷ [])))) (le-false (length xs + 1) most (omega (arith, full)))

    pub add-made : (xs : List Bytes) → lines_of now name ≡ Some xs → length xs < most → edited now (add name text) ≡ Ok (with_lines now name (xs ++ text ∷ []))
    add-made xs is short = add-found xs is ∙ ap (λ t. needs t Limit (Ok (with_lines now name (xs ++ text ∷ [])))) (le-true (length xs + 1) most (omega (arith, short)))

    module _ (index : ℕ) where
      pub set-absent : lines_of now name ≡ None → edited now (set_line name index text) ≡ Err Absent
      unfolding edited
      set-absent is = ap (λ o. given o Absent (λ lines. needs (nat_lt index (length lines)) Range (Ok (with_lines now name (set lines index text))))) is

      set-found : (xs : List Bytes) → lines_of now name ≡ Some xs → edited now (set_line name index text) ≡ needs (nat_lt index (length xs)) Range (Ok (with_lines now name (set xs index text)))
      unfolding edited
      set-found xs is = ap (λ o. given o Absent (λ lines. needs (nat_lt index (length lines)) Range (Ok (with_lines now name (set lines index text))))) is

      pub set-past : (xs : List Bytes) → lines_of now name ≡ Some xs → length xs ≤ index → edited now (set_line name index text) ≡ Err Range
      set-past xs is past = set-found xs is ∙ ap (λ t. needs t Range (Ok (with_lines now name (set xs index text)))) (lt-false index (length xs) past)

      pub set-made : (xs : List Bytes) → lines_of now name ≡ Some xs → index < length xs → edited now (set_line name index text) ≡ Ok (with_lines now name (set xs index text))
      set-made xs is inside = set-found xs is ∙ ap (λ t. needs t Range (Ok (with_lines now name (set xs index text)))) (lt-true index (length xs) inside)

      pub put-absent : lines_of now name ≡ None → edited now (put name index text) ≡ Err Absent
      unfolding edited
      put-absent is = ap (λ o. given o Absent (λ lines. needs (nat_le index (length lines)) Range (room (length lines + 1) (Ok (with_lines now name (insert lines index text)))))) is

      put-found : (xs : List Bytes) → lines_of now name ≡ Some xs → edited now (put name index text) ≡ needs (nat_le index (length xs)) Range (room (length xs + 1) (Ok (with_lines now name (insert xs index text))))
      unfolding edited
      put-found xs is = ap (λ o. given o Absent (λ lines. needs (nat_le index (length lines)) Range (room (length lines + 1) (Ok (with_lines now name (insert lines index text)))))) is

      pub put-past : (xs : List Bytes) → lines_of now name ≡ Some xs → length xs < index → edited now (put name index text) ≡ Err Range
      put-past xs is past = put-found xs is ∙ ap (λ t. needs t Range (room (length xs + 1) (Ok (with_lines now name (insert xs index text))))) (le-false index (length xs) past)

      put-inside : (xs : List Bytes) → lines_of now name ≡ Some xs → index ≤ length xs → edited now (put name index text) ≡ room (length xs + 1) (Ok (with_lines now name (insert xs index text)))
      put-inside xs is inside = put-found xs is ∙ ap (λ t. needs t Range (room (length xs + 1) (Ok (with_lines now name (insert xs index text))))) (le-true index (length xs) inside)

      pub put-full : (xs : List Bytes) → lines_of now name ≡ Some xs → index ≤ length xs → length xs ≡ most → edited now (put name index text) ≡ Err Limit
      put-full xs is inside full = put-inside xs is inside ∙ ap (λ t. needs t Limit (Ok (with_lines now name (insert xs index text)))) (le-false (length xs + 1) most (omega (arith, full)))

      pub put-made : (xs : List Bytes) → lines_of now name ≡ Some xs → index ≤ length xs → length xs < most → edited now (put name index text) ≡ Ok (with_lines now name (insert xs index text))
      put-made xs is inside short = put-inside xs is inside ∙ ap (λ t. needs t Limit (Ok (with_lines now name (insert xs index text)))) (le-true (length xs + 1) most (omega (arith, short)))

  module _ (from to : ℕ) where
    -- these lines have the part
    abbrev HasPart : List Bytes → Type 0
    HasPart xs = (from ≤ to) × (to ≤ length xs)

    range-true : (xs : List Bytes) → HasPart xs → (nat_le from to && nat_le to (length xs)) ≡ true
    range-true xs part = both-true (nat_le from to) (nat_le to (length xs)) (le-true from to part.0) (le-true to (length xs) part.1)

    range-false : (xs : List Bytes) → ¬ HasPart xs → (nat_le from to && nat_le to (length xs)) ≡ false
    range-false xs none =
        false_from_ne_true (nat_le from to && nat_le to (length xs)) (λ both. let parts = and_parts (nat_le from to) (nat_le to (length xs)) both in none (leb-true from to parts.0, leb-true to (length xs) parts.1))

    pub del-absent : lines_of now name ≡ None → edited now (del name from to) ≡ Err Absent
    unfolding edited
    del-absent is = ap (λ o. given o Absent (λ lines. on_range from to lines (Ok (with_lines now name (remove_range lines from to))))) is

    del-found : (xs : List Bytes) → lines_of now name ≡ Some xs → edited now (del name from to) ≡ needs (nat_le from to && nat_le to (length xs)) Range (Ok (with_lines now name (remove_range xs from to)))
    unfolding edited
    del-found xs is = ap (λ o. given o Absent (λ lines. on_range from to lines (Ok (with_lines now name (remove_range lines from to))))) is

    pub del-past : (xs : List Bytes) → lines_of now name ≡ Some xs → ¬ HasPart xs → edited now (del name from to) ≡ Err Range
    del-past xs is none = del-found xs is ∙ ap (λ t. needs t Range (Ok (with_lines now name (remove_range xs from to)))) (range-false xs none)

    pub del-made : (xs : List Bytes) → lines_of now name ≡ Some xs → HasPart xs → edited now (del name from to) ≡ Ok (with_lines now name (remove_range xs from to))
    del-made xs is part = del-found xs is ∙ ap (λ t. needs t Range (Ok (with_lines now name (remove_range xs from to)))) (range-true xs part)

    module _ (other : Bytes) where
      pub cut-absent : lines_of now name ≡ None → edited now (cut name from to other) ≡ Err Absent
      unfolding edited
      cut-absent is = ap (λ o. given o Absent (λ lines. on_range from to lines (Ok (with_lines (with_lines now name (remove_range lines from to)) other (slice_range lines from to))))) is

      cut-found : (xs : List Bytes) → lines_of now name ≡ Some xs
          → edited now (cut name from to other) ≡ needs (nat_le from to && nat_le to (length xs)) Range (Ok (with_lines (with_lines now name (remove_range xs from to)) other (slice_range xs from to)))
      unfolding edited
      cut-found xs is = ap (λ o. given o Absent (λ lines. on_range from to lines (Ok (with_lines (with_lines now name (remove_range lines from to)) other (slice_range lines from to))))) is

      pub cut-past : (xs : List Bytes) → lines_of now name ≡ Some xs → ¬ HasPart xs → edited now (cut name from to other) ≡ Err Range
      cut-past xs is none = cut-found xs is ∙ ap (λ t. needs t Range (Ok (with_lines (with_lines now name (remove_range xs from to)) other (slice_range xs from to)))) (range-false xs none)

      pub cut-made : (xs : List Bytes) → lines_of now name ≡ Some xs → HasPart xs
          → edited now (cut name from to other) ≡ Ok (with_lines (with_lines now name (remove_range xs from to)) other (drop from (take to xs)))
      cut-made xs is part =
          cut-found xs is ∙ ap (λ t. needs t Range (Ok (with_lines (with_lines now name (remove_range xs from to)) other (slice_range xs from to)))) (range-true xs part)
          ∙ ap (λ ys. Ok (with_lines (with_lines now name (remove_range xs from to)) other ys)) (part-is from to xs part.0)

  module _ (other : Bytes) where
    pub cat-absent : lines_of now name ≡ None → edited now (cat name other) ≡ Err Absent
    unfolding edited
    cat-absent is = ap (λ o. given o Absent (λ lines. on_lines now other (λ more. room (length lines + length more) (Ok (with_lines now name (lines ++ more)))))) is

    cat-found : (xs : List Bytes) → lines_of now name ≡ Some xs → edited now (cat name other) ≡ on_lines now other (λ more. room (length xs + length more) (Ok (with_lines now name (xs ++ more))))
    unfolding edited
    cat-found xs is = ap (λ o. given o Absent (λ lines. on_lines now other (λ more. room (length lines + length more) (Ok (with_lines now name (lines ++ more)))))) is

    pub cat-missing : (xs : List Bytes) → lines_of now name ≡ Some xs → lines_of now other ≡ None → edited now (cat name other) ≡ Err Absent
    cat-missing xs is none = cat-found xs is ∙ ap (λ o. given o Absent (λ more. room (length xs + length more) (Ok (with_lines now name (xs ++ more))))) none

    cat-both : (xs ys : List Bytes) → lines_of now name ≡ Some xs → lines_of now other ≡ Some ys → edited now (cat name other) ≡ room (length xs + length ys) (Ok (with_lines now name (xs ++ ys)))
    cat-both xs ys is also = cat-found xs is ∙ ap (λ o. given o Absent (λ more. room (length xs + length more) (Ok (with_lines now name (xs ++ more))))) also

    pub cat-full : (xs ys : List Bytes) → lines_of now name ≡ Some xs → lines_of now other ≡ Some ys → most < length xs + length ys → edited now (cat name other) ≡ Err Limit
    cat-full xs ys is also full = cat-both xs ys is also ∙ ap (λ t. needs t Limit (Ok (with_lines now name (xs ++ ys)))) (le-false (length xs + length ys) most full)

    pub cat-made : (xs ys : List Bytes) → lines_of now name ≡ Some xs → lines_of now other ≡ Some ys → length xs + length ys ≤ most → edited now (cat name other) ≡ Ok (with_lines now name (xs ++ ys))
    cat-made xs ys is also short = cat-both xs ys is also ∙ ap (λ t. needs t Limit (Ok (with_lines now name (xs ++ ys)))) (le-true (length xs + length ys) most short)

    pub copy-absent : lines_of now name ≡ None → edited now (copy name other) ≡ Err Absent
    unfolding edited
    copy-absent is = ap (λ o. given o Absent (λ lines. Ok (with_lines now other lines))) is

    pub copy-made : (xs : List Bytes) → lines_of now name ≡ Some xs → edited now (copy name other) ≡ Ok (with_lines now other xs)
    unfolding edited
    copy-made xs is = ap (λ o. given o Absent (λ lines. Ok (with_lines now other lines))) is

  pub drop-absent : lines_of now name ≡ None → edited now (drop_buffer name) ≡ Err Absent
  unfolding edited
  drop-absent is = ap (λ o. given o Absent (λ lines. Ok (without_lines now name))) is

  pub drop-made : (xs : List Bytes) → lines_of now name ≡ Some xs → edited now (drop_buffer name) ≡ Ok (without_lines now name)
  unfolding edited
  drop-made xs is = ap (λ o. given o Absent (λ lines. Ok (without_lines now name))) is

  pub fill-made : (xs : List Bytes) → edited now (fill name xs) ≡ Ok (with_lines now name xs)
  unfolding edited
  fill-made xs = refl

  pub star-made : is_starred now name ≡ false → edited now (star name) ≡ Ok (with_star now name)
  unfolding edited
  star-made none = rw none refl

  pub unstar-made : is_starred now name ≡ true → edited now (unstar name) ≡ Ok (without_star now name)
  unfolding edited
  unstar-made there = rw there refl

-- ## What a command that is an edit comes to

module _ (W : Workspace) (change : PlainEdit) where
  -- what refuses the edit refuses the command
  pub refuses : (why : Refusal) → edited W.current change ≡ Err why → answer W (edit change) ≡ Err why
  unfolding answer
  refuses why is = ap (becomes W) is

  module _ (next : State) (is : edited W.current change ≡ Ok next) where
    pub does : answer W (edit change) ≡ done (with_current W next)
    unfolding answer
    does = ap (becomes W) is

    -- memory may be refused to an edit that nothing else refuses
    pub may-lack : MayLackMemory W (edit change)
    may-lack = record { wants = refl; granted = subst IsOk (sym does) refl }

    -- and so may the room for it
    pub no-room : {s t : RootedHeap} {why : Refusal} → RoomIsRefused s t why → IsRefused (edit change) s t W why
    no-room refused = record { due = subst (λ r. IsDue W (edit change) r) (sym refused.due) may-lack; same = refused.same }

-- ## Texts and lines

abbrev pub AreTexts : Heap Bytes → ℕ → List ℕ → List Bytes → Type 0
AreTexts h bits = AllZip (IsText (form_at h) (IsGoodVector h) bits)

-- a new cell is a text, and it stays one
pub text-made : {old mid new : Heap Bytes} {bits l : ℕ} {text : Bytes} → Adds old mid l (cell text) → Extends mid new → IsCell text → IsText (form_at new) (IsGoodVector new) bits l text
text-made {old} {mid} {new} {bits} {l} {text} adds extends is =
    record { row = ap (λ r. option_map form_of r) (extends.kept l (subst IsSome (sym adds.here) refl) l (here l) ∙ adds.here); line = is }

-- lines stand where every row stays, and so do their texts
pub lines-stay : {old new : Heap Bytes} {bits l : ℕ} {xs : List Bytes} → Extends old new → AreLinesIn old bits l xs → AreLinesIn new bits l xs
lines-stay {old} {new} {bits} {l} {xs} extends are =
    (states-stay old new bits l (extends.kept l (well-live old (height_at old l) l are.vector.shape.well))).lines xs are

pub texts-stay : {old new : Heap Bytes} {bits l : ℕ} {xs : List Bytes} → Extends old new → AreLinesIn old bits l xs → AreTexts new bits (elements old l) xs
texts-stay {old} {new} {bits} {l} {xs} extends are =
    subst (λ es. AreTexts new bits es xs) (extended-same extends l are.vector).1 (lines-stay extends are).values

-- a vector of these elements is one of their texts
pub lines-are : {h : Heap Bytes} {bits l : ℕ} (es : List ℕ) {xs : List Bytes} → IsGoodVector h l → elements h l ≡ es → AreTexts h bits es xs → AreLinesIn h bits l xs
lines-are {h} {bits} es {xs} good same texts = record { vector = good; values = subst (λ ks. AreTexts h bits ks xs) (sym same) texts }

-- and where nothing changes but spares
pub lines-same : {s t : RootedHeap} {l : ℕ} {xs : List Bytes} → IsSame s t → AreLinesIn s.heap s.bits l xs → AreLinesIn t.heap t.bits l xs
lines-same {s} {t} {l} {xs} same are =
    subst (λ (b : ℕ). AreLinesIn t.heap b l xs) (sym same.bits) ((unchanged-stands s.bits same.heap l).lines xs are)

-- ## What is known once room was made

-- there is room for an edit of the buffer
abbrev pub HasBufferRoom : RootedHeap → RootedHeap → Bytes → Workspace → Type 0
HasBufferRoom s t name W = RoomIsMade s t (EDIT_NODES + alike_buffers s.bits W.current name)

-- the lines that a buffer was found to have are there still
pub record HasLines (s t : RootedHeap) (l : ℕ) (name : Bytes) (W : Workspace) : Type 0 where
  pub xs : List Bytes
  pub found : lines_of W.current name ≡ Some xs
  pub before : AreLinesIn s.heap s.bits l xs
  pub now : AreLinesIn t.heap t.bits l xs

-- by what the buffer told of them, and by what was found
pub has-lines : {s t : RootedHeap} {l : ℕ} {name : Bytes} {W : Workspace} → IsSame s t → IsSomeAnd (lines_of W.current name) (AreLinesIn s.heap s.bits l) → HasLines s t l name W
has-lines {s} {t} {l} {name} {W} same is =
    let lines = found-lines s l W.current name is in
    record { xs = lines.0; found = lines.1; before = lines.2; now = lines-same same lines.2 }

pub has-found : {s t : RootedHeap} {l : ℕ} {name : Bytes} {W : Workspace} → IsSame s t → (xs : List Bytes) × (lines_of W.current name ≡ Some xs) × AreLinesIn s.heap s.bits l xs → HasLines s t l name W
has-found same lines = record { xs = lines.0; found = lines.1; before = lines.2; now = lines-same same lines.2 }

-- room for so many names that are alike is room for an edit of the buffer
pub has-room : {s t : RootedHeap} {alike : ℕ} (W : Workspace) (name : Bytes) → alike ≡ alike_buffers s.bits W.current name → RoomIsMade s t (EDIT_NODES + alike) → HasBufferRoom s t name W
has-room {s} {t} W name same made = subst (λ (n : ℕ). RoomIsMade s t (EDIT_NODES + n)) same made

-- a line's text is in a new cell, which is held, and the buffer's lines are there still
pub record HasText (s t : RootedHeap) (mid : Heap Bytes) (k l : ℕ) (name text : Bytes) (W : Workspace) : Type 0 where
  pub room : HasBufferRoom s t name W
  pub lines : HasLines s (record t { heap = mid }) l name W
  pub keeps : Keeps t [] W
  pub answered : Answered t.heap mid [] k 1 0
  pub held : 0 < holds_at mid k
  pub nodes : EDIT_NODES ≤ mid.spare_nodes
  pub adds : Adds t.heap mid k (cell text)
  pub is : IsCell text

pub has-text : {s t : RootedHeap} {mid : Heap Bytes} {k l : ℕ} {name made text : Bytes} {W : Workspace} → Keeps s [] W → HasBufferRoom s t name W → HasLines s t l name W
    → IsCell text → made ≡ text → Adds t.heap mid k (cell made) → Makes t.heap mid 1 0 → hold_count mid ≡ hold_count t.heap + 1 → IsGraph mid → Extends t.heap mid → HasText s t mid k l name text W
has-text {s} {t} {mid} {k} {l} {name} {made} {text} {W} K room lines cell_is same_text adds makes total graph extends =
    let answered = answered-cell extends graph adds total makes in
    record {
      room = room;
      lines = record { xs = lines.xs; found = lines.found; before = lines.before; now = lines-stay extends lines.now };
      keeps = keeps-same room.same K;
      answered = answered;
      held = first-held (keeps-gained (keeps-same room.same K) answered);
      nodes = omega (arith, room.spares.1, makes.spare_nodes);
      adds = subst (λ (b : Bytes). Adds t.heap mid k (cell b)) same_text adds;
      is = cell_is;
    }

-- ## Vectors that were made

-- a vector of these lines was made of so many spares, and is held besides
pub record IsMade (s : RootedHeap) (new : Heap Bytes) (b : List ℕ) (l : ℕ) (xs : List Bytes) (W : Workspace) (c n : ℕ) : Type 0 where
  pub keeps : Keeps (record s { heap = new }) (l ∷ b) W
  pub lines : AreLinesIn new s.bits l xs
  pub rises : Rises s.heap new (c + n)
  pub cells : s.heap.spare_cells ≤ new.spare_cells + c
  pub nodes : s.heap.spare_nodes ≤ new.spare_nodes + n

-- a call made it that spends no hold
pub made-by : {s : RootedHeap} {new : Heap Bytes} {b : List ℕ} {l : ℕ} {xs : List Bytes} {W : Workspace} {c n : ℕ} → Keeps s b W → Answered s.heap new [] l c n → AreLinesIn new s.bits l xs → IsMade s new b l xs W c n
made-by {s} {new} {b} {l} {xs} {W} {c} {n} K a lines = record {
  keeps = keeps-extended (l ∷ b) K a.extends a.graph (λ k. omega (arith, a.holds k, count-cons k l b)) (omega (arith, a.count));
  lines = lines;
  rises = rises-answered a;
  cells = omega (arith, a.cells, a.balance.spare_cells);
  nodes = omega (arith, a.nodes, a.balance.spare_nodes);
}

-- a call made it that spends the hold of a new cell
pub made-with : {s : RootedHeap} {mid new : Heap Bytes} {k l : ℕ} {xs : List Bytes} {W : Workspace} {n : ℕ} → Keeps s [] W → Answered s.heap mid [] k 1 0 → Answered mid new (k ∷ []) l 0 n
    → AreLinesIn new s.bits l xs → IsMade s new [] l xs W 1 n
made-with {s} {mid} {new} {k} {l} {xs} {W} {n} K g a lines = record {
  keeps = keeps-extended (l ∷ []) K (Extends-trans g.extends a.extends) a.graph (λ j. omega (arith, g.holds j, a.holds j, count-cons j l [])) (omega (arith, g.count, a.count));
  lines = lines;
  rises = rises-more (1 + n) (rises-then (rises-answered g) (rises-answered a)) (omega arith);
  cells = omega (arith, g.cells, g.balance.spare_cells, a.cells, a.balance.spare_cells);
  nodes = omega (arith, g.nodes, g.balance.spare_nodes, a.nodes, a.balance.spare_nodes);
}

-- a hold more of a vector that is there is one made of nothing
pub made-again : {s : RootedHeap} {new : Heap Bytes} {k l : ℕ} {xs : List Bytes} {W : Workspace} → Keeps s [] W → Answered s.heap new [] k 0 0 → k ≡ l → AreLinesIn s.heap s.bits l xs → IsMade s new [] k xs W 0 0
made-again {s} {new} {k} {l} {xs} K g same lines = record {
  keeps = keeps-gained K g;
  lines = subst (λ (v : ℕ). AreLinesIn new s.bits v xs) (sym same) (lines-stay g.extends lines);
  rises = rises-answered g;
  cells = omega (arith, g.cells, g.balance.spare_cells);
  nodes = omega (arith, g.nodes, g.balance.spare_nodes);
}

-- the vector that an edit made with the new cell
module _ {s t : RootedHeap} {mid new : Heap Bytes} {k l v n : ℕ} {name text : Bytes} {W : Workspace} (has : HasText s t mid k l name text W) (a : Answered mid new (k ∷ []) v 0 n) (good : IsGoodVector new v) where
  made-of : (es : List ℕ) (ys : List Bytes) → elements new v ≡ es → AreTexts new t.bits es ys → IsMade t new [] v ys W 1 n
  made-of es ys items texts = made-with has.keeps has.answered a (lines-are es good items texts)

  kept : AreTexts new t.bits (elements mid l) has.lines.xs
  kept = texts-stay a.extends has.lines.now

  alone : IsText (form_at new) (IsGoodVector new) t.bits k text
  alone = text-made has.adds a.extends has.is

  pub inserted : (i : ℕ) → elements new v ≡ take i (elements mid l) ++ k ∷ drop i (elements mid l) → IsMade t new [] v (insert has.lines.xs i text) W 1 n
  inserted i items =
      let R : ℕ → Bytes → Type 0 = IsText (form_at new) (IsGoodVector new) t.bits in
      let xs : List Bytes = has.lines.xs in
      made-of (take i (elements mid l) ++ k ∷ drop i (elements mid l)) (insert xs i text) items
      (zip-append R (take i (elements mid l)) (k ∷ drop i (elements mid l)) (take i xs) (text ∷ drop i xs) (zip-take R i (elements mid l) xs kept) (alone, zip-drop R i (elements mid l) xs kept))

-- a part of a buffer, and what is left without it
module _ {s : RootedHeap} {new : Heap Bytes} {b : List ℕ} {l v n : ℕ} {xs : List Bytes} {W : Workspace} (K : Keeps s b W) (are : AreLinesIn s.heap s.bits l xs) (a : Answered s.heap new [] v 0 n) (good : IsGoodVector new v) where
  pub erased : (from to : ℕ) → elements new v ≡ take from (elements s.heap l) ++ drop to (elements s.heap l) → IsMade s new b v (remove_range xs from to) W 0 n
  erased from to items =
      let R : ℕ → Bytes → Type 0 = IsText (form_at new) (IsGoodVector new) s.bits in
      let es : List ℕ = elements s.heap l in
      made-by K a (lines-are (take from es ++ drop to es) good items
      (zip-append R (take from es) (drop to es) (take from xs) (drop to xs) (zip-take R from es xs (texts-stay a.extends are)) (zip-drop R to es xs (texts-stay a.extends are))))

  pub sliced : (from to : ℕ) → elements new v ≡ drop from (take to (elements s.heap l)) → IsMade s new b v (drop from (take to xs)) W 0 n
  sliced from to items =
      let R : ℕ → Bytes → Type 0 = IsText (form_at new) (IsGoodVector new) s.bits in
      let es : List ℕ = elements s.heap l in
      made-by K a (lines-are (drop from (take to es)) good items (zip-drop R from (take to es) (take to xs) (zip-take R to es xs (texts-stay a.extends are))))

  pub joined : (k : ℕ) (ys : List Bytes) → AreLinesIn s.heap s.bits k ys → elements new v ≡ elements s.heap l ++ elements s.heap k → IsMade s new b v (xs ++ ys) W 0 n
  joined k ys also items =
      let R : ℕ → Bytes → Type 0 = IsText (form_at new) (IsGoodVector new) s.bits in
      made-by K a (lines-are (elements s.heap l ++ elements s.heap k) good items
      (zip-append R (elements s.heap l) (elements s.heap k) xs ys (texts-stay a.extends are) (texts-stay a.extends also)))

-- ## How an edit ends

pub cost-edit : (bits : ℕ) (change : PlainEdit) (W : Workspace) → cost bits (edit change) W ≡ edit_cost bits change W.current
unfolding cost
cost-edit bits change W = refl

-- what is alike is so after room was made
pub alike-same : {s t : RootedHeap} → IsSame s t → (now : State) (name : Bytes) → alike_buffers t.bits now name ≡ alike_buffers s.bits now name
alike-same same now name = λ i. alike_buffers (same.bits i) now name

-- room was made and so were the lines: all that it takes to put them into their buffer
pub can-put : {s t : RootedHeap} {new : Heap Bytes} {l c n : ℕ} {xs : List Bytes} {W : Workspace} {key : Option Bytes} (name : Bytes) → HasBufferRoom s t name W → IsMade t new [] l xs W c n → key ≡ new_key (lines_of W.current name) name → c ≤ 1 → n ≤ 78
    → (V : Workspace) × (ys : List Bytes) × Keeps (record t { heap = new }) (l ∷ []) V × AreLinesIn new t.bits l ys × (key ≡ new_key (lines_of V.current name) name) × HasSpares new 1 (WRITTEN_NODES + TURN_NODES + alike_buffers t.bits V.current name)
can-put {s} {t} {xs = xs} {W = W} name room m key few_cells few_nodes =
    (W, xs, m.keeps, m.lines, key, (omega (arith, m.cells, room.spares.0, few_cells), omega (arith, m.nodes, room.spares.1, few_nodes, alike-same room.same W.current name)))

-- the lines were made where there was room for them, and the state turned to the one that has them
pub lines-put : {s t u : RootedHeap} {new : Heap Bytes} {l c n : ℕ} {xs : List Bytes} {W : Workspace} (change : PlainEdit) (name : Bytes) → IsSame s t → IsMade t new [] l xs W c n
    → edited W.current change ≡ Ok (with_lines W.current name xs) → TurnsTo (record t { heap = new }) u [] (WRITTEN_NODES + 1 + TURN_NODES + alike_buffers t.bits W.current name) (with_current W (with_lines W.current name xs))
    → c + n + (WRITTEN_NODES + 1 + TURN_NODES + alike_buffers s.bits W.current name) ≤ edit_cost s.bits change W.current → (IsInPlace (edit change) → ⊥) → IsCarriedOut (edit change) s u W
lines-put {s} {t} {u} {new} {l} {c} {n} {xs} {W} change name same m made turn less apart =
    let turned : TurnsTo (record t { heap = new }) u [] (WRITTEN_NODES + 1 + TURN_NODES + alike_buffers s.bits W.current name) (with_current W (with_lines W.current name xs)) =
    subst (λ (k : ℕ). TurnsTo (record t { heap = new }) u [] (WRITTEN_NODES + 1 + TURN_NODES + alike_buffers k W.current name) (with_current W (with_lines W.current name xs))) same.bits turn in
    record {
      after = with_current W (with_lines W.current name xs);
      told = does W change (with_lines W.current name xs) made;
      turns = turns-after (0 + (c + n)) (cost s.bits (edit change) W) (rises-then (rises-same same.heap) m.rises) same.bits turned (omega (arith, less, cost-edit s.bits change W));
      few_made = λ placed inside. absurd (apart placed);
    }

-- the same after room was made for an edit
pub edit-done : {s t u : RootedHeap} {new : Heap Bytes} {l c n : ℕ} {xs : List Bytes} {W : Workspace} (change : PlainEdit) (name : Bytes) → HasBufferRoom s t name W → IsMade t new [] l xs W c n
    → edited W.current change ≡ Ok (with_lines W.current name xs) → TurnsTo (record t { heap = new }) u [] (WRITTEN_NODES + 1 + TURN_NODES + alike_buffers t.bits W.current name) (with_current W (with_lines W.current name xs))
    → c + n + (WRITTEN_NODES + 1 + TURN_NODES + alike_buffers s.bits W.current name) ≤ edit_cost s.bits change W.current → (IsInPlace (edit change) → ⊥) → IsCarriedOut (edit change) s u W
edit-done change name room m made turn less apart = lines-put change name room.same m made turn less apart

-- room was made, and the state turned to the one in which the buffer is gone
pub drop-done : {s t u : RootedHeap} {new : Heap Bytes} {spent : List ℕ} {l : ℕ} {W : Workspace} {name : Bytes} (xs : List Bytes) → IsSame s t → Answered t.heap new spent l 0 (LEVELS + 1 + alike_buffers t.bits W.current name)
    → lines_of W.current name ≡ Some xs → TurnsTo (record t { heap = new }) u [] TURN_NODES (with_current W (without_lines W.current name)) → IsCarriedOut (edit (drop_buffer name)) s u W
drop-done {s} {t} {u} {new} {W = W} {name = name} xs same g there turn =
    record {
      after = with_current W (without_lines W.current name);
      told = does W (drop_buffer name) (without_lines W.current name) (drop-made W.current name xs there);
      turns = turns-after (0 + (0 + (LEVELS + 1 + alike_buffers t.bits W.current name))) (cost s.bits (edit (drop_buffer name)) W) (rises-then (rises-same same.heap) (rises-answered g)) same.bits turn
          (omega (arith, alike-same same W.current name, cost-edit s.bits (drop_buffer name) W));
      few_made = λ placed inside. absurd placed;
    }

-- what is left of a buffer and its part are both held
pub record HasParts (t : RootedHeap) (new : Heap Bytes) (k l : ℕ) (xs ys : List Bytes) (W : Workspace) (n : ℕ) : Type 0 where
  pub keeps : Keeps (record t { heap = new }) (k ∷ l ∷ []) W
  pub left : AreLinesIn new t.bits k xs
  pub part : AreLinesIn new t.bits l ys
  pub rises : Rises t.heap new n
  pub cells : t.heap.spare_cells ≤ new.spare_cells
  pub nodes : t.heap.spare_nodes ≤ new.spare_nodes + n

pub has-parts : {t : RootedHeap} {mid new : Heap Bytes} {v k l n m : ℕ} {xs : List Bytes} {W : Workspace} (from to : ℕ) → Keeps t [] W → AreLinesIn t.heap t.bits v xs
    → Answered t.heap mid [] k 0 n → IsGoodVector mid k → elements mid k ≡ take from (elements t.heap v) ++ drop to (elements t.heap v)
    → Answered mid new [] l 0 m → IsGoodVector new l → elements new l ≡ drop from (take to (elements mid v)) → HasParts t new k l (remove_range xs from to) (drop from (take to xs)) W (n + m)
has-parts {t} {mid} {new} {v} {k} {l} {n} {m} {xs} {W} from to K are a good items b fine parts =
    let first = erased K are a good from to items in
    let second = sliced {s = record t { heap = mid }} first.keeps (lines-stay a.extends are) b fine from to parts in
    record {
      keeps = keeps-swapped second.keeps;
      left = lines-stay b.extends first.lines;
      part = second.lines;
      rises = rises-more (n + m) (rises-then first.rises second.rises) (omega arith);
      cells = omega (arith, first.cells, second.cells);
      nodes = omega (arith, first.nodes, second.nodes);
    }

-- spares are left to put both into their buffers
pub both-spares-left : {s t : RootedHeap} {new : Heap Bytes} {k l n : ℕ} {xs ys : List Bytes} {W : Workspace} (name other : Bytes) → IsSame s t → HasParts t new k l xs ys W n
    → HasSpares t.heap 2 (EDIT_NODES + (alike_buffers s.bits W.current name + alike_buffers s.bits W.current other)) → n ≤ ERASE_NODES + SLICE_NODES → HasSpares new 2 (2 * WRITTEN_NODES + 1 + TURN_NODES + alike_buffers t.bits W.current name + alike_buffers t.bits W.current other)
both-spares-left {s} {t} {W = W} name other same p spares few =
    (omega (arith, p.cells, spares.0), omega (arith, p.nodes, spares.1, few, alike-same same W.current name, alike-same same W.current other))

-- room was made, the parts were made, and the state turned to the one that has them
pub cut-done : {s t u : RootedHeap} {new : Heap Bytes} {k l n : ℕ} {xs ys : List Bytes} {W : Workspace} {name other : Bytes} (from to : ℕ) → IsSame s t → HasParts t new k l xs ys W n
    → edited W.current (cut name from to other) ≡ Ok (with_lines (with_lines W.current name xs) other ys)
    → TurnsTo (record t { heap = new }) u [] (2 * WRITTEN_NODES + 3 + TURN_NODES + (alike_buffers t.bits W.current name + alike_buffers t.bits W.current other)) (with_current W (with_lines (with_lines W.current name xs) other ys))
    → n ≤ ERASE_NODES + SLICE_NODES → IsCarriedOut (edit (cut name from to other)) s u W
cut-done {s} {t} {u} {new} {n = n} {xs = xs} {ys = ys} {W = W} {name = name} {other = other} from to same p made turn few =
    record {
      after = with_current W (with_lines (with_lines W.current name xs) other ys);
      told = does W (cut name from to other) (with_lines (with_lines W.current name xs) other ys) made;
      turns =
          turns-after (0 + n) (cost s.bits (edit (cut name from to other)) W) (rises-then (rises-same same.heap) p.rises) same.bits turn
          (omega (arith, few, alike-same same W.current name, alike-same same W.current other, cost-edit s.bits (cut name from to other) W));
      few_made = λ placed inside. absurd placed;
    }

-- nothing was done, for a reason that is due
pub edit-refused : {s t : RootedHeap} {W : Workspace} {change : PlainEdit} {why : Refusal} → t ≡ s → IsDue W (edit change) why → IsRefused (edit change) s t W why
edit-refused same due = record { due = due; same = same }

-- a vector without elements has no lines
pub emptied : {s : RootedHeap} {fresh : Heap Bytes} {v n : ℕ} {W : Workspace} → Keeps s [] W → Answered s.heap fresh [] v 0 n → IsGoodVector fresh v → elements fresh v ≡ [] → IsMade s fresh [] v [] W 0 n
emptied K a good items = made-by K a (lines-are [] good items tt)

-- no such buffer is a reason that is due
pub due-absent : (W : Workspace) (change : PlainEdit) {why : Refusal} → why ≡ Absent → edited W.current change ≡ Err Absent → IsDue W (edit change) why
due-absent W change why is = subst (λ w. IsDue W (edit change) w) (sym why) (refuses W change Absent is)

-- the exit of a `?` that passes a refusal on
pub fails : {command : PlainCommand} {s t : RootedHeap} {W : Workspace} (why : Refusal) (r : Result (Unit {0}) Refusal) → IsErrAnd r (λ e. e ≡ why) → IsRefused command s t W why → MatchResult r (λ _. IsCarriedOut command s t W) (IsRefused command s t W)
fails why (Ok x) is refused = absurd is
fails {command} {s} {t} {W} why (Err e) is refused = subst (λ (w : Refusal). IsRefused command s t W w) (sym is) refused

-- and one that isn't want of memory is none
pub passes : (why : Refusal) (r : Result (Unit {0}) Refusal) → IsErrAnd r (λ e. e ≡ why) → (◌≡◌ {A = Result (Unit {0}) Refusal} (Err why) (Err Memory) → ⊥) → r ≡ Err Memory → ⊥
passes why (Ok x) is other told = is
passes why (Err e) is other told = other (sym (ap Err is) ∙ told)

-- ## Calls that have room and spares are done

module _ {X : Type 0} where
  pub inserts : (fault : InsertFault) → (◌≡◌ {A = Result X InsertFault} (Err fault) (Err insert_range) → ⊥) → (◌≡◌ {A = Result X InsertFault} (Err fault) (Err insert_long) → ⊥)
      → (◌≡◌ {A = Result X InsertFault} (Err fault) (Err insert_memory) → ⊥) → ⊥
  inserts insert_range range long memory = range refl
  inserts insert_long range long memory = long refl
  inserts insert_memory range long memory = memory refl

  pub slices : (fault : SliceFault) → (◌≡◌ {A = Result X SliceFault} (Err fault) (Err slice_range_fault) → ⊥) → (◌≡◌ {A = Result X SliceFault} (Err fault) (Err slice_memory) → ⊥) → ⊥
  slices slice_range_fault range memory = range refl
  slices slice_memory range memory = memory refl

  pub joins : (fault : JoinFault) → (◌≡◌ {A = Result X JoinFault} (Err fault) (Err join_long) → ⊥) → (◌≡◌ {A = Result X JoinFault} (Err fault) (Err join_memory) → ⊥) → ⊥
  joins join_long long memory = long refl
  joins join_memory long memory = memory refl
