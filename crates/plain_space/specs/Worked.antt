-- Worked examples: lists of commands with their replies from a new space.
use Rattle.std.specs.Prelude.{◌≡◌, ℕ, Bool, true, false, List, [], ◌∷◌, ◌++◌, map, replicate, Ok, Err}
use Prim.Native.String.{String}
use lib.Chars.{codes}
use Rattle.shell_terms.specs.Edit.{Bytes, new, add, set, put, del, cat, cut, copy, drop, star, unstar, fill}
use Rattle.shell_terms.specs.Command.{PlainCommand, join_stars, common_stars, other_stars, join_buffers, edit, merge, mark, unmark, back, undo, redo, begin, «end», abort, history, get, len, show, list, stars, marks, same, eqv, stats, made, read, write, save, load, part, chain, indent, dedent, quit}
use Rattle.plain_space.specs.declared.refusal.Refusal.TheVariants.{Absent, Range, Batch}
use Rattle.plain_space.specs.Workspace.{start, last_of}
use Rattle.plain_space.specs.Answer.{answer, elsewhere}
use Rattle.plain_space.specs.Cost.{cost}
use Rattle.shell_terms.specs.Kinds.{wants_memory}
use Rattle.plain_space.specs.Session.{replies, from}

-- From a new space, the commands get these reply lines.
abbrev pub GetReplies : List PlainCommand → List Bytes → Type 0
GetReplies commands lines = replies start commands ≡ lines

-- Texts as their bytes.
abbrev pub lines : List String → List Bytes
lines = map codes

-- Names and texts of the examples.
abbrev pub a : Bytes
a = codes "a"

abbrev pub b : Bytes
b = codes "b"

abbrev pub c : Bytes
c = codes "c"

abbrev pub p : Bytes
p = codes "p"

abbrev pub q : Bytes
q = codes "q"

abbrev pub r : Bytes
r = codes "r"

abbrev pub v : Bytes
v = codes "v"

abbrev pub w : Bytes
w = codes "w"

abbrev pub x : Bytes
x = codes "x"

abbrev pub y : Bytes
y = codes "y"

abbrev pub z : Bytes
z = codes "z"

-- Lines that a buffer doesn't have, and a name that is taken.
abbrev pub WorkedRanges : Type 0
WorkedRanges = GetReplies
    (edit (new a) ∷ edit (add a x) ∷ get a 1 ∷ show a 1 1 ∷ show a 0 2 ∷ edit (new a) ∷ [])
    (lines ("ok" ∷ "ok" ∷ "! range" ∷ "ok" ∷ "! range" ∷ "! exists" ∷ []))

-- The place after the last line, and buffers that aren't there.
abbrev pub WorkedMissing : Type 0
WorkedMissing = GetReplies
    (edit (new a) ∷ edit (add a x) ∷ edit (set a 1 y) ∷ edit (set b 0 y) ∷ edit (put b 0 y) ∷ edit (del b 0 0) ∷ edit (cat a b) ∷ edit (cat b a) ∷ edit (copy b a) ∷ edit (drop b) ∷ get b 0 ∷ show b 0 0 ∷ len b ∷ [])
    (lines ("ok" ∷ "ok" ∷ "! range" ∷ "! none" ∷ "! none" ∷ "! none" ∷ "! none" ∷ "! none" ∷ "! none" ∷ "! none" ∷ "! none" ∷ "! none" ∷ "! none" ∷ []))

-- Lines put before others, and the place after the last.
abbrev pub WorkedPut : Type 0
WorkedPut = GetReplies
    (edit (new a) ∷ edit (put a 0 x) ∷ edit (put a 0 y) ∷ edit (put a 1 z) ∷ show a 0 3 ∷ edit (put a 4 x) ∷ edit (put a 3 p) ∷ get a 3 ∷ [])
    (lines ("ok" ∷ "ok" ∷ "ok" ∷ "ok" ∷ "= y" ∷ "= z" ∷ "= x" ∷ "ok" ∷ "! range" ∷ "ok" ∷ "= p" ∷ []))

-- Lines that are cut, joined and deleted.
abbrev pub WorkedCut : Type 0
WorkedCut = GetReplies
    (edit (new a) ∷ edit (add a p) ∷ edit (add a q) ∷ edit (add a r) ∷ edit (cut a 0 2 b) ∷ show b 0 2 ∷ len a ∷ edit (cat a b) ∷ show a 0 3 ∷ edit (del a 1 3) ∷ len a ∷ [])
    (lines ("ok" ∷ "ok" ∷ "ok" ∷ "ok" ∷ "ok" ∷ "= p" ∷ "= q" ∷ "ok" ∷ "= 1" ∷ "ok" ∷ "= r" ∷ "= p" ∷ "= q" ∷ "ok" ∷ "ok" ∷ "= 1" ∷ []))

-- Lines cut from a buffer into itself, and ranges that are none.
abbrev pub WorkedCutItself : Type 0
WorkedCutItself = GetReplies
    (edit (new a) ∷ edit (add a x) ∷ edit (add a y) ∷ edit (cut a 1 0 b) ∷ edit (cut a 0 3 b) ∷ edit (cut b 0 0 a) ∷ edit (cut a 0 1 a) ∷ show a 0 1 ∷ len a ∷ [])
    (lines ("ok" ∷ "ok" ∷ "ok" ∷ "! range" ∷ "! range" ∷ "! none" ∷ "ok" ∷ "= x" ∷ "ok" ∷ "= 1" ∷ []))

-- A copy stays when the first is gone, and takes the place of what was there.
abbrev pub WorkedCopy : Type 0
WorkedCopy = GetReplies
    (edit (new a) ∷ edit (add a x) ∷ edit (copy a b) ∷ edit (drop a) ∷ len a ∷ list ∷ undo ∷ edit (add a y) ∷ edit (copy a b) ∷ show b 0 2 ∷ [])
    (lines ("ok" ∷ "ok" ∷ "ok" ∷ "ok" ∷ "! none" ∷ "= b 1" ∷ "ok" ∷ "ok" ∷ "ok" ∷ "ok" ∷ "= x" ∷ "= y" ∷ "ok" ∷ []))

-- A buffer is made of lines, and has its lines replaced, each time in one step of undo.
abbrev pub WorkedFill : Type 0
WorkedFill = GetReplies
    (edit (fill a (x ∷ y ∷ [])) ∷ show a 0 2 ∷ edit (fill a (z ∷ [])) ∷ show a 0 1 ∷ len a ∷ undo ∷ len a ∷ edit (fill b []) ∷ list ∷ redo ∷ [])
    (lines ("ok" ∷ "= x" ∷ "= y" ∷ "ok" ∷ "ok" ∷ "= z" ∷ "ok" ∷ "= 1" ∷ "ok" ∷ "= 2" ∷ "ok" ∷ "= a 2" ∷ "= b 0" ∷ "ok" ∷ "! empty" ∷ []))

-- A buffer is doubled until it would pass the most lines.
abbrev pub WorkedDoubling : Type 0
WorkedDoubling = GetReplies
    (edit (new a) ∷ edit (add a x) ∷ replicate 32 (edit (cat a a)) ++ len a ∷ [])
    (replicate 33 (codes "ok") ++ lines ("! limit" ∷ "= 2147483648" ∷ []))

-- A buffer with more lines than there is time to compare is the same as its copy, and so are two versions with both.
abbrev pub WorkedDoubledEqual : Type 0
WorkedDoubledEqual = GetReplies
    (edit (new a) ∷ edit (add a x) ∷ replicate 31 (edit (cat a a)) ++ edit (copy a b) ∷ mark v ∷ edit (new c) ∷ edit (drop c) ∷ mark w ∷ replicate 100 (same a b) ++ replicate 100 (eqv v w))
    (replicate 38 (codes "ok") ++ replicate 200 (codes "= yes"))

-- Stars, and names in byte order.
abbrev pub WorkedStars : Type 0
WorkedStars = GetReplies
    (edit (star z) ∷ edit (star z) ∷ edit (new b) ∷ edit (new (codes "B")) ∷ edit (copy b c) ∷ same b c ∷ list ∷ stars ∷ edit (unstar y) ∷ undo ∷ list ∷ [])
    (lines ("ok" ∷ "! exists" ∷ "ok" ∷ "ok" ∷ "ok" ∷ "= yes" ∷ "= B 0" ∷ "= b 0" ∷ "= c 0" ∷ "ok" ∷ "= z" ∷ "ok" ∷ "! none" ∷ "ok" ∷ "= B 0" ∷ "= b 0" ∷ "ok" ∷ []))

-- An edit after an undo empties redo.
abbrev pub WorkedUndo : Type 0
WorkedUndo = GetReplies
    (edit (new a) ∷ edit (add a x) ∷ undo ∷ edit (add a y) ∷ redo ∷ get a 0 ∷ [])
    (lines ("ok" ∷ "ok" ∷ "ok" ∷ "ok" ∷ "! empty" ∷ "= y" ∷ []))

-- An undo takes back a star, and a redo sets it again.
abbrev pub WorkedUndoStar : Type 0
WorkedUndoStar = GetReplies
    (edit (star z) ∷ edit (star y) ∷ stars ∷ edit (unstar z) ∷ undo ∷ undo ∷ stars ∷ redo ∷ redo ∷ stars ∷ redo ∷ [])
    (lines ("ok" ∷ "ok" ∷ "= y" ∷ "= z" ∷ "ok" ∷ "ok" ∷ "ok" ∷ "ok" ∷ "= z" ∷ "ok" ∷ "ok" ∷ "ok" ∷ "= y" ∷ "ok" ∷ "! empty" ∷ []))

-- Versions are named, compared, listed and taken away.
abbrev pub WorkedMarks : Type 0
WorkedMarks = GetReplies
    (mark v ∷ mark v ∷ edit (new a) ∷ mark w ∷ eqv v w ∷ marks ∷ unmark v ∷ back v ∷ unmark v ∷ mark p ∷ marks ∷ [])
    (lines ("ok" ∷ "! exists" ∷ "ok" ∷ "ok" ∷ "= no" ∷ "= v" ∷ "= w" ∷ "ok" ∷ "ok" ∷ "! none" ∷ "! none" ∷ "ok" ∷ "= p" ∷ "= w" ∷ "ok" ∷ []))

-- A version that is current again can be undone, and stays a version.
abbrev pub WorkedBack : Type 0
WorkedBack = GetReplies
    (edit (new a) ∷ edit (add a p) ∷ mark v ∷ edit (set a 0 x) ∷ get a 0 ∷ back v ∷ get a 0 ∷ undo ∷ get a 0 ∷ redo ∷ get a 0 ∷ marks ∷ [])
    (lines ("ok" ∷ "ok" ∷ "ok" ∷ "ok" ∷ "= x" ∷ "ok" ∷ "= p" ∷ "ok" ∷ "= x" ∷ "ok" ∷ "= p" ∷ "= v" ∷ "ok" ∷ []))

-- A batch that ends is one step of undo, and empties redo.
abbrev pub WorkedBatch : Type 0
WorkedBatch = GetReplies
    (edit (new a) ∷ begin ∷ edit (add a x) ∷ edit (add a y) ∷ end ∷ undo ∷ len a ∷ redo ∷ len a ∷ undo ∷ begin ∷ edit (add a z) ∷ end ∷ redo ∷ len a ∷ [])
    (lines ("ok" ∷ "ok" ∷ "ok" ∷ "ok" ∷ "ok" ∷ "ok" ∷ "= 0" ∷ "ok" ∷ "= 2" ∷ "ok" ∷ "ok" ∷ "ok" ∷ "ok" ∷ "! empty" ∷ "= 1" ∷ []))

-- A batch that is given up leaves all as it was, undo and redo too.
abbrev pub WorkedAbort : Type 0
WorkedAbort = GetReplies
    (edit (new a) ∷ edit (add a p) ∷ edit (add a q) ∷ undo ∷ begin ∷ edit (set a 0 x) ∷ get a 0 ∷ save p ∷ abort ∷ get a 0 ∷ end ∷ redo ∷ undo ∷ undo ∷ len a ∷ [])
    (lines ("ok" ∷ "ok" ∷ "ok" ∷ "ok" ∷ "ok" ∷ "ok" ∷ "= x" ∷ "! batch" ∷ "ok" ∷ "= p" ∷ "! batch" ∷ "ok" ∷ "ok" ∷ "ok" ∷ "= 0" ∷ []))

-- What a batch refuses, and what is refused where none is open.
abbrev pub WorkedInBatch : Type 0
WorkedInBatch = GetReplies
    (end ∷ abort ∷ begin ∷ begin ∷ mark v ∷ unmark v ∷ back v ∷ undo ∷ redo ∷ save p ∷ load p ∷ history 1 ∷ eqv v v ∷ edit (new a) ∷ same a a ∷ end ∷ redo ∷ undo ∷ list ∷ undo ∷ quit ∷ [])
    (lines ("! batch" ∷ "! batch" ∷ "ok" ∷ "! batch" ∷ "! batch" ∷ "! batch" ∷ "! batch" ∷ "! batch" ∷ "! batch" ∷ "! batch" ∷ "! batch" ∷ "! batch" ∷ "! none" ∷ "ok" ∷ "= yes" ∷ "ok" ∷ "! empty" ∷ "ok" ∷ "ok" ∷ "! empty" ∷ "ok" ∷ []))

-- The last so many of a list: none, some, all of it, and all of it where it has no more.
pub record WorkedLast : Type 0 where
  pub none : last_of 0 (x ∷ y ∷ z ∷ []) ≡ []
  pub two : last_of 2 (x ∷ y ∷ z ∷ []) ≡ y ∷ z ∷ []
  pub three : last_of 3 (x ∷ y ∷ z ∷ []) ≡ x ∷ y ∷ z ∷ []
  pub no_more : last_of 4 (x ∷ y ∷ z ∷ []) ≡ x ∷ y ∷ z ∷ []

-- Undo keeps the last states, as many as the bound says, by an edit, by `back` and by the end of a batch.
abbrev pub WorkedHistory : Type 0
WorkedHistory = GetReplies
    (history 1 ∷ edit (new a) ∷ edit (new b) ∷ undo ∷ undo ∷ list ∷ mark v ∷ edit (drop a) ∷ back v ∷ undo ∷ undo ∷ list ∷ edit (new b) ∷ begin ∷ edit (new c) ∷ end ∷ undo ∷ undo ∷ list ∷ [])
    (lines ("ok" ∷ "ok" ∷ "ok" ∷ "ok" ∷ "! empty" ∷ "= a 0" ∷ "ok" ∷ "ok" ∷ "ok" ∷ "ok" ∷ "ok" ∷ "! empty" ∷ "ok" ∷ "ok" ∷ "ok" ∷ "ok" ∷ "ok" ∷ "ok" ∷ "! empty" ∷ "= b 0" ∷ "ok" ∷ []))

-- And by `redo`, where the bound has become less since the undo.
abbrev pub WorkedRedoCut : Type 0
WorkedRedoCut = GetReplies
    (edit (new a) ∷ edit (new b) ∷ edit (new c) ∷ undo ∷ undo ∷ history 1 ∷ redo ∷ redo ∷ undo ∷ undo ∷ list ∷ [])
    (lines ("ok" ∷ "ok" ∷ "ok" ∷ "ok" ∷ "ok" ∷ "ok" ∷ "ok" ∷ "ok" ∷ "ok" ∷ "! empty" ∷ "= a 0" ∷ "= b 0" ∷ "ok" ∷ []))

-- A bound of none keeps no state, and a redo goes by it too.
abbrev pub WorkedNoHistory : Type 0
WorkedNoHistory = GetReplies
    (edit (new a) ∷ edit (new b) ∷ undo ∷ history 0 ∷ redo ∷ undo ∷ list ∷ edit (drop a) ∷ undo ∷ begin ∷ edit (new c) ∷ end ∷ undo ∷ list ∷ [])
    (lines ("ok" ∷ "ok" ∷ "ok" ∷ "ok" ∷ "ok" ∷ "! empty" ∷ "= a 0" ∷ "= b 0" ∷ "ok" ∷ "ok" ∷ "! empty" ∷ "ok" ∷ "ok" ∷ "ok" ∷ "! empty" ∷ "= b 0" ∷ "= c 0" ∷ "ok" ∷ []))

-- A bound isn't set in a batch, and neither undo nor redo brings an older one back. A smaller one cuts at once, from the oldest on, and
-- a greater one brings nothing back.
abbrev pub WorkedHistoryStays : Type 0
WorkedHistoryStays = GetReplies
    (begin ∷ history 2 ∷ abort ∷ edit (new a) ∷ history 2 ∷ undo ∷ redo ∷ edit (new b) ∷ edit (new c) ∷ undo ∷ undo ∷ undo ∷ list ∷ redo ∷ redo ∷ history 1 ∷ history 4 ∷ undo ∷ undo ∷ list ∷ edit (new c) ∷ undo ∷ list ∷ [])
    (lines ("ok" ∷ "! batch" ∷ "ok" ∷ "ok" ∷ "ok" ∷ "ok" ∷ "ok" ∷ "ok" ∷ "ok" ∷ "ok" ∷ "ok" ∷ "! empty" ∷ "= a 0" ∷ "ok" ∷ "ok" ∷ "ok" ∷ "ok" ∷ "ok" ∷ "ok" ∷ "! empty" ∷ "= a 0" ∷ "= b 0" ∷ "ok" ∷ "ok" ∷ "ok" ∷ "= a 0" ∷ "= b 0" ∷ "ok" ∷ []))

-- Buffers are the same by their lines alone, and both have to be there.
abbrev pub WorkedEqualLines : Type 0
WorkedEqualLines = GetReplies
    (edit (new a) ∷ edit (add a x) ∷ same a a ∷ same a b ∷ same b a ∷ edit (copy a b) ∷ same a b ∷ edit (set b 0 y) ∷ same a b ∷ edit (set b 0 x) ∷ same b a ∷ edit (add b x) ∷ same a b ∷ [])
    (lines ("ok" ∷ "ok" ∷ "= yes" ∷ "! none" ∷ "! none" ∷ "ok" ∷ "= yes" ∷ "ok" ∷ "= no" ∷ "ok" ∷ "= yes" ∷ "ok" ∷ "= no" ∷ []))

-- A version is the same again where a buffer is changed and changed back. It differs by one line, by one name or by stars alone.
abbrev pub WorkedEqualVersions : Type 0
WorkedEqualVersions = GetReplies
    (edit (new a) ∷ edit (add a x) ∷ mark v ∷ edit (set a 0 y) ∷ mark p ∷ eqv v p ∷ edit (set a 0 x) ∷ mark w ∷ eqv v w ∷ edit (star z) ∷ mark z ∷ eqv v z ∷ edit (unstar z) ∷ edit (copy a b) ∷ edit (drop a) ∷ mark q ∷ eqv v q ∷ eqv v y ∷ eqv y v ∷ eqv v v ∷ [])
    (lines ("ok" ∷ "ok" ∷ "ok" ∷ "ok" ∷ "ok" ∷ "= no" ∷ "ok" ∷ "ok" ∷ "= yes" ∷ "ok" ∷ "ok" ∷ "= no" ∷ "ok" ∷ "ok" ∷ "ok" ∷ "ok" ∷ "= no" ∷ "! none" ∷ "! none" ∷ "= yes" ∷ []))

-- The stars that a version has too, those of both, and those that a version that isn't there hasn't.
abbrev pub WorkedStarMerges : Type 0
WorkedStarMerges = GetReplies
    (edit (star x) ∷ edit (star y) ∷ mark v ∷ edit (unstar x) ∷ edit (star z) ∷ merge common_stars v ∷ stars ∷ undo ∷ merge join_stars v ∷ stars ∷ merge other_stars w ∷ [])
    (lines ("ok" ∷ "ok" ∷ "ok" ∷ "ok" ∷ "ok" ∷ "ok" ∷ "= y" ∷ "ok" ∷ "ok" ∷ "ok" ∷ "= x" ∷ "= y" ∷ "= z" ∷ "ok" ∷ "! none" ∷ []))

-- The stars that a version hasn't; and three merges with a version that isn't there.
abbrev pub WorkedStarLess : Type 0
WorkedStarLess = GetReplies
    (edit (star x) ∷ edit (star y) ∷ mark v ∷ edit (unstar x) ∷ edit (star z) ∷ merge other_stars v ∷ stars ∷ merge join_stars w ∷ merge common_stars w ∷ merge join_buffers w ∷ stars ∷ [])
    (lines ("ok" ∷ "ok" ∷ "ok" ∷ "ok" ∷ "ok" ∷ "ok" ∷ "= z" ∷ "ok" ∷ "! none" ∷ "! none" ∷ "! none" ∷ "= z" ∷ "ok" ∷ []))

-- A version's buffers come to those that are there, which keep their lines.
abbrev pub WorkedMerge : Type 0
WorkedMerge = GetReplies
    (edit (new a) ∷ edit (add a p) ∷ edit (new b) ∷ mark v ∷ edit (drop b) ∷ edit (set a 0 q) ∷ merge join_buffers v ∷ get a 0 ∷ list ∷ [])
    (lines ("ok" ∷ "ok" ∷ "ok" ∷ "ok" ∷ "ok" ∷ "ok" ∷ "ok" ∷ "= q" ∷ "= a 1" ∷ "= b 0" ∷ "ok" ∷ []))

-- A merge is one step of undo. In a batch it goes with the batch, given up or undone.
abbrev pub WorkedMergeSteps : Type 0
WorkedMergeSteps = GetReplies
    (edit (star x) ∷ mark v ∷ edit (unstar x) ∷ begin ∷ merge join_stars v ∷ stars ∷ abort ∷ stars ∷ begin ∷ edit (star y) ∷ merge join_stars v ∷ end ∷ stars ∷ undo ∷ stars ∷ merge join_stars v ∷ redo ∷ undo ∷ stars ∷ [])
    (lines ("ok" ∷ "ok" ∷ "ok" ∷ "ok" ∷ "ok" ∷ "= x" ∷ "ok" ∷ "ok" ∷ "ok" ∷ "ok" ∷ "ok" ∷ "ok" ∷ "ok" ∷ "= x" ∷ "= y" ∷ "ok" ∷ "ok" ∷ "ok" ∷ "ok" ∷ "! empty" ∷ "ok" ∷ "ok" ∷ []))

-- What the space or the store has to say something to.
abbrev pub on_devices : List PlainCommand
on_devices = stats ∷ made ∷ read a p ∷ write a p ∷ save p ∷ load p ∷ []

-- What the workspace refuses of these in a new space, and in a batch with one buffer. What the others reply isn't said here.
pub record WorkedElsewhere : Type 0 where
  pub outside : map (answer start) on_devices ≡ Ok elsewhere ∷ Ok elsewhere ∷ Ok elsewhere ∷ Err Absent ∷ Ok elsewhere ∷ Ok elsewhere ∷ []
  pub in_batch :
      from start (edit (new a) ∷ begin ∷ []) (λ work. map (answer work) on_devices)
      ≡ Ok elsewhere ∷ Ok elsewhere ∷ Ok elsewhere ∷ Ok elsewhere ∷ Err Batch ∷ Err Batch ∷ []

-- Chains of documents by the number of the last, and lines moved by so many spaces: the least and the most, and one past them.
abbrev pub on_documents : List PlainCommand
on_documents =
    part p 0 ∷ part p 1 ∷ part p 64 ∷ part p 65 ∷ chain p 0 ∷ chain p 1 ∷ chain p 64 ∷ chain p 65
    ∷ indent 80 p ∷ indent 81 p ∷ dedent 80 p ∷ dedent 81 p ∷ []

-- What is refused of these: in a batch all, before their numbers are looked at.
pub record WorkedDocuments : Type 0 where
  pub outside :
      map (answer start) on_documents
      ≡ Err Range ∷ Ok elsewhere ∷ Ok elsewhere ∷ Err Range ∷ Err Range ∷ Ok elsewhere ∷ Ok elsewhere ∷ Err Range
      ∷ Ok elsewhere ∷ Err Range ∷ Ok elsewhere ∷ Err Range ∷ []
  pub in_batch : from start (begin ∷ []) (λ work. map (answer work) on_documents) ≡ replicate 12 (Err Batch)

-- The costs of commands by so many bits, in a workspace with two buffers, a star and a version.
abbrev pub costs : ℕ → List PlainCommand → List ℕ
costs bits commands =
    from start (edit (new a) ∷ edit (new b) ∷ edit (star z) ∷ mark v ∷ [])
    (λ work. map (λ command. cost bits command work) commands)

-- Commands that write the map of the buffers, with names that are there and with new ones.
abbrev pub on_buffers : List PlainCommand
on_buffers =
    edit (new c) ∷ edit (add a x) ∷ edit (set a 0 x) ∷ edit (put a 0 x) ∷ edit (del a 0 0) ∷ edit (cat a b) ∷ edit (cut a 0 0 b)
    ∷ edit (cut a 0 0 c) ∷ edit (copy a b) ∷ edit (copy a c) ∷ edit (drop a) ∷ edit (fill a (x ∷ y ∷ [])) ∷ edit (fill c []) ∷ []

-- Commands that write the stars or the versions.
abbrev pub on_names : List PlainCommand
on_names = edit (star a) ∷ edit (unstar z) ∷ mark w ∷ unmark v ∷ []

-- Merges with a version, and with one that isn't there.
abbrev pub on_merges : List PlainCommand
on_merges = merge join_stars v ∷ merge common_stars v ∷ merge other_stars v ∷ merge join_buffers v ∷ merge join_buffers w ∷ []

-- Commands that write states or lists of states.
abbrev pub on_states : List PlainCommand
on_states = back v ∷ undo ∷ redo ∷ end ∷ history 1 ∷ []

-- Commands that write nothing.
abbrev pub on_nothing : List PlainCommand
on_nothing =
    begin ∷ abort ∷ get a 0 ∷ len a ∷ show a 0 0 ∷ list ∷ stars ∷ marks ∷ same a b ∷ eqv v v ∷ stats ∷ made ∷ write a p ∷ save p ∷ part p 1 ∷ chain p 1 ∷ indent 1 p ∷ dedent 1 p ∷ quit ∷ []

-- A cost counts the names of the written map whose codes are alike: all by no bits, and by all bits the name itself. That of a merge
-- counts the names of both.
pub record WorkedCost : Type 0 where
  pub buffers_alike : costs 0 on_buffers ≡ 258 ∷ 258 ∷ 258 ∷ 770 ∷ 770 ∷ 322 ∷ 772 ∷ 772 ∷ 258 ∷ 258 ∷ 258 ∷ 262 ∷ 258 ∷ []
  pub buffers_apart : costs 64 on_buffers ≡ 256 ∷ 257 ∷ 257 ∷ 769 ∷ 769 ∷ 321 ∷ 770 ∷ 769 ∷ 257 ∷ 256 ∷ 257 ∷ 261 ∷ 256 ∷ []
  pub names_alike : costs 0 on_names ≡ 257 ∷ 257 ∷ 65 ∷ 65 ∷ []
  pub names_apart : costs 64 on_names ≡ 256 ∷ 257 ∷ 64 ∷ 65 ∷ []
  pub merges : costs 0 on_merges ≡ 288 ∷ 288 ∷ 288 ∷ 320 ∷ 0 ∷ []
  pub states : costs 0 on_states ≡ 256 ∷ 64 ∷ 256 ∷ 256 ∷ 256 ∷ []
  pub nothing : costs 0 on_nothing ≡ replicate 19 0

-- Whether each of the commands may want memory.
abbrev pub wants : List PlainCommand → List Bool
wants = map wants_memory

-- Memory is wanted where rows are made, names are sorted, or a file is written or read; and not where a command only looks,
-- begins or gives up a batch, or quits.
pub record WorkedMemory : Type 0 where
  pub buffers : wants on_buffers ≡ replicate 13 true
  pub names : wants on_names ≡ replicate 4 true
  pub merges : wants on_merges ≡ replicate 5 true
  pub states : wants on_states ≡ replicate 5 true
  pub sorting : wants (list ∷ stars ∷ marks ∷ []) ≡ replicate 3 true
  pub files : wants (read a p ∷ write a p ∷ save p ∷ load p ∷ on_documents) ≡ replicate 16 true
  pub looking : wants (begin ∷ abort ∷ get a 0 ∷ len a ∷ show a 0 0 ∷ same a b ∷ eqv v v ∷ stats ∷ made ∷ quit ∷ []) ≡ replicate 10 false
