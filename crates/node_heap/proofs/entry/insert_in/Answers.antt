use Rattle.std.proofs.Common.{arith, ◌≡◌, ◌+◌, ◌-◌, ◌<◌, ◌≤◌, ℕ, List, [], ◌∷◌, ◌++◌, length, take, drop, set, refl, sym, ap, ◌∙◌, length-set, length-drop}
use Rattle.std.specs.Prelude.{insert}
use Rattle.std.proofs.lemmas.List.{length-take-le, length_push, take-take, take-set-le, take_more_set, take_at, drop_at, drop-take, drop-append-le}
use Rattle.std.proofs.lemmas.Slice.{take-put_mid}
use borrow.Rule.Slice.PartMut.{put_mid}
use Rattle.node_heap.proofs.entry.insert_in.Goals as goal

-- where the links behind a place and one at the end change sides, that one stands at the place
inserted : (xs ys : List ℕ) (n i x : ℕ) → i ≤ n → n < length xs
    → ys ≡ drop (length (take (n + 1 - i) (drop i (set xs n x))) - 1) (take (n + 1 - i) (drop i (set xs n x))) ++ take (length (take (n + 1 - i) (drop i (set xs n x))) - 1) (take (n + 1 - i) (drop i (set xs n x)))
    → take (n + 1) (put_mid i (n + 1 - i) (set xs n x) ys) ≡ insert (take n xs) i x
inserted xs ys n i x le lt turned =
    let all : length (set xs n x) ≡ length xs = length-set xs n x in
    let back : List ℕ = drop i (take n xs) in
    let front-size : length (take n xs) ≡ n = length-take-le n xs (omega (arith, lt)) in
    let size : length back ≡ n - i = omega (arith, length-drop i (take n xs), front-size) in
    let whole : i + (n + 1 - i) ≡ n + 1 = omega (arith, le) in
    let part : take (n + 1 - i) (drop i (set xs n x)) ≡ back ++ x ∷ [] =
    sym (drop-take i (n + 1 - i) (set xs n x)) ∙ rw (whole, take_more_set xs n x lt) (drop-append-le i (take n xs) (x ∷ []) (omega (arith, front-size, le))) in
    let last : length (take (n + 1 - i) (drop i (set xs n x))) - 1 ≡ n - i = omega (arith, ap length part, length_push back x, size) in
    let is : ys ≡ x ∷ back = turned ∙ rw (last, part, drop_at back (x ∷ []) (n - i) size, take_at back (x ∷ []) (n - i) size) refl in
    let many : length ys ≡ n + 1 - i = omega (arith, ap length is, length_push back x, size, le) in
    let first : take i (set xs n x) ≡ take i (take n xs) = take-set-le i xs n x le ∙ sym (take-take i n xs le) in
    take-put_mid i (n + 1 - i) (set xs n x) ys (n + 1) (omega (arith, many, le)) (omega (arith, all, lt, le)) ∙ rw (first, is) refl

pub returns-clause-links : goal.returns-clause-links
returns-clause-links c = inserted c.args.items.now c.rotate_right.new.self c.args.len c.args.index c.args.link c.requires.index c.requires.room c.rotate_right.ensures.after
