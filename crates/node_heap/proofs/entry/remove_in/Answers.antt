use Rattle.std.proofs.Common.{arith, ◌≡◌, ◌+◌, ◌-◌, ◌<◌, ◌≤◌, ℕ, suc, List, ◌++◌, length, take, drop, refl, sym, ap, ◌∙◌, length-drop, length-append, append_assoc}
use Rattle.std.specs.Prelude.{remove}
use Rattle.std.proofs.lemmas.List.{length-take-le, take-take, take_at, drop-take, drop-drop}
use Rattle.std.proofs.lemmas.Slice.{take-put_mid}
use borrow.Rule.Slice.PartMut.{put_mid}
use Rattle.node_heap.proofs.entry.remove_in.Goals as goal

-- where the link at a place and those behind it change sides, that one stands at the end
removed : (xs ys : List ℕ) (n i : ℕ) → i < n → n ≤ length xs → ys ≡ drop 1 (take (n - i) (drop i xs)) ++ take 1 (take (n - i) (drop i xs)) → take (n - 1) (put_mid i (n - i) xs ys) ≡ remove (take n xs) i
removed xs ys n i lt le turned =
    let back : List ℕ = drop i (take n xs) in
    let size : length (take n xs) ≡ n = length-take-le n xs le in
    let whole : i + (n - i) ≡ n = omega (arith, lt) in
    let part : take (n - i) (drop i xs) ≡ back = rw whole at (sym (drop-take i (n - i) xs)) in
    let is : ys ≡ drop 1 back ++ take 1 back = rw part at turned in
    let front : take i (take n xs) ≡ take i xs = take-take i n xs (omega (arith, lt)) in
    let long : length back ≡ n - i = omega (arith, length-drop i (take n xs), size) in
    let one : length (take 1 back) ≡ 1 = length-take-le 1 back (omega (arith, long, lt)) in
    let rest : length (drop 1 back) ≡ n - i - 1 = omega (arith, length-drop 1 back, long) in
    let many : length ys ≡ n - i = omega (arith, ap length is, length-append (drop 1 back) (take 1 back), one, rest, lt) in
    let all : take n (put_mid i (n - i) xs ys) ≡ (take i xs ++ drop 1 back) ++ take 1 back =
    take-put_mid i (n - i) xs ys n (omega (arith, many, lt)) (omega (arith, lt, le)) ∙ rw is (sym (append_assoc (take i xs) (drop 1 back) (take 1 back))) in
    let kept : length (take i xs ++ drop 1 back) ≡ n - 1 = omega (arith, length-append (take i xs) (drop 1 back), length-take-le i xs (omega (arith, lt, le)), rest, lt) in
    let one_on : i + 1 ≡ suc i = omega arith in
    let next : drop 1 back ≡ drop (suc i) (take n xs) = rw (drop-drop 1 i (take n xs), one_on) refl in
    sym (take-take (n - 1) n (put_mid i (n - i) xs ys) (omega arith)) ∙ rw all (take_at (take i xs ++ drop 1 back) (take 1 back) (n - 1) kept ∙ rw (front, next) refl)

pub returns-clause-links : goal.returns-clause-links
returns-clause-links c = removed c.args.items.now c.rotate_left.new.self c.args.len c.args.index c.requires.index c.requires.inside c.rotate_left.ensures.after
