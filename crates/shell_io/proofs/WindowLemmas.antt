-- The parts of a range of a list.
use Rattle.std.proofs.Common.{◌≡◌, ℕ, ◌+◌, ◌-◌, ◌≤◌, List, ◌++◌, length, take, drop, sym, ap, ◌∙◌, arith, length-drop, length-take-le}
use Rattle.std.proofs.lemmas.List.{take-take, drop-drop, drop-take, take_at}
use Rattle.std.proofs.lemmas.List.Edits.{take-paste}
use Rattle.shell_io.proofs.PiecesLemmas.{take_plus}
use Rattle.std.specs.Prelude.{slice_range}
use Rattle.std.specs.List.{copy_within}
use Rattle.shell_io.specs.Window.{Waiting}

pub length-range : (xs : List ℕ) (a b : ℕ) → a ≤ b → b ≤ length xs → length (slice_range xs a b) ≡ b - a
length-range xs a b h within = length-take-le (b - a) (drop a xs) (omega (arith, length-drop a xs))

pub range_front : (xs : List ℕ) (a b n : ℕ) → a + n ≤ b → slice_range xs a (a + n) ≡ take n (slice_range xs a b)
range_front xs a b n h =
    let same : (a + n) - a ≡ n = omega arith in
    ap (λ m. take m (drop a xs)) same ∙ sym (take-take n (b - a) (drop a xs) (omega arith))

pub range_rest : (xs : List ℕ) (a b n : ℕ) → a + n ≤ b → slice_range xs (a + n) b ≡ drop n (slice_range xs a b)
range_rest xs a b n h =
    let same : n + (b - (a + n)) ≡ b - a = omega arith in
    ap (take (b - (a + n))) (sym (drop-drop n a xs)) ∙ sym (drop-take n (b - (a + n)) (drop a xs)) ∙ ap (λ m. drop n (take m (drop a xs))) same

pub waiting : (v w : Waiting) → v.line ≡ w.line → v.held ≡ w.held → v ≡ w
waiting v w lines helds = λ i. record { line = lines i; held = helds i }

-- what was pulled stands behind the bytes that were moved to the front
pub pulled_behind : (old moved bytes : List ℕ) (start end n size : ℕ) → moved ≡ copy_within old start end 0 →
    length old ≡ size → length bytes ≡ size → start ≤ end → end ≤ size → (end - start) + n ≤ size →
    take (end - start) bytes ≡ take (end - start) moved →
    slice_range (take size (bytes ++ drop (length bytes) moved)) 0 ((end - start) + n)
    ≡ slice_range old start end ++ take n (drop (end - start) bytes)
pulled_behind old moved bytes start end n size moved_is olds news order inside fits front =
    let w : ℕ = end - start in
    let whole : take size (bytes ++ drop (length bytes) moved) ≡ bytes = take_at bytes (drop (length bytes) moved) size news in
    let count : (w + n) - 0 ≡ w + n = omega arith in
    let moved_front : take w moved ≡ slice_range old start end =
    (let same : w ≡ 0 + w = omega arith in ap (λ k. take k moved) same)
    ∙ ap (take (0 + w)) moved_is ∙ take-paste old 0 (drop start old) w (omega arith) (omega (arith, length-drop start old)) in
    ap (λ xs. take ((w + n) - 0) xs) whole ∙ ap (λ k. take k bytes) count ∙ take_plus bytes w n (omega arith)
    ∙ ap (λ xs. xs ++ take n (drop w bytes)) (front ∙ moved_front)
