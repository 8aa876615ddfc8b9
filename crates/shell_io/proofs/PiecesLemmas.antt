-- The pieces of bytes that are put together.
use Rattle.std.proofs.Common.{◌≡◌, ℕ, zero, suc, ◌+◌, ◌-◌, ◌<◌, ◌≤◌, true, false, cond, eqb, List, [], ◌∷◌, ◌++◌, length, take, drop, refl, sym, ap, ◌∙◌, inl, inr, arith, append-nil, length-take-le, take-append-drop}
use Rattle.std.proofs.lemmas.Bool.{ne_eqb, le-leb, lt-leb, cases_Bool, cases_lt}
use Rattle.elem_core.specs.declared.TheConstants.{NEWLINE}
use Rattle.shell_io.specs.Pieces.{at_front, before_first, pieces, ended, pieces_within, IsWhole, IsUnbroken}

-- the first n of two lists, where the first has no more
pub take_past : (n : ℕ) (a b : List ℕ) → length a ≤ n → take n (a ++ b) ≡ a ++ take (n - length a) b
take_past n [] b h = let same : n ≡ n - 0 = omega arith in ap (λ m. take m b) same
take_past zero (x ∷ a) b h = absurd (omega arith)
take_past (suc n) (x ∷ a) b h =
    let same : n - length a ≡ suc n - suc (length a) = omega arith in
    ap (λ l. x ∷ l) (take_past n a b (omega arith) ∙ ap (λ m. a ++ take m b) same)

-- the first n and the next m
pub take_plus : (xs : List ℕ) (n m : ℕ) → n ≤ length xs → take (n + m) xs ≡ take n xs ++ take m (drop n xs)
take_plus xs n m within =
    let size : length (take n xs) ≡ n = length-take-le n xs within in
    let rest : (n + m) - length (take n xs) ≡ m = omega (arith, size) in
    ap (take (n + m)) (sym (take-append-drop n xs)) ∙ take_past (n + m) (take n xs) (drop n xs) (omega (arith, size))
    ∙ ap (λ k. take n xs ++ take k (drop n xs)) rest

unbroken_rest : (x : ℕ) (xs : List ℕ) → IsUnbroken (x ∷ xs) → IsUnbroken xs
unbroken_rest x xs un = λ (k, h, e). un (suc k, (omega arith), e)

unbroken_first : (x : ℕ) (xs : List ℕ) → IsUnbroken (x ∷ xs) → eqb x NEWLINE ≡ false
unbroken_first x xs un = ne_eqb x NEWLINE (λ e. un (0, (omega arith), e))

-- a newline that follows a line ends it
pub pieces-line : (line bytes : List ℕ) → IsUnbroken line → pieces (line ++ NEWLINE ∷ bytes) ≡ line ∷ pieces bytes
unfolding pieces
pieces-line [] bytes un = refl
pieces-line (x ∷ xs) bytes un = rw (unbroken_first x xs un, pieces-line xs bytes (unbroken_rest x xs un))

pub ended-line : (line bytes : List ℕ) → IsUnbroken line → ended (line ++ NEWLINE ∷ bytes) ≡ line ∷ ended bytes
unfolding ended
ended-line [] bytes un = refl
ended-line (x ∷ xs) bytes un = rw (unbroken_first x xs un, ended-line xs bytes (unbroken_rest x xs un))

pub ended-unbroken : (bytes : List ℕ) → IsUnbroken bytes → ended bytes ≡ []
unfolding ended
ended-unbroken [] un = refl
ended-unbroken (x ∷ xs) un = rw (unbroken_first x xs un, ended-unbroken xs (unbroken_rest x xs un))

pub pieces-unbroken : (x : ℕ) (xs : List ℕ) → IsUnbroken (x ∷ xs) → pieces (x ∷ xs) ≡ (x ∷ xs) ∷ []
unfolding pieces
pieces-unbroken x [] un = rw (unbroken_first x [] un)
pieces-unbroken x (y ∷ ys) un =
    rw (unbroken_first x (y ∷ ys) un) (ap (at_front x) (pieces-unbroken y ys (unbroken_rest x (y ∷ ys) un)))

-- bytes have a piece
some_piece : (x : ℕ) (xs : List ℕ) → (first : List ℕ) × (others : List (List ℕ)) × (pieces (x ∷ xs) ≡ first ∷ others)
unfolding pieces
some_piece x xs =
    elim (cases_Bool (eqb x NEWLINE)) [
      | inl e ↦ ([], pieces xs, rw e)
      | inr e ↦ elim (pieces xs) as (λ ps. (first : List ℕ) × (others : List (List ℕ)) × (cond (eqb x NEWLINE) ([] ∷ ps) (at_front x ps) ≡ first ∷ others)) [
        | [] ↦ (x ∷ [], [], rw e)
        | p ∷ ps ↦ (x ∷ p, ps, rw e)
      ]
    ]

first_of : (x : ℕ) (all : List (List ℕ)) (p : List ℕ) (ps : List (List ℕ)) → before_first x all ≡ (x ∷ p) ∷ ps → all ≡ p ∷ ps
first_of x [] p ps e = cc
first_of x (q ∷ qs) p ps e = cc

-- what is left of ended pieces behind a byte that is no newline
record Rest (x : ℕ) (xs : List ℕ) : Type 0 where
  first : List ℕ
  others : List (List ℕ)
  pieces_are : pieces xs ≡ first ∷ others
  whole : IsWhole xs

whole_rest : (x : ℕ) (xs : List ℕ) → eqb x NEWLINE ≡ false → IsWhole (x ∷ xs) → Rest x xs
unfolding pieces ended
whole_rest x [] differs e = let h : before_first x [] ≡ at_front x [] = rw differs at e in absurd (cc)
whole_rest x (y ∷ ys) differs e =
    let (p, ps, is) = some_piece y ys in
    let h : before_first x (ended (y ∷ ys)) ≡ at_front x (pieces (y ∷ ys)) = rw differs at e in
    let h' : before_first x (ended (y ∷ ys)) ≡ (x ∷ p) ∷ ps = h ∙ ap (at_front x) is in
    record { first = p; others = ps; pieces_are = is; whole = first_of x (ended (y ∷ ys)) p ps h' ∙ sym is }

whole_after_newline : (x : ℕ) (xs : List ℕ) → eqb x NEWLINE ≡ true → IsWhole (x ∷ xs) → IsWhole xs
unfolding pieces ended
whole_after_newline x xs is e = let h : [] ∷ ended xs ≡ [] ∷ pieces xs = rw is at e in cc

-- pieces that a newline ends stay apart from what follows
pub pieces-append : (a b : List ℕ) → IsWhole a → pieces (a ++ b) ≡ pieces a ++ pieces b
unfolding pieces
pieces-append [] b w = refl
pieces-append (x ∷ xs) b w =
    elim (cases_Bool (eqb x NEWLINE)) [
      | inl e ↦ rw (e, pieces-append xs b (whole_after_newline x xs e w))
      | inr e ↦
          let r = whole_rest x xs e w in
          rw (e, pieces-append xs b r.whole, r.pieces_are)
    ]

pub ended-append : (a b : List ℕ) → IsWhole a → ended (a ++ b) ≡ pieces a ++ ended b
unfolding pieces ended
ended-append [] b w = refl
ended-append (x ∷ xs) b w =
    elim (cases_Bool (eqb x NEWLINE)) [
      | inl e ↦ rw (e, ended-append xs b (whole_after_newline x xs e w))
      | inr e ↦
          let r = whole_rest x xs e w in
          rw (e, ended-append xs b r.whole, r.pieces_are)
    ]

-- a line behind ended pieces, with its newline
pub pieces-append_line : (a line : List ℕ) → IsWhole a → IsUnbroken line → pieces (a ++ (line ++ NEWLINE ∷ [])) ≡ pieces a ++ line ∷ []
unfolding pieces
pieces-append_line a line w un = pieces-append a _ w ∙ ap (λ ps. pieces a ++ ps) (pieces-line line [] un)

pub IsWhole-append_line : (a line : List ℕ) → IsWhole a → IsUnbroken line → IsWhole (a ++ (line ++ NEWLINE ∷ []))
unfolding ended
IsWhole-append_line a line w un =
    ended-append a _ w ∙ ap (λ ps. pieces a ++ ps) (ended-line line [] un) ∙ sym (pieces-append_line a line w un)

-- a last line with no newline behind ended pieces
pub pieces-append_last : (a line : List ℕ) → IsWhole a → IsUnbroken line → 0 < length line → pieces (a ++ line) ≡ pieces a ++ line ∷ []
pieces-append_last a [] w un h = absurd (omega arith)
pieces-append_last a (x ∷ xs) w un h = pieces-append a _ w ∙ ap (λ ps. pieces a ++ ps) (pieces-unbroken x xs un)

-- bytes with no newline behind ended pieces end none
pub ended-append_unbroken : (a b : List ℕ) → IsWhole a → IsUnbroken b → ended (a ++ b) ≡ pieces a
ended-append_unbroken a b w un = ended-append a b w ∙ ap (λ ps. pieces a ++ ps) (ended-unbroken b un) ∙ append-nil (pieces a)

pub pieces_within-all : (n : ℕ) (bytes : List ℕ) → length bytes ≤ n → pieces_within n bytes ≡ pieces bytes
pieces_within-all n bytes h = rw (le-leb (length bytes) n h)

pub pieces_within-part : (n : ℕ) (bytes : List ℕ) → n < length bytes → pieces_within n bytes ≡ ended (take n bytes)
pieces_within-part n bytes h = rw (lt-leb (length bytes) n h)

-- the ended pieces at the front of an input are the first of those that end within n bytes, if they do
pub pieces_within-front : (n : ℕ) (a b : List ℕ) → IsWhole a → length a ≤ n →
    (others : List (List ℕ)) × (pieces_within n (a ++ b) ≡ pieces a ++ others)
pieces_within-front n a b w h =
    elim (cases_lt n (length (a ++ b))) [
      | inl more ↦ (
        ended (take (n - length a) b),
        pieces_within-part n (a ++ b) more ∙ ap ended (take_past n a b h) ∙ ended-append a _ w,
      )
      | inr all ↦ (pieces b, pieces_within-all n (a ++ b) all ∙ pieces-append a b w)
    ]
