-- What was read where a quit piece was given.
use Rattle.std.proofs.Common.{◌≡◌, ℕ, ◌+◌, ◌-◌, ◌≤◌, List, [], ◌∷◌, ◌++◌, length, take, sym, ap, ◌∙◌, subst, refl, arith, length-append, false, ◌==◌, inl, inr, ◌⊎◌}
use Rattle.std.proofs.lemmas.Bool.{cases_lt, cases_Bool}
use Rattle.std.proofs.lemmas.List.{append-nil, length-take-le, take_all, take-append-le, take-take, take_at}
use Rattle.std.specs.declared.option.Option.{Option}
use Rattle.elem_core.specs.declared.TheConstants.{NEWLINE}
use Rattle.shell_io.specs.Pieces.{at_front, before_first, pieces, ended, pieces_within}
use Rattle.shell_io.specs.Reader.{Reading, StandsIn, pieces_given}
use Rattle.shell_io.proofs.PiecesLemmas.{take_past, ended-append, pieces_within-all, pieces_within-part}
use Rattle.ewig_shell.specs.Quits.{HasQuit, is_quit}
use Rattle.ewig_shell.proofs.QuitLemmas.{any-front}

-- a quit piece among the first of the pieces
quit_front : (whole front back : List (List ℕ)) → whole ≡ front ++ back → HasQuit front → HasQuit whole
quit_front whole front back e quits = subst (λ (w : List (List ℕ)). HasQuit w) (sym e) (any-front is_quit front back quits)

-- the pieces that end in the front are ended pieces of the whole
at_least : (byte : ℕ) (first all others : List (List ℕ)) → all ≡ first ++ others → (more : List (List ℕ)) × (before_first byte all ≡ before_first byte first ++ more)
at_least byte [] all others e = (before_first byte all, refl)
at_least byte (x ∷ xs) all others e = (others, ap (before_first byte) e)

ended-front : (front back : List ℕ) → (others : List (List ℕ)) × (ended (front ++ back) ≡ ended front ++ others)
unfolding ended
ended-front [] back = (ended back, refl)
ended-front (byte ∷ front) back =
    let rest = ended-front front back in
    elim (cases_Bool (byte == NEWLINE)) [
      | inl e ↦ (rest.0, rw e (ap (λ (w : List (List ℕ)). [] ∷ w) rest.1))
      | inr e ↦ rw e (at_least byte (ended front) (ended (front ++ back)) rest.0 rest.1)
    ]

-- and pieces
at_front-least : (byte : ℕ) (first all others : List (List ℕ)) → all ≡ first ++ others → (more : List (List ℕ)) × (at_front byte all ≡ before_first byte first ++ more)
at_front-least byte [] all others e = (at_front byte all, refl)
at_front-least byte (x ∷ xs) all others e = (others, ap (at_front byte) e)

pieces-ended : (front back : List ℕ) → (others : List (List ℕ)) × (pieces (front ++ back) ≡ ended front ++ others)
unfolding ended pieces
pieces-ended [] back = (pieces back, refl)
pieces-ended (byte ∷ front) back =
    let rest = pieces-ended front back in
    elim (cases_Bool (byte == NEWLINE)) [
      | inl e ↦ (rest.0, rw e (ap (λ (w : List (List ℕ)). [] ∷ w) rest.1))
      | inr e ↦ rw e (at_front-least byte (ended front) (pieces (front ++ back)) rest.0 rest.1)
    ]

-- the first of the bytes taken are the first of the input, as far as they go
first_taken : (most : ℕ) (taken rest : List ℕ) → (more : List ℕ) × (take most (taken ++ rest) ≡ take most taken ++ more)
first_taken most taken rest =
    elim (cases_lt (length taken) most) [
      | inl low ↦ (take (most - length taken) rest, take_past most taken rest (omega (arith, low)) ∙ ap (λ (w : List ℕ). w ++ take (most - length taken) rest) (sym (take_all most taken (omega (arith, low)))))
      | inr high ↦ ([], take-append-le most taken rest high ∙ sym (append-nil (take most taken)))
    ]

-- a quit piece that ended within the first most of the bytes taken ends within the first most of the input
pub quit_in_time : (most : ℕ) (taken rest : List ℕ) → HasQuit (ended (take most taken)) → HasQuit (pieces_within most (taken ++ rest))
quit_in_time most taken rest quits =
    elim (cases_lt most (length (taken ++ rest))) [
      | inl long ↦
          let first = first_taken most taken rest in
          let ends = ended-front (take most taken) first.0 in
          quit_front _ (ended (take most taken)) ends.0 (pieces_within-part most (taken ++ rest) long ∙ ap ended first.1 ∙ ends.1) quits
      | inr short ↦
          let all : take most taken ≡ taken = take_all most taken (omega (arith, short, length-append taken rest)) in
          let ends = pieces-ended taken rest in
          quit_front _ (ended taken) ends.0 (pieces_within-all most (taken ++ rest) short ∙ ends.1) (subst (λ (w : List ℕ). HasQuit (ended w)) all quits)
    ]

-- the pieces given ended among what was taken, where the source isn't known to have ended
given_ended : (input : List ℕ) (reader : Reading) (left : Option (List ℕ)) → StandsIn input reader left → reader.at_end ≡ false → HasQuit (pieces_given input reader) → HasQuit (ended (take reader.taken input))
given_ended input reader left stands more quits =
    let taken_is = stands.taken_is in
    let size : reader.taken ≡ length stands.before + length (stands.front ++ reader.held)
    = sym (length-take-le reader.taken input stands.within) ∙ ap length taken_is ∙ length-append stands.before (stands.front ++ reader.held) in
    let low : reader.given ≤ reader.taken = omega (arith, size, stands.given_is) in
    let given_is : take reader.given input ≡ stands.before
    = sym (take-take reader.given reader.taken input low) ∙ ap (take reader.given) taken_is ∙ take_at stands.before (stands.front ++ reader.held) reader.given stands.given_is in
    quit_front _ (pieces stands.before) (ended (stands.front ++ reader.held))
    (ap ended taken_is ∙ ended-append stands.before (stands.front ++ reader.held) (stands.whole more))
    (subst (λ (w : List ℕ). HasQuit (pieces w)) given_is quits)

-- a quit piece that was given is the end of the input, or ended among what was taken
pub quit_read : (most : ℕ) (input : List ℕ) (reader : Reading) (left : Option (List ℕ)) (later : List (List ℕ)) → StandsIn input reader left → pieces_within most input ≡ pieces_given input reader ++ later → HasQuit (pieces_given input reader) →
    (take reader.taken input ≡ input) × (length input ≤ most) ⊎ HasQuit (ended (take most (take reader.taken input)))
quit_read most input reader left later stands in_time quits =
    elim (cases_lt most reader.taken) [
      | inl past ↦ inr (subst (λ (w : List ℕ). HasQuit (ended w)) (sym (take-take most reader.taken input (omega (arith, past))))
          (subst (λ (w : List (List ℕ)). HasQuit w) (pieces_within-part most input (omega (arith, past, stands.within)))
          (quit_front _ (pieces_given input reader) later in_time quits)))
      | inr low ↦
          let all : take most (take reader.taken input) ≡ take reader.taken input
          = take_all most (take reader.taken input) (omega (arith, low, length-take-le reader.taken input stands.within)) in
          elim (cases_Bool reader.at_end) [
            | inl over ↦ let whole = stands.end_is over in inl (take_all reader.taken input (omega (arith, whole)), omega (arith, whole, low))
            | inr more ↦ inr (subst (λ (w : List ℕ). HasQuit (ended w)) (sym all) (given_ended input reader left stands more quits))
          ]
    ]
