-- A reader stands in its input after each of its steps, and what its answers say of the input.
use Rattle.std.proofs.Common.{◌≡◌, ℕ, ◌+◌, ◌-◌, ◌<◌, ◌≤◌, Bool, true, false, cond, List, [], ◌∷◌, ◌++◌, length, take, drop, None, Some, refl, sym, ap, subst, ◌∙◌, inl, inr, ◌⊎◌, arith, append_assoc, append-nil, length-append, length-drop, length-take-le, take-append-drop}
use Rattle.std.proofs.lemmas.List.{take_at, drop_at, take-take, take_all, nil_from_length}
use Rattle.std.proofs.lemmas.List.Elements.{Contains-append_left, Contains-append_cases}
use Rattle.std.specs.declared.option.Option.{Option}
use Rattle.std.specs.Io.KnownBytes.{Consumes, IsAtEnd}
use Rattle.elem_core.specs.declared.TheConstants.{NEWLINE, MAX_LINE}
use Rattle.shell_io.specs.declared.reader.Next.{Next}
use Rattle.shell_io.specs.declared.reader.Next.TheVariants.{Line, Long, End, Budget, Failed}
use Rattle.shell_io.specs.Pieces.{pieces, ended, pieces_within, IsWhole, IsOverlong, IsUnbroken}
use Rattle.shell_io.specs.Reader.{Reading, StandsIn, Answers, HasGivenAll, GivesNext, pieces_given, Passes, EndsByNewline, EndsBySource, SamePlace, limit_of, may_take}
use Rattle.shell_io.specs.Window.{TakesMore}
use Rattle.shell_io.proofs.PiecesLemmas.{take_past, pieces-append_line, IsWhole-append_line, pieces-append_last, ended-append_unbroken, pieces_within-all, pieces_within-part, pieces_within-front}

-- as many bytes may still be taken where as many were
pub may_take-as : (most : ℕ) (old new : Reading) → new.taken ≡ old.taken → new.at_end ≡ old.at_end → may_take most new ≡ may_take most old
may_take-as most old new taken at_end = ap (λ (b : Bool). cond b 0 (most + 1 - new.taken)) at_end ∙ ap (λ (n : ℕ). cond old.at_end 0 (most + 1 - n)) taken

pub IsUnbroken-nil : IsUnbroken []
IsUnbroken-nil = λ (k, h, e). omega arith

pub IsUnbroken-append : (xs ys : List ℕ) → IsUnbroken xs → IsUnbroken ys → IsUnbroken (xs ++ ys)
IsUnbroken-append xs ys ux uy = λ has. elim (Contains-append_cases xs ys NEWLINE has) [ inl h ↦ ux h | inr h ↦ uy h ]

pub IsUnbroken-left : (xs ys : List ℕ) → IsUnbroken (xs ++ ys) → IsUnbroken xs
IsUnbroken-left xs ys u = λ has. u (Contains-append_left xs ys NEWLINE has)

-- the bytes given are the input's front
before_is : (input before more : List ℕ) (taken given : ℕ) →
    taken ≤ length input → take taken input ≡ before ++ more → length before ≡ given → take given input ≡ before
before_is input before more taken given within is count =
    let lengths : length before + length more ≡ taken =
    sym (length-append before more) ∙ ap length (sym is) ∙ length-take-le taken input within in
    sym (take-take given taken input (omega arith)) ∙ ap (take given) is ∙ take_at before more given count

-- the input is the bytes taken, and then the others
input_is : (input front : List ℕ) (taken : ℕ) → take taken input ≡ front → input ≡ front ++ drop taken input
input_is input front taken is = sym (take-append-drop taken input) ∙ ap (λ xs. xs ++ drop taken input) is

-- taking more bytes makes the front longer
record More (input more rest : List ℕ) (taken n : ℕ) : Type 0 where
  front : take (taken + n) input ≡ take taken input ++ more
  left : drop (taken + n) input ≡ rest
  within : taken + n ≤ length input

taken_more : (input more rest : List ℕ) (taken n : ℕ) → length more ≡ n → taken ≤ length input → drop taken input ≡ more ++ rest → More input more rest taken n
taken_more input more rest taken n count within is =
    let whole : input ≡ (take taken input ++ more) ++ rest =
    input_is input (take taken input) taken refl ∙ ap (λ xs. take taken input ++ xs) is ∙ sym (append_assoc (take taken input) more rest) in
    let size : length (take taken input ++ more) ≡ taken + n =
    length-append (take taken input) more ∙ ap (λ m. m + length more) (length-take-le taken input within) ∙ ap (λ m. taken + m) count in
    let lengths : length input ≡ (taken + n) + length rest =
    ap length whole ∙ length-append (take taken input ++ more) rest ∙ ap (λ m. m + length rest) size in
    record {
      front = ap (take (taken + n)) whole ∙ take_at (take taken input ++ more) rest (taken + n) size;
      left = ap (drop (taken + n)) whole ∙ drop_at (take taken input ++ more) rest (taken + n) size;
      within = omega arith;
    }

-- the number of bytes taken, by where they are now
taken_count : (input : List ℕ) (r : Reading) (left : Option (List ℕ)) (s : StandsIn input r left) →
    r.taken ≡ r.given + (r.let_go + length r.held)
taken_count input r left s =
    sym (length-take-le r.taken input s.within) ∙ ap length s.taken_is ∙ length-append s.before (s.front ++ r.held)
    ∙ ap (λ m. length s.before + m) (length-append s.front r.held)
    ∙ ap (λ m. m + (length s.front + length r.held)) s.given_is
    ∙ ap (λ m. r.given + (m + length r.held)) s.let_go_is

given_front : (input : List ℕ) (r : Reading) (left : Option (List ℕ)) (s : StandsIn input r left) → take r.given input ≡ s.before
given_front input r left s = before_is input s.before (s.front ++ r.held) r.taken r.given s.within s.taken_is s.given_is

-- the piece that ends behind so many of the bytes held
abbrev pub piece_of : (input : List ℕ) (r : Reading) (left : Option (List ℕ)) → StandsIn input r left → ℕ → List ℕ
piece_of input r left s count = s.front ++ take count r.held

-- the piece was given, and the reader stands behind it
pub record Gives (input : List ℕ) (old new : Reading) (left : Option (List ℕ)) (s : StandsIn input old left) (count : ℕ) : Type 0 where
  pub stands : StandsIn input new left
  pub next : pieces_given input new ≡ pieces_given input old ++ piece_of input old left s count ∷ []
  pub in_time : (most : ℕ) → new.given ≤ most → (others : List (List ℕ)) × (pieces_within most input ≡ pieces_given input new ++ others)

-- the pieces given are what stands before the bytes held
gives_after : (input : List ℕ) (old new : Reading) (left : Option (List ℕ)) (s : StandsIn input old left) (count end : ℕ) (before : List ℕ) → Passes old new count end →
    take old.taken input ≡ before ++ new.held → length before ≡ new.given →
    (new.at_end ≡ false → IsWhole before) → (new.given < new.taken → IsWhole before) →
    pieces before ≡ pieces s.before ++ piece_of input old left s count ∷ [] →
    ((most : ℕ) → new.given ≤ most → take new.given input ≡ before → (others : List (List ℕ)) × (pieces_within most input ≡ pieces before ++ others)) →
    Gives input old new left s count
gives_after input old new left s count end before p taken_is counted whole whole_so_far next in_time =
    let within : new.taken ≤ length input = rw p.taken s.within in
    let taken_now : take new.taken input ≡ before ++ new.held = ap (λ t. take t input) p.taken ∙ taken_is in
    let front_is : take new.given input ≡ before = before_is input before new.held new.taken new.given within taken_now counted in
    record {
      stands = record {
        within = within;
        left_is = s.left_is ∙ ap (λ t. Some (drop t input)) (sym p.taken);
        before = before;
        front = [];
        taken_is = taken_now;
        given_is = counted;
        let_go_is = sym p.let_go;
        unbroken = IsUnbroken-nil;
        whole = whole;
        whole_so_far = whole_so_far;
        end_is = λ e. p.taken ∙ s.end_is (sym p.at_end ∙ e);
        settled_is = λ most answer known h. absurd (let h' : None ≡ Some answer = sym p.settled ∙ h in cc);
      };
      next = ap pieces front_is ∙ next ∙ ap (λ xs. pieces xs ++ piece_of input old left s count ∷ []) (sym (given_front input old left s));
      in_time = λ most h.
          let (others, is) = in_time most h front_is in
          (others, is ∙ ap (λ xs. pieces xs ++ others) (sym front_is));
    }

gives_line : (input : List ℕ) (old new : Reading) (left : Option (List ℕ)) (s : StandsIn input old left) (count end : ℕ) →
    count + end ≤ length old.held → IsUnbroken (take count old.held) → EndsByNewline old count end → Passes old new count end →
    Gives input old new left s count
gives_line input old new left s count end fits clean ends p =
    let piece : List ℕ = piece_of input old left s count in
    let before : List ℕ = s.before ++ (piece ++ NEWLINE ∷ []) in
    let clean_piece : IsUnbroken piece = IsUnbroken-append s.front (take count old.held) s.unbroken clean in
    let taken_was : old.taken ≡ old.given + (old.let_go + length old.held) = taken_count input old left s in
    let whole_before : IsWhole s.before = s.whole_so_far (omega (arith, taken_was, ends.one)) in
    let rest : List ℕ = drop (count + 1) old.held in
    let regrouped : s.front ++ old.held ≡ (piece ++ NEWLINE ∷ []) ++ rest =
    ap (λ xs. s.front ++ xs) ends.newline ∙ sym (append_assoc s.front (take count old.held) (NEWLINE ∷ rest))
    ∙ sym (append_assoc piece (NEWLINE ∷ []) rest) in
    let held_is : new.held ≡ rest = p.held ∙ ap (λ e. drop (count + e) old.held) ends.one in
    let taken_is : take old.taken input ≡ before ++ new.held =
    s.taken_is ∙ ap (λ xs. s.before ++ xs) regrouped
    ∙ sym (append_assoc s.before (piece ++ NEWLINE ∷ []) rest) ∙ ap (λ xs. before ++ xs) (sym held_is) in
    let counted : length before ≡ new.given =
    omega (
      arith,
      length-append s.before (piece ++ NEWLINE ∷ []),
      length-append piece (NEWLINE ∷ []),
      length-append s.front (take count old.held),
      length-take-le count old.held (omega arith),
      s.given_is,
      s.let_go_is,
      p.given,
      ends.one,
    ) in
    let whole : IsWhole before = IsWhole-append_line s.before piece whole_before clean_piece in
    gives_after input old new left s count end before p taken_is counted (λ _. whole) (λ _. whole)
    (pieces-append_line s.before piece whole_before clean_piece)
    (λ most h front_is.
    let (others, is) = pieces_within-front most before (drop new.given input) whole (omega (arith, counted)) in
    (others, ap (pieces_within most) (input_is input before new.given front_is) ∙ is))

gives_last : (input : List ℕ) (old new : Reading) (left : Option (List ℕ)) (s : StandsIn input old left) (count end : ℕ) →
    IsUnbroken (take count old.held) → EndsBySource old count end → Passes old new count end → Gives input old new left s count
gives_last input old new left s count end clean ends p =
    let piece : List ℕ = piece_of input old left s count in
    let before : List ℕ = s.before ++ piece in
    let clean_piece : IsUnbroken piece = IsUnbroken-append s.front (take count old.held) s.unbroken clean in
    let taken_was : old.taken ≡ old.given + (old.let_go + length old.held) = taken_count input old left s in
    let whole_before : IsWhole s.before = s.whole_so_far (omega (arith, taken_was, ends.some, ends.all)) in
    let all_held : take count old.held ≡ old.held = take_all count old.held (omega (arith, ends.all)) in
    let nothing : new.held ≡ [] =
    nil_from_length new.held (ap length p.held ∙ length-drop (count + end) old.held
    ∙ (let same : length old.held - (count + end) ≡ 0 = omega (arith, ends.all, ends.none) in same)) in
    let taken_is : take old.taken input ≡ before ++ new.held =
    s.taken_is ∙ ap (λ xs. s.before ++ (s.front ++ xs)) (sym all_held)
    ∙ sym (append-nil before) ∙ ap (λ xs. before ++ xs) (sym nothing) in
    let sizes : length piece ≡ old.let_go + count =
    omega (arith, length-append s.front (take count old.held), ap length all_held, s.let_go_is, ends.all) in
    let counted : length before ≡ new.given = omega (arith, length-append s.before piece, sizes, s.given_is, p.given, ends.none) in
    let over : new.at_end ≡ true = p.at_end ∙ ends.at_end in
    let all_given : length input ≤ new.given = omega (arith, s.end_is ends.at_end, p.given, taken_was, ends.all, ends.none) in
    gives_after input old new left s count end before p taken_is counted
    (λ e. absurd (let e' : true ≡ false = sym over ∙ e in cc))
    (λ h. absurd (omega (arith, p.given, p.taken, taken_was, ends.all, ends.none)))
    (pieces-append_last s.before piece whole_before clean_piece (omega (arith, sizes, ends.some)))
    (λ most h front_is.
    ([], pieces_within-all most input (omega arith) ∙ ap pieces (sym (take_all new.given input all_given) ∙ front_is) ∙ sym (append-nil (pieces before))))

pub gives_piece : (input : List ℕ) (old new : Reading) (left : Option (List ℕ)) (s : StandsIn input old left) (count end : ℕ) →
    count + end ≤ length old.held → IsUnbroken (take count old.held) → EndsByNewline old count end ⊎ EndsBySource old count end →
    Passes old new count end → Gives input old new left s count
gives_piece input old new left s count end fits clean ends p =
    elim ends [
      | inl line ↦ gives_line input old new left s count end fits clean line p
      | inr last ↦ gives_last input old new left s count end clean last p
    ]

pub stands_behind : (input : List ℕ) (old new : Reading) (left : Option (List ℕ)) (count end : ℕ) → StandsIn input old left →
    count + end ≤ length old.held → IsUnbroken (take count old.held) → EndsByNewline old count end ⊎ EndsBySource old count end →
    Passes old new count end → StandsIn input new left
stands_behind input old new left count end s fits clean ends p = (gives_piece input old new left s count end fits clean ends p).stands

-- the piece is the line that the reader shows, where no byte of it was let go
pub answers_line : (input : List ℕ) (old new : Reading) (left : Option (List ℕ)) (count end most : ℕ) → StandsIn input old left →
    count + end ≤ length old.held → IsUnbroken (take count old.held) → EndsByNewline old count end ⊎ EndsBySource old count end →
    Passes old new count end → new.given ≤ most → old.let_go ≡ 0 → new.line ≡ take count old.held →
    GivesNext most input old new new.line
answers_line input old new left count end most s fits clean ends p in_time none is =
    let g = gives_piece input old new left s count end fits clean ends p in
    let piece_is : piece_of input old left s count ≡ new.line =
    ap (λ xs. xs ++ take count old.held) (nil_from_length s.front (s.let_go_is ∙ none)) ∙ sym is in
    record { next = g.next ∙ ap (λ xs. pieces_given input old ++ xs ∷ []) piece_is; in_time = g.in_time most in_time }

-- the piece is too long, where so many bytes were let go and held
pub answers_long : (input : List ℕ) (old new : Reading) (left : Option (List ℕ)) (count end most : ℕ) → StandsIn input old left →
    count + end ≤ length old.held → IsUnbroken (take count old.held) → EndsByNewline old count end ⊎ EndsBySource old count end →
    Passes old new count end → new.given ≤ most → MAX_LINE < old.let_go + count →
    (piece : List ℕ) × IsOverlong piece × GivesNext most input old new piece
answers_long input old new left count end most s fits clean ends p in_time too_long =
    let g = gives_piece input old new left s count end fits clean ends p in
    let size : length (piece_of input old left s count) ≡ old.let_go + count =
    length-append s.front (take count old.held) ∙ ap (λ m. m + length (take count old.held)) s.let_go_is
    ∙ ap (λ m. old.let_go + m) (length-take-le count old.held (omega arith)) in
    (piece_of input old left s count, omega (arith, size, too_long), record { next = g.next; in_time = g.in_time most in_time })

HasGivenAll-same : (most : ℕ) (input : List ℕ) (old new : Reading) (answer : Next) → new.given ≡ old.given → new.taken ≡ old.taken →
    HasGivenAll most input old answer → HasGivenAll most input new answer
HasGivenAll-same most input old new Line given taken h = absurd h
HasGivenAll-same most input old new Long given taken h = absurd h
HasGivenAll-same most input old new End given taken h = (ap (λ g. pieces (take g input)) given ∙ h.0, taken ∙ h.1, h.2)
HasGivenAll-same most input old new Budget given taken h = (ap (λ g. pieces (take g input)) given ∙ h.0, taken ∙ h.1)
HasGivenAll-same most input old new Failed given taken h = absurd h

-- letting go of the bytes held leaves the reader where it stands
pub stands-let_go : (input : List ℕ) (old new : Reading) (left : Option (List ℕ)) → StandsIn input old left → SamePlace old new →
    IsUnbroken old.held → new.let_go ≡ old.let_go + length old.held → new.held ≡ [] → StandsIn input new left
stands-let_go input old new left s same clean let_go held = record {
  within = rw same.taken s.within;
  left_is = s.left_is ∙ ap (λ t. Some (drop t input)) (sym same.taken);
  before = s.before;
  front = s.front ++ old.held;
  taken_is = ap (λ t. take t input) same.taken ∙ s.taken_is ∙ ap (λ xs. s.before ++ xs) (sym (append-nil (s.front ++ old.held)))
      ∙ ap (λ xs. s.before ++ ((s.front ++ old.held) ++ xs)) (sym held);
  given_is = s.given_is ∙ sym same.given;
  let_go_is = length-append s.front old.held ∙ ap (λ m. m + length old.held) s.let_go_is ∙ sym let_go;
  unbroken = IsUnbroken-append s.front old.held s.unbroken clean;
  whole = λ e. s.whole (sym same.at_end ∙ e);
  whole_so_far = λ h. s.whole_so_far (omega (arith, same.given, same.taken));
  end_is = λ e. same.taken ∙ s.end_is (sym same.at_end ∙ e);
  settled_is = λ most answer known h. HasGivenAll-same most input old new answer same.given same.taken
      (s.settled_is most answer (sym same.most ∙ known) (sym same.settled ∙ h));
}

-- the same bytes held and let go: the reader stands where it stood
pub stands-same : (input : List ℕ) (old new : Reading) (left_old left_new : Option (List ℕ)) → StandsIn input old left_old →
    left_new ≡ left_old → new.taken ≡ old.taken → new.given ≡ old.given → new.let_go ≡ old.let_go → new.held ≡ old.held → new.at_end ≡ old.at_end →
    ((most : ℕ) (answer : Next) → new.most ≡ Some most → new.settled ≡ Some answer → HasGivenAll most input new answer) →
    StandsIn input new left_new
stands-same input old new left_old left_new s left taken given let_go held at_end settled = record {
  within = rw taken s.within;
  left_is = left ∙ s.left_is ∙ ap (λ t. Some (drop t input)) (sym taken);
  before = s.before;
  front = s.front;
  taken_is = ap (λ t. take t input) taken ∙ s.taken_is ∙ ap (λ xs. s.before ++ (s.front ++ xs)) (sym held);
  given_is = s.given_is ∙ sym given;
  let_go_is = s.let_go_is ∙ sym let_go;
  unbroken = s.unbroken;
  whole = λ e. s.whole (sym at_end ∙ e);
  whole_so_far = λ h. s.whole_so_far (omega arith);
  end_is = λ e. taken ∙ s.end_is (sym at_end ∙ e);
  settled_is = settled;
}

consumed : (left : Option (List ℕ)) (xs more : List ℕ) → Consumes (Some xs) left more → (ys : List ℕ) × (left ≡ Some ys) × (xs ≡ more ++ ys)
consumed None xs more h = absurd h
consumed (Some ys) xs more h = (ys, refl, h)

-- no answer is settled, whichever it would be
pub still_open : (over : Bool) (answer other : Next) → cond over (Some answer) None ≡ None → cond over (Some other) None ≡ None
still_open true answer other e = cc
still_open false answer other e = refl

-- the reader took more bytes, or came to the end
pub record Pulled (old new : Reading) (n : ℕ) (left : Option (List ℕ)) : Type 0 where
  pub taken : new.taken ≡ old.taken + n
  pub given : new.given ≡ old.given
  pub let_go : new.let_go ≡ old.let_go
  pub going_on : old.at_end ≡ false
  pub settled : new.settled ≡ None
  pub at_end : new.at_end ≡ true → (n ≡ 0) × IsAtEnd left

pub stands-pull : (input : List ℕ) (old new : Reading) (n : ℕ) (left_old left_new : Option (List ℕ)) → StandsIn input old left_old →
    TakesMore n old.held new.held left_old left_new → Pulled old new n left_old → StandsIn input new left_new
stands-pull input old new n left_old left_new s t p =
    let P : Option (List ℕ) → Type 0 = λ o. Consumes o left_new t.more in
    let left_was : Consumes (Some (drop old.taken input)) left_new t.more = subst P s.left_is t.moved in
    let (ys, left_is, is) = consumed left_new (drop old.taken input) t.more left_was in
    let m = taken_more input t.more ys old.taken n t.count s.within is in
    let whole : IsWhole s.before = s.whole p.going_on in
    record {
      within = rw p.taken m.within;
      left_is = left_is ∙ ap Some (sym m.left) ∙ ap (λ k. Some (drop k input)) (sym p.taken);
      before = s.before;
      front = s.front;
      taken_is = ap (λ k. take k input) p.taken ∙ m.front ∙ ap (λ xs. xs ++ t.more) s.taken_is
          ∙ append_assoc s.before (s.front ++ old.held) t.more ∙ ap (λ xs. s.before ++ xs) (append_assoc s.front old.held t.more)
          ∙ ap (λ xs. s.before ++ (s.front ++ xs)) (sym t.held);
      given_is = s.given_is ∙ sym p.given;
      let_go_is = s.let_go_is ∙ sym p.let_go;
      unbroken = s.unbroken;
      whole = λ _. whole;
      whole_so_far = λ _. whole;
      end_is = λ e.
          let (none, over) = p.at_end e in
          let nothing : IsAtEnd (Some (drop old.taken input)) = subst IsAtEnd s.left_is over in
          let gone : length input - old.taken ≡ 0 = sym (length-drop old.taken input) ∙ ap length nothing in
          let inside : old.taken ≤ length input = s.within in
          omega (arith, p.taken, none, gone, inside);
      settled_is = λ most answer known h. absurd (let h' : None ≡ Some answer = sym p.settled ∙ h in cc);
    }

IsUnbroken-take : (n : ℕ) (xs : List ℕ) → IsUnbroken xs → IsUnbroken (take n xs)
IsUnbroken-take n xs u = IsUnbroken-left (take n xs) (drop n xs) (rw (take-append-drop n xs) u)

used_up : (input : List ℕ) (r : Reading) (left : Option (List ℕ)) (most : ℕ) (s : StandsIn input r left) →
    r.taken ≡ most + 1 → r.at_end ≡ false → r.given ≤ most → IsUnbroken (take (most - r.given) (s.front ++ r.held)) →
    HasGivenAll most input r Budget
used_up input r left most s taken going_on in_time clean =
    let inside : r.taken ≤ length input = s.within in
    let front_is : take most input ≡ s.before ++ take (most - r.given) (s.front ++ r.held) =
    sym (take-take most r.taken input (omega arith)) ∙ ap (take most) s.taken_is
    ∙ take_past most s.before (s.front ++ r.held) (omega (arith, s.given_is))
    ∙ ap (λ m. s.before ++ take (most - m) (s.front ++ r.held)) s.given_is in (
      ap pieces (given_front input r left s) ∙ sym (ended-append_unbroken s.before _ (s.whole going_on) clean) ∙ ap ended (sym front_is)
          ∙ sym (pieces_within-part most input (omega arith)),
      taken,
    )

-- so many bytes held come before a newline that is the last byte taken
pub used_up-line : (input : List ℕ) (r : Reading) (left : Option (List ℕ)) (most at : ℕ) → StandsIn input r left →
    r.taken ≡ most + 1 → r.at_end ≡ false → r.given + (r.let_go + at) ≡ most → IsUnbroken (take at r.held) →
    HasGivenAll most input r Budget
used_up-line input r left most at s taken going_on place clean =
    let count : most - r.given ≡ r.let_go + at = omega arith in
    let rest : (r.let_go + at) - length s.front ≡ at = omega (arith, s.let_go_is) in
    let part : take (most - r.given) (s.front ++ r.held) ≡ s.front ++ take at r.held =
    ap (λ m. take m (s.front ++ r.held)) count ∙ take_past (r.let_go + at) s.front r.held (omega (arith, s.let_go_is))
    ∙ ap (λ m. s.front ++ take m r.held) rest in
    used_up input r left most s taken going_on (omega arith) (rw part (IsUnbroken-append s.front (take at r.held) s.unbroken clean))

-- no byte held is a newline
pub used_up-unbroken : (input : List ℕ) (r : Reading) (left : Option (List ℕ)) (most : ℕ) → StandsIn input r left →
    r.taken ≡ most + 1 → r.at_end ≡ false → r.given ≤ most → IsUnbroken r.held → HasGivenAll most input r Budget
used_up-unbroken input r left most s taken going_on in_time clean =
    used_up input r left most s taken going_on in_time
    (IsUnbroken-take (most - r.given) (s.front ++ r.held) (IsUnbroken-append s.front r.held s.unbroken clean))

-- a source that failed: each line that ended among the bytes taken was given
pub failed-ended : (input : List ℕ) (r : Reading) (left : Option (List ℕ)) → StandsIn input r left →
    r.at_end ≡ false → IsUnbroken r.held → pieces_given input r ≡ ended (take r.taken input)
failed-ended input r left s going_on clean =
    ap pieces (given_front input r left s)
    ∙ sym (ended-append_unbroken s.before (s.front ++ r.held) (s.whole going_on) (IsUnbroken-append s.front r.held s.unbroken clean))
    ∙ ap ended (sym s.taken_is)

-- a reader that has taken nothing
pub stands-start : (input : List ℕ) (r : Reading) → r.taken ≡ 0 → r.given ≡ 0 → r.let_go ≡ 0 → r.held ≡ [] → r.at_end ≡ false → r.settled ≡ None →
    StandsIn input r (Some input)
unfolding pieces ended
stands-start input r taken given let_go held at_end settled = record {
  within = rw taken (omega arith);
  left_is = ap (λ t. Some (drop t input)) (sym taken);
  before = [];
  front = [];
  taken_is = ap (λ t. take t input) taken ∙ sym held;
  given_is = sym given;
  let_go_is = sym let_go;
  unbroken = IsUnbroken-nil;
  whole = λ _. refl;
  whole_so_far = λ _. refl;
  end_is = λ e. absurd (let e' : true ≡ false = sym e ∙ at_end in cc);
  settled_is = λ most answer known h. absurd (let h' : None ≡ Some answer = sym settled ∙ h in cc);
}

-- an answer speaks of the pieces given before
pub Answers-given : (most : ℕ) (input : List ℕ) (old then_is new : Reading) (answer : Next) → then_is.given ≡ old.given →
    Answers most input then_is new answer → Answers most input old new answer
Answers-given most input old then_is new Line given a =
    record { next = a.next ∙ ap (λ k. pieces (take k input) ++ new.line ∷ []) given; in_time = a.in_time }
Answers-given most input old then_is new Long given a =
    (a.0, a.1, record { next = a.2.next ∙ ap (λ k. pieces (take k input) ++ a.0 ∷ []) given; in_time = a.2.in_time })
Answers-given most input old then_is new End given a = (a.0 ∙ given, a.1)
Answers-given most input old then_is new Budget given a = (a.0 ∙ given, a.1)
Answers-given most input old then_is new Failed given a = (a.0 ∙ given, a.1)

pub Answers-new : (most : ℕ) (input : List ℕ) (old then_is new : Reading) (answer : Next) →
    new.given ≡ then_is.given → new.taken ≡ then_is.taken → new.line ≡ then_is.line →
    Answers most input old then_is answer → Answers most input old new answer
Answers-new most input old then_is new Line given taken line a = record {
  next = ap (λ k. pieces (take k input)) given ∙ a.next ∙ ap (λ xs. pieces_given input old ++ xs ∷ []) (sym line);
  in_time = (a.in_time.0, a.in_time.1 ∙ ap (λ k. pieces (take k input) ++ a.in_time.0) (sym given));
}
Answers-new most input old then_is new Long given taken line a = (
  a.0,
  a.1,
  record {
    next = ap (λ k. pieces (take k input)) given ∙ a.2.next;
    in_time = (a.2.in_time.0, a.2.in_time.1 ∙ ap (λ k. pieces (take k input) ++ a.2.in_time.0) (sym given));
  },
)
Answers-new most input old then_is new End given taken line a = (given ∙ a.0, HasGivenAll-same most input then_is new End given taken a.1)
Answers-new most input old then_is new Budget given taken line a = (given ∙ a.0, HasGivenAll-same most input then_is new Budget given taken a.1)
Answers-new most input old then_is new Failed given taken line a =
    (given ∙ a.0, ap (λ k. pieces (take k input)) given ∙ a.1 ∙ ap (λ k. ended (take k input)) (sym taken))

-- a last answer, once more
pub Answers-again : (most : ℕ) (input : List ℕ) (old new : Reading) (answer : Next) → new.given ≡ old.given →
    HasGivenAll most input new answer → Answers most input old new answer
Answers-again most input old new Line given h = absurd h
Answers-again most input old new Long given h = absurd h
Answers-again most input old new End given h = (given, h)
Answers-again most input old new Budget given h = (given, h)
Answers-again most input old new Failed given h = absurd h

-- that answer was the last, and the reader notes it
pub record Settles (old new : Reading) (answer : Next) (last : Bool) : Type 0 where
  pub taken : new.taken ≡ old.taken
  pub given : new.given ≡ old.given
  pub let_go : new.let_go ≡ old.let_go
  pub held : new.held ≡ old.held
  pub at_end : new.at_end ≡ old.at_end
  pub settled : new.settled ≡ cond last (Some (cond old.at_end End Budget)) None
  pub which : last ≡ true → (answer ≡ End) ⊎ (answer ≡ Budget)
  pub end_is : answer ≡ End → old.at_end ≡ true
  pub budget_is : answer ≡ Budget → old.at_end ≡ false

same_last : (old new : Reading) (answer a : Next) (last : Bool) → Settles old new answer last → new.settled ≡ Some a → (a ≡ answer) × ((answer ≡ End) ⊎ (answer ≡ Budget))
same_last old new answer a false p h = absurd (let e : None ≡ Some a = sym p.settled ∙ h in cc)
same_last old new answer a true p h =
    let e : Some (cond old.at_end End Budget) ≡ Some a = sym p.settled ∙ h in
    let which = p.which refl in (
      elim which [
        | inl is ↦ (let e' : Some End ≡ Some a = ap (λ b. Some (cond b End Budget)) (sym (p.end_is is)) ∙ e in cc)
        | inr is ↦ (let e' : Some Budget ≡ Some a = ap (λ b. Some (cond b End Budget)) (sym (p.budget_is is)) ∙ e in cc)
      ],
      which,
    )

given_all : (most : ℕ) (input : List ℕ) (old new : Reading) (answer : Next) → (answer ≡ End) ⊎ (answer ≡ Budget) →
    Answers most input old new answer → HasGivenAll most input new answer
given_all most input old new End which a = a.1
given_all most input old new Budget which a = a.1
given_all most input old new Line which a = absurd (elim which [ inl e ↦ cc | inr e ↦ cc ])
given_all most input old new Long which a = absurd (elim which [ inl e ↦ cc | inr e ↦ cc ])
given_all most input old new Failed which a = absurd (elim which [ inl e ↦ cc | inr e ↦ cc ])

pub stands-settled : (input : List ℕ) (first old new : Reading) (left : Option (List ℕ)) (most : ℕ) (answer : Next) (last : Bool) → StandsIn input old left →
    Settles old new answer last → new.most ≡ Some most → Answers most input first old answer → StandsIn input new left
stands-settled input first old new left most answer last s p most_is a =
    stands-same input old new left left s refl p.taken p.given p.let_go p.held p.at_end
    (λ m b known h.
    let (same, which) = same_last old new answer b last p h in
    let m_is : most ≡ m = (let e : Some most ≡ Some m = sym most_is ∙ known in cc) in
    let P : ℕ → Type 0 = λ k. HasGivenAll k input new answer in
    let Q : Next → Type 0 = λ n. HasGivenAll m input new n in
    subst Q (sym same) (subst P m_is (HasGivenAll-same most input old new answer p.given p.taken (given_all most input first old answer which a))))

-- a bound that is known
pub known_most : (o : Option ℕ) → 0 < limit_of o → (k : ℕ) × (o ≡ Some k)
known_most None h = absurd (omega arith)
known_most (Some k) h = (k, refl)

-- the reader learns its bound, which it had if it was over
pub stands-begin : (input : List ℕ) (old new : Reading) (left : Option (List ℕ)) (most : ℕ) → StandsIn input old left →
    new.taken ≡ old.taken → new.given ≡ old.given → new.let_go ≡ old.let_go → new.held ≡ old.held → new.at_end ≡ old.at_end →
    new.settled ≡ old.settled → new.most ≡ Some most → ((a : Next) → old.settled ≡ Some a → old.most ≡ Some most) → StandsIn input new left
stands-begin input old new left most s taken given let_go held at_end settled most_is had =
    stands-same input old new left left s refl taken given let_go held at_end
    (λ m a known h.
    let m_is : Some most ≡ Some m = sym most_is ∙ known in
    let h' : old.settled ≡ Some a = sym settled ∙ h in
    HasGivenAll-same m input old new a given taken (s.settled_is m a (had a h' ∙ m_is) h'))
