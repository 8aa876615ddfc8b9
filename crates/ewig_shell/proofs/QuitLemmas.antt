-- Which line is to quit, and the pieces before and after the first that is.
use Rattle.std.proofs.Common.{◌≡◌, ℕ, ◌<◌, ◌≤◌, Bool, true, false, not, ◌&&◌, ◌||◌, if◌then◌else◌, List, [], ◌∷◌, ◌++◌, length, rules, codes, sym, ap, ◌∙◌, subst, refl, arith, Option, Some, None, Result, Ok, Err, IfOk, IsTrue, ◌↔◌}
use Rattle.std.proofs.lemmas.Bool.{false≢true, lt-ltb, le-ltb}
use Rattle.std.proofs.lemmas.Str.Ascii.{IsAscii-from_all}
use Rattle.std.proofs.lemmas.Str.{IsUtf8-from_ascii, is_utf8-from_IsUtf8}
use Rattle.std.specs.List.{list_any}
use Rattle.std.specs.Str.{is_utf8}
use Rattle.elem_core.specs.Naming.{is_name}
use Rattle.elem_core.specs.declared.TheConstants.{MAX_LINE}
use Rattle.shell_io.specs.declared.device.Failed.{Failed}
use Rattle.shell_terms.specs.Command.{PlainCommand, load, quit}
use Rattle.shell_words.specs.Grammar.{first_piece, after_piece, if_named, the_end, a_name, commands, command_of, meaning}
use Rattle.shell_words.specs.declared.BadLine.{BadLine}
use Rattle.shell_words.specs.declared.BadLine.TheVariants as bad
use Rattle.ewig_shell.specs.Quits.{up_to, asks_to_quit, is_quit}
use Rattle.ewig_shell.specs.Step.{is_long}
use Rattle.ewig_shell.specs.Sending.{sent_then}
use Rattle.ewig_shell.specs.declared.execute.Went.{Went}
use Rattle.ewig_shell.specs.declared.execute.Went.TheVariants as went

-- ## One line

-- a line that isn't too long asks to quit by its meaning
quit-short : (piece : List ℕ) (read : Result PlainCommand BadLine) → length piece ≤ MAX_LINE → read ≡ meaning piece → is_quit piece ≡ asks_to_quit read
unfolding is_quit
quit-short piece read short e = rw (le-ltb MAX_LINE (length piece) short, sym e) refl

-- one that is too long doesn't
quit-long : (piece : List ℕ) → MAX_LINE < length piece → is_quit piece ≡ false
unfolding is_quit
quit-long piece long = rw (lt-ltb MAX_LINE (length piece) long) refl

asks : (command : PlainCommand) → asks_to_quit (Ok command) ≡ true → command ≡ quit
asks quit e = refl
asks _ e = absurd (false≢true e)

-- the line `quit` does
quit_utf8 : is_utf8 (codes "quit") ≡ true
quit_utf8 = is_utf8-from_IsUtf8 (codes "quit") (IsUtf8-from_ascii (codes "quit") (IsAscii-from_all (codes "quit") (search rules)))

quit_reads : meaning (codes "quit") ≡ Ok quit
unfolding meaning first_piece after_piece command_of commands the_end
quit_reads = rw quit_utf8 refl

pub quit-line : is_quit (codes "quit") ≡ true
quit-line =
    let short : 4 ≤ MAX_LINE = omega arith in
    quit-short (codes "quit") (Ok quit) short (sym quit_reads)

-- a line that loads a document doesn't
no_quit : (long text : Bool) (read : Result PlainCommand BadLine) → asks_to_quit read ≡ false → (not long && asks_to_quit (if text then read else Err bad.Utf8)) ≡ true → ⊥
no_quit true text read other e = false≢true e
no_quit false true read other e = false≢true (sym other ∙ e)
no_quit false false read other e = false≢true e

tested : (named : Bool) (file : List ℕ) → asks_to_quit (if named then Ok (load file) else Err bad.Name) ≡ false
tested true file = refl
tested false file = refl

named : (file : List ℕ) (rest : Option (List ℕ)) → asks_to_quit (if_named file (the_end (load file) rest)) ≡ false
unfolding if_named the_end
named file None = tested (is_name file) file
named file (Some more) = refl

load_other : (file : List ℕ) → asks_to_quit (command_of (first_piece (codes "load " ++ file)) (after_piece (codes "load " ++ file))) ≡ false
unfolding command_of commands first_piece after_piece a_name
load_other file = named (first_piece file) (after_piece file)

pub load-no_quit : (file : List ℕ) → IsTrue (is_quit (codes "load " ++ file)) → ⊥
unfolding is_quit meaning
load-no_quit file e =
    let line = codes "load " ++ file in
    no_quit (is_long line) (is_utf8 line) (command_of (first_piece line) (after_piece line)) (load_other file) e

-- ## How a run goes on

-- a line that is a command ends the run exactly where it asks to quit
pub quits-command : (piece : List ℕ) (command : PlainCommand) (result : Result Went Failed) → length piece ≤ MAX_LINE → Ok command ≡ meaning piece →
    IfOk result (λ (w : Went). (w ≡ went.Quit) ↔ (command ≡ quit)) → IfOk result (λ (w : Went). (w ≡ went.Quit) ↔ IsTrue (is_quit piece))
quits-command piece command (Ok w) short e h =
    let test = quit-short piece (Ok command) short e in
    (λ q. test ∙ ap (λ (k : PlainCommand). asks_to_quit (Ok k)) (h.0 q), λ t. h.1 (asks command (sym test ∙ t)))
quits-command piece command (Err f) short e h = tt

-- how the run goes on after a command
pub quits-then : (command : PlainCommand) (sent : Result (Unit {0}) Failed) (w : Went) (result : Result Went Failed) → (w ≡ went.Quit) ↔ (command ≡ quit) → result ≡ sent_then sent w →
    IfOk result (λ (v : Went). (v ≡ went.Quit) ↔ (command ≡ quit))
quits-then command (Ok x) w result h is = subst (λ (r : Result Went Failed). IfOk r (λ (v : Went). (v ≡ went.Quit) ↔ (command ≡ quit))) (sym is) h
quits-then command (Err f) w result h is = subst (λ (r : Result Went Failed). IfOk r (λ (v : Went). (v ≡ went.Quit) ↔ (command ≡ quit))) (sym is) tt

on : (test : Bool) (sent : Result (Unit {0}) Failed) → test ≡ false → IfOk (sent_then sent went.On) (λ (w : Went). (w ≡ went.Quit) ↔ IsTrue test)
on test (Ok x) other = (λ e. cc, λ t. absurd (false≢true (sym other ∙ t)))
on test (Err f) other = tt

-- a line that is no command doesn't end it
pub quits-bad : (piece : List ℕ) (why : BadLine) (sent : Result (Unit {0}) Failed) (result : Result Went Failed) → length piece ≤ MAX_LINE → Err why ≡ meaning piece → result ≡ sent_then sent went.On →
    IfOk result (λ (w : Went). (w ≡ went.Quit) ↔ IsTrue (is_quit piece))
quits-bad piece why sent result short e is =
    subst (λ (r : Result Went Failed). IfOk r (λ (w : Went). (w ≡ went.Quit) ↔ IsTrue (is_quit piece))) (sym is)
    (on (is_quit piece) sent (quit-short piece (Err why) short e))

-- nor does a piece that is too long
pub quits-long : (result : Result Went Failed) (piece : List ℕ) → MAX_LINE < length piece → IfOk result (λ (w : Went). w ≡ went.On) → IfOk result (λ (w : Went). (w ≡ went.Quit) ↔ IsTrue (is_quit piece))
quits-long (Ok w) piece long on = (λ e. absurd (let both = on in cc), λ t. absurd (false≢true (sym (quit-long piece long) ∙ t)))
quits-long (Err f) piece long on = tt

-- ## Pieces

or_left : (a b : Bool) → a ≡ true → (a || b) ≡ true
or_left true b e = refl
or_left false b e = cc

or_right : (a b : Bool) → b ≡ true → (a || b) ≡ true
or_right true b e = refl
or_right false b e = e

pub neither : (a b : Bool) → (a ≡ true → ⊥) → (b ≡ true → ⊥) → (a || b) ≡ true → ⊥
neither true b p q e = p refl
neither false b p q e = q e

nor_false : (b : Bool) → (b ≡ true → ⊥) → (b || false) ≡ true → ⊥
nor_false true p e = p refl
nor_false false p e = absurd (let never = e in cc)

front : (a b c : Bool) → (b ≡ true → c ≡ true) → (a || b) ≡ true → (a || c) ≡ true
front true b c h e = refl
front false b c h e = h e

-- none of the pieces passes, and neither does one more
pub none-append : {X : Type 0} (test : X → Bool) (xs : List X) (y : X) → (list_any test xs ≡ true → ⊥) → (test y ≡ true → ⊥) → list_any test (xs ++ y ∷ []) ≡ true → ⊥
none-append test [] y p q = nor_false (test y) q
none-append test (x ∷ xs) y p q =
    neither (test x) (list_any test (xs ++ y ∷ []))
    (λ e. p (or_left (test x) (list_any test xs) e))
    (none-append test xs y (λ e. p (or_right (test x) (list_any test xs) e)) q)

-- one that passes is among the elements
pub any-here : {X : Type 0} (test : X → Bool) (xs : List X) (y : X) (ys : List X) → test y ≡ true → list_any test (xs ++ y ∷ ys) ≡ true
any-here test [] y ys e = or_left (test y) (list_any test ys) e
any-here test (x ∷ xs) y ys e = or_right (test x) (list_any test (xs ++ y ∷ ys)) (any-here test xs y ys e)

if_passes : {X : Type 0} (b : Bool) (y : X) (rest : List X) → b ≡ true → (if b then y ∷ [] else rest) ≡ y ∷ []
if_passes true y rest e = refl
if_passes false y rest e = cc

if_fails : {X : Type 0} (b any : Bool) (x : X) (rest whole : List X) → ((b || any) ≡ true → ⊥) → ((any ≡ true → ⊥) → rest ≡ whole) → (if b then x ∷ [] else x ∷ rest) ≡ x ∷ whole
if_fails true any x rest whole p more = absurd (p refl)
if_fails {X = X} false any x rest whole p more = ap (λ (w : List X). x ∷ w) (more p)

-- where none passes, these are all elements
pub up_to-none : {X : Type 0} (test : X → Bool) (xs : List X) → (list_any test xs ≡ true → ⊥) → up_to test xs ≡ xs
up_to-none test [] p = refl
up_to-none test (x ∷ xs) p = if_fails (test x) (list_any test xs) x (up_to test xs) xs p (up_to-none test xs)

-- up to the first that passes
pub up_to-first : {X : Type 0} (test : X → Bool) (xs : List X) (y : X) (ys : List X) → (list_any test xs ≡ true → ⊥) → test y ≡ true → up_to test (xs ++ y ∷ ys) ≡ xs ++ y ∷ []
up_to-first test [] y ys p e = if_passes (test y) y (y ∷ up_to test ys) e
up_to-first test (x ∷ xs) y ys p e =
    if_fails (test x) (list_any test xs) x (up_to test (xs ++ y ∷ ys)) (xs ++ y ∷ []) p (λ q. up_to-first test xs y ys q e)

-- where none passes in the front, the rest tells
pub up_to-append : {X : Type 0} (test : X → Bool) (xs ys : List X) → (list_any test xs ≡ true → ⊥) → up_to test (xs ++ ys) ≡ xs ++ up_to test ys
up_to-append test [] ys p = refl
up_to-append test (x ∷ xs) ys p =
    if_fails (test x) (list_any test xs) x (up_to test (xs ++ ys)) (xs ++ up_to test ys) p (up_to-append test xs ys)

-- a front that has one
pub any-front : {X : Type 0} (test : X → Bool) (xs ys : List X) → list_any test xs ≡ true → list_any test (xs ++ ys) ≡ true
any-front test [] ys e = cc
any-front test (x ∷ xs) ys e = front (test x) (list_any test xs) (list_any test (xs ++ ys)) (any-front test xs ys) e
