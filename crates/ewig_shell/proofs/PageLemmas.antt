-- The bytes of one line of a reply, as they are put piece by piece.
use Rattle.std.proofs.Common.{◌≡◌, ℕ, List, [], ◌∷◌, ◌++◌, append_assoc, codes, decimal, sym, ap, ◌∙◌}
use Rattle.std.proofs.lemmas.List.{append-nil}
use Rattle.plain_space.specs.Answer.{text_line, number_line, size_line}
use Rattle.ewig_shell.specs.Step.{reply_of}

-- a line that shows a text
pub text_put : (text b : List ℕ) → b ≡ text → (codes "= " ++ b) ++ codes "\n" ≡ reply_of (text_line text ∷ [])
text_put text b e = ap (λ (w : List ℕ). (codes "= " ++ w) ++ codes "\n") e ∙ sym (append-nil ((codes "= " ++ text) ++ codes "\n"))

-- its pieces, put behind a page one after another, are the line behind the page
pub line_behind : (page b one two three : List ℕ) → one ≡ page ++ codes "= " → two ≡ one ++ b → three ≡ two ++ codes "\n" → three ≡ page ++ ((codes "= " ++ b) ++ codes "\n")
line_behind page b one two three e f g =
    g ∙ ap (λ (w : List ℕ). w ++ codes "\n") (f ∙ ap (λ (w : List ℕ). w ++ b) e ∙ append_assoc page (codes "= ") b)
    ∙ append_assoc page (codes "= " ++ b) (codes "\n")

-- a line that shows a number
pub number_put : (number : ℕ) (d : List ℕ) → d ≡ decimal number → (codes "= " ++ d) ++ codes "\n" ≡ reply_of (number_line number ∷ [])
number_put number d e = ap (λ (w : List ℕ). (codes "= " ++ w) ++ codes "\n") e ∙ sym (append-nil ((codes "= " ++ decimal number) ++ codes "\n"))

-- a line that shows a name and a number
pub size_put : (name : List ℕ) (size : ℕ) (b d : List ℕ) → b ≡ name → d ≡ decimal size → (((codes "= " ++ b) ++ codes " ") ++ d) ++ codes "\n" ≡ reply_of (size_line (name, size) ∷ [])
size_put name size b d e is =
    ap (λ (w : List ℕ). (((codes "= " ++ w) ++ codes " ") ++ d) ++ codes "\n") e
    ∙ ap (λ (w : List ℕ). (((codes "= " ++ name) ++ codes " ") ++ w) ++ codes "\n") is
    ∙ sym (append-nil ((((codes "= " ++ name) ++ codes " ") ++ decimal size) ++ codes "\n"))
