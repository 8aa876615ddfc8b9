-- Lengths of documents.
use Rattle.std.proofs.Common.{◌≡◌, ℕ, zero, suc, ◌+◌, ◌-◌, ◌^◌, ◌<◌, ◌≤◌, Bool, true, false, cond, List, [], ◌∷◌, ◌++◌, map, length, take, get_or, refl, ap, sym, ◌∙◌, arith, add-one, codes}
use Rattle.std.specs.Prelude.{sum_by, decimal, min, max, nat_lt, ◌/◌, ◌%◌}
use Rattle.std.specs.List.{flat_map}
use Rattle.std.specs.Fmt.{digits}
use Rattle.std.proofs.lemmas.List.{length-append}
use Rattle.std.proofs.lemmas.List.Sums.{sum_by-append, sum_by-cons}
use Rattle.std.proofs.lemmas.List.Concat.{length-flat_map}
use Rattle.std.specs.Char.{digit_char}
use Rattle.std.proofs.lemmas.Bool.Decides.{nat_tests}
use Rattle.json.specs.Print.{escape_letter, escape_byte}
use Rattle.node_heap.specs.Forms.{cell}
use Rattle.serde_json.specs.Data.{Data, string}
use Rattle.serde_json.specs.View.{items_of}
use Rattle.serde_json.specs.Written.{compact_text, items_text}
use Rattle.serde_json.proofs.OnLiterals.{serde_json_on_literals}
use Rattle.pool_text.specs.Document.{list, natural, naturals, row_value, document, text}
use Rattle.pool_text.specs.Length.{capped}
use Rattle.pool_text.specs.declared.pool.Pool.{Pool}

min-add : (m a b : ℕ) → min (min a m + min b m) m ≡ min (a + b) m
min-add m a b = omega arith

min-add-right : (m a b : ℕ) → min (min a m + b) m ≡ min (a + b) m
min-add-right m a b = omega arith

-- sums that stop at the last number
pub capped-add : (a b x y : ℕ) → x ≡ capped a → y ≡ capped b → capped (x + y) ≡ capped (a + b)
capped-add a b x y e f = ap (λ n. capped (n + y)) e ∙ ap (λ n. capped (capped a + n)) f ∙ min-add (2 ^ 64 - 1) a b

pub capped-more : (a b x : ℕ) → x ≡ capped a → capped (x + b) ≡ capped (a + b)
capped-more a b x e = ap (λ n. capped (n + b)) e ∙ min-add-right (2 ^ 64 - 1) a b

min-max : (m s : ℕ) → 1 ≤ m → min (max (min s m) 1 + 1) m ≡ min (max s 1 + 1) m
min-max m s h = omega arith

pub capped-last : (s : ℕ) → capped (max (capped s) 1 + 1) ≡ capped (max s 1 + 1)
capped-last s = min-max (2 ^ 64 - 1) s (omega arith)

take-item : {X : Type 0} (xs : List X) (i : ℕ) (x : X) → i < length xs → x ≡ get_or xs i x → take (i + 1) xs ≡ take i xs ++ x ∷ []
take-item [] i x low is = absurd (omega arith)
take-item (y ∷ ys) zero x low is = ap (λ z. z ∷ []) (sym is)
take-item (y ∷ ys) (suc i) x low is = rw add-one (ap (λ zs. y ∷ zs) (rw add-one at (take-item ys i x (omega arith) is)))

-- what an item adds to the length of an array
abbrev pub item_length : Data → ℕ
item_length d = length (compact_text d) + 1

items-length : (ds : List Data) → length (items_text true (items_of ds)) ≡ sum_by item_length ds + 1
items-length [] = refl
items-length (d ∷ ds) = omega (arith, length-append (compact_text d) (items_text true (items_of ds)), items-length ds, sum_by-cons item_length d ds)

pub array-length : (ds : List Data) → length (compact_text (list ds)) ≡ max (sum_by item_length ds) 1 + 1
array-length [] = refl
array-length (d ∷ ds) = omega (arith, length-append (compact_text d) (items_text true (items_of ds)), items-length ds, sum_by-cons item_length d ds)

pub sum-map : {X : Type 0} (f : X → Data) (xs : List X) → sum_by item_length (map f xs) ≡ sum_by (λ x. item_length (f x)) xs
sum-map f [] = refl
sum-map f (x ∷ xs) = sum_by-cons item_length (f x) (map f xs) ∙ ap (λ n. item_length (f x) + n) (sum-map f xs) ∙ sym (sum_by-cons (λ y. item_length (f y)) x xs)

-- a node of a letter
node-length : (letter : List ℕ) (numbers links : List ℕ) → length (compact_text (string letter)) ≡ 3
    → length (compact_text (list (string letter ∷ (map natural numbers ++ naturals links ∷ [])))) ≡ 6 + (sum_by (λ n. length (decimal n) + 1) numbers + length (compact_text (naturals links)))
node-length letter numbers links three =
    let whole = array-length (string letter ∷ (map natural numbers ++ naturals links ∷ [])) in
    omega (arith, whole, three, sum_by-cons item_length (string letter) (map natural numbers ++ naturals links ∷ []), sum_by-append item_length (map natural numbers) (naturals links ∷ []), sum_by-cons item_length (naturals links) [], sum-map natural numbers)

pub cell-row-length : (bytes : List ℕ) → length (compact_text (row_value (cell bytes))) ≡ length (compact_text (string bytes)) + 6
unfolding serde_json_on_literals
cell-row-length bytes =
    let whole = array-length (string (codes "c") ∷ string bytes ∷ []) in
    let three : length (compact_text (string (codes "c"))) ≡ 3 = refl in
    omega (arith, whole, three, sum_by-cons item_length (string (codes "c")) (string bytes ∷ []), sum_by-cons item_length (string bytes) [])

-- the text of a document in pieces
pieces : (P : Pool)
    → text P ≡ codes "{\"bits\":" ++ (decimal P.bits ++ (codes ",\"format\":\"ewig-pool\",\"history\":" ++ (decimal P.history ++ (codes ",\"roots\":" ++ (compact_text (naturals P.roots)
    ++ (codes ",\"rows\":" ++ (compact_text (list (map row_value P.rows)) ++ codes ",\"version\":3}")))))))
unfolding document digits serde_json_on_literals
pieces P = refl

nine : (a x b y c z d w e : List ℕ)
    → length (a ++ (x ++ (b ++ (y ++ (c ++ (z ++ (d ++ (w ++ e)))))))) ≡ length a + (length x + (length b + (length y + (length c + (length z + (length d + (length w + length e)))))))
nine a x b y c z d w e = simp length-append

pub document-length : (P : Pool) → length (text P) ≡ 70 + (length (decimal P.bits) + (length (decimal P.history) + (length (compact_text (naturals P.roots)) + length (compact_text (list (map row_value P.rows))))))
document-length P =
    let whole = ap length (pieces P)
    ∙ nine (codes "{\"bits\":") (decimal P.bits) (codes ",\"format\":\"ewig-pool\",\"history\":") (decimal P.history) (codes ",\"roots\":") (compact_text (naturals P.roots)) (codes ",\"rows\":")
    (compact_text (list (map row_value P.rows))) (codes ",\"version\":3}") in
    omega (arith, whole)

pub quoted-length : (bytes : List ℕ) → length (compact_text (string bytes)) ≡ 2 + sum_by (λ b. length (escape_byte b)) bytes
quoted-length bytes = omega (arith, length-append (flat_map escape_byte bytes) (34 ∷ []), length-flat_map escape_byte bytes)

-- a letter in quotes
pub three-l : length (compact_text (string (codes "l"))) ≡ 3
unfolding serde_json_on_literals
three-l = refl

pub three-i : length (compact_text (string (codes "i"))) ≡ 3
unfolding serde_json_on_literals
three-i = refl

pub three-m : length (compact_text (string (codes "m"))) ≡ 3
unfolding serde_json_on_literals
three-m = refl

pub three-k : length (compact_text (string (codes "k"))) ≡ 3
unfolding serde_json_on_literals
three-k = refl

pub three-p : length (compact_text (string (codes "p"))) ≡ 3
unfolding serde_json_on_literals
three-p = refl

pub three-s : length (compact_text (string (codes "s"))) ≡ 3
unfolding serde_json_on_literals
three-s = refl

-- what is said of a node's length
pub node-says : (result : ℕ) (numbers links links' letter : List ℕ) (d : Data) → result ≡ capped (6 + (sum_by (λ n. length (decimal n) + 1) numbers + length (compact_text (naturals links'))))
    → links' ≡ links → d ≡ list (string letter ∷ (map natural numbers ++ naturals links ∷ [])) → length (compact_text (string letter)) ≡ 3 → result ≡ capped (length (compact_text d))
node-says result numbers links links' letter d is same e three =
    is ∙ ap (λ ks. capped (6 + (sum_by (λ n. length (decimal n) + 1) numbers + length (compact_text (naturals ks))))) same
    ∙ ap capped (sym (ap (λ x. length (compact_text x)) e ∙ node-length letter numbers links three))

-- what stands in a text for a byte, by the two tests of it
abbrev escaped : Bool → Bool → ℕ → List ℕ
escaped letter low x = cond letter (92 ∷ escape_letter x ∷ []) (cond low (92 ∷ 117 ∷ 48 ∷ 48 ∷ digit_char (x / 16) ∷ digit_char (x % 16) ∷ []) (x ∷ []))

pub two-bytes : (x : ℕ) → nat_lt 0 (escape_letter x) ≡ true → 2 ≡ length (escape_byte x)
unfolding escape_byte
two-bytes x h = sym (ap (λ b. length (escaped b (nat_lt x 32) x)) h)

pub six-bytes : (x : ℕ) → nat_lt 0 (escape_letter x) ≡ false → x < 32 → 6 ≡ length (escape_byte x)
unfolding escape_byte
six-bytes x h low = sym (ap (λ b. length (escaped b (nat_lt x 32) x)) h ∙ ap (λ b. length (escaped false b x)) (less x low))
  where
    less : (x : ℕ) → x < 32 → nat_lt x 32 ≡ true
    less x h = grind (arith, nat_tests)

pub one-byte : (x : ℕ) → nat_lt 0 (escape_letter x) ≡ false → 32 ≤ x → 1 ≡ length (escape_byte x)
unfolding escape_byte
one-byte x h high = sym (ap (λ b. length (escaped b (nat_lt x 32) x)) h ∙ ap (λ b. length (escaped false b x)) (more x high))
  where
    more : (x : ℕ) → 32 ≤ x → nat_lt x 32 ≡ false
    more x h = grind (arith, nat_tests)
