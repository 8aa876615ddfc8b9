-- A value that stands for a pool, and has its version, is the pool's document.
use Rattle.std.proofs.Common.{◌≡◌, ℕ, suc, Bool, true, false, cond, eqb, List, [], ◌∷◌, length, map, Option, Some, None, option_map, bytes_eq, refl, ap, ap₂, sym, subst, ◌∙◌, arith}
use Rattle.std.specs.Prelude.{codes, not, option_and_then, IsSomeAnd}
use Rattle.std.specs.Option.{option_or}
use Rattle.std.proofs.lemmas.Bool.{both_ways}
use Rattle.std.proofs.lemmas.Option.{none-some, same_Some, option_and_then_some}
use Rattle.std.proofs.lemmas.Slice.Eq.{bytes_eq-Decides}
use Rattle.node_heap.specs.Forms.{Form, Kind, cell, node, leaf, inner, trie, chain, pair, state}
use Rattle.serde_json.specs.Data.{unsigned, negative, float, Data, null, boolean, number, string, array, object, Items, no_items, item, Members, no_members, member}
use Rattle.serde_json.specs.View.{items_of}
use Rattle.serde_json.specs.Written.{compact_text}
use Rattle.pool_text.specs.Rows.{Bytes, is_between, is_in_range_to}
use Rattle.pool_text.specs.Rules.{rules_of}
use Rattle.pool_text.specs.Document.{list, natural, naturals, row_value, document, text, number_in, item_list, elements_in, all_of, numbers_in, cell_form, node_form, inner_form, trie_form, form_after, form_from, kept_if, row_in, DocumentParts, four, document_keys, older_keys, values_at, history_in, fits_version, parts_read, parts_by_format, parts_from, parts_in, value_in, rows_in, pool_by, pool_from, pool_in, pool_in_bytes}
use Rattle.pool_text.specs.Laws.{IsCompact}
use Rattle.pool_text.specs.declared.pool.Pool.{Pool}
use Rattle.pool_text.specs.declared.rules.TheConstants.{PRESENT_VERSION, MOST_HISTORY}
use Rattle.pool_text.proofs.EachRead.{onto-some}

-- either answer of a test
choice : {X P : Type 0} (b : Bool) (o p : Option X) (x : X) → cond b o p ≡ Some x → (b ≡ true → o ≡ Some x → P) → (b ≡ false → p ≡ Some x → P) → P
choice true o p x e pass fail = pass refl e
choice false o p x e pass fail = fail refl e

-- the first of two that is there
either-of : {X P : Type 0} (o p : Option X) (x : X) → option_or o p ≡ Some x → (o ≡ Some x → P) → (p ≡ Some x → P) → P
either-of None p x e first second = second e
either-of (Some y) p x e first second = first e

-- what is mapped to something is something
pub mapped : {X Y P : Type 0} (f : X → Y) (o : Option X) (y : Y) → option_map f o ≡ Some y → ((x : X) → o ≡ Some x → f x ≡ y → P) → P
mapped f None y e k = absurd (none-some y e)
mapped f (Some x) y e k = k x refl (same_Some (f x) y e)

-- Numbers.

number-back : (d : Data) (n : ℕ) → number_in d ≡ Some n → natural n ≡ d
number-back null n e = absurd (none-some n e)
number-back (boolean b) n e = absurd (none-some n e)
number-back (number (unsigned m)) n e = ap natural (sym (same_Some m n e))
number-back (number (negative z)) n e = absurd (none-some n e)
number-back (number (float x)) n e = absurd (none-some n e)
number-back (string s) n e = absurd (none-some n e)
number-back (array ds) n e = absurd (none-some n e)
number-back (object ms) n e = absurd (none-some n e)

items-back : (ds : Items) → items_of (item_list ds) ≡ ds
items-back no_items = refl
items-back (item d ds) = ap (item d) (items-back ds)

elements-back : (d : Data) (ds : List Data) → elements_in d ≡ Some ds → list ds ≡ d
elements-back null ds e = absurd (none-some ds e)
elements-back (boolean b) ds e = absurd (none-some ds e)
elements-back (number n) ds e = absurd (none-some ds e)
elements-back (string s) ds e = absurd (none-some ds e)
elements-back (array es) ds e = ap list (sym (same_Some (item_list es) ds e)) ∙ ap array (items-back es)
elements-back (object ms) ds e = absurd (none-some ds e)

module _ {X Y : Type 0} (f : X → Option Y) (g : Y → X) (back : (x : X) (y : Y) → f x ≡ Some y → g y ≡ x) where
  all_of-back : (xs : List X) (ys : List Y) → all_of f xs ≡ Some ys → map g ys ≡ xs
  all_of-back [] ys e = ap (map g) (sym (same_Some [] ys e))
  all_of-back (x ∷ xs) ys e =
      let parts = onto-some (f x) (all_of f xs) ys e in
      ap (map g) parts.is_both ∙ ap₂ (λ z zs. z ∷ zs) (back x parts.first parts.is_first) (all_of-back xs parts.rest parts.is_rest)

numbers-back : (d : Data) (ns : List ℕ) → numbers_in d ≡ Some ns → naturals ns ≡ d
numbers-back d ns e = option_and_then_some (all_of number_in) (elements_in d) ns e (λ ds is all. ap list (all_of-back number_in natural number-back ds ns all) ∙ elements-back d ds is)

-- Rows.

-- a row of this value is what a letter and the values behind it read as
abbrev IsRow : Bytes → List Data → Form Bytes → Type 0
IsRow letter rest r = row_value r ≡ list (string letter ∷ rest)

cell-back : (letter : Bytes) (rest : List Data) (r : Form Bytes) → letter ≡ codes "c" → cell_form rest ≡ Some r → IsRow letter rest r
cell-back letter [] r is e = absurd (none-some r e)
cell-back letter (null ∷ ds) r is e = absurd (none-some r e)
cell-back letter (boolean b ∷ ds) r is e = absurd (none-some r e)
cell-back letter (number n ∷ ds) r is e = absurd (none-some r e)
cell-back letter (string s ∷ []) r is e = ap row_value (sym (same_Some (cell s) r e)) ∙ ap (λ t. list (string t ∷ string s ∷ [])) (sym is)
cell-back letter (string s ∷ d ∷ ds) r is e = absurd (none-some r e)
cell-back letter (array es ∷ ds) r is e = absurd (none-some r e)
cell-back letter (object ms ∷ ds) r is e = absurd (none-some r e)

-- a node, with its numbers before its links
node-back : {P : Type 0} (kind : Kind) (rest : List Data) (r : Form Bytes) → node_form kind rest ≡ Some r → ((links : List ℕ) → node kind links ≡ r → naturals links ∷ [] ≡ rest → P) → P
node-back kind [] r e k = absurd (none-some r e)
node-back kind (d ∷ []) r e k = mapped (node kind) (numbers_in d) r e (λ links is made. k links made (ap (λ x. x ∷ []) (numbers-back d links is)))
node-back kind (d ∷ x ∷ ds) r e k = absurd (none-some r e)

simple-back : (kind : Kind) (code : Bytes) → ((links : List ℕ) → row_value (node kind links) ≡ list (string code ∷ naturals links ∷ []))
    → (letter : Bytes) (rest : List Data) (r : Form Bytes) → letter ≡ code → node_form kind rest ≡ Some r → IsRow letter rest r
simple-back kind code value letter rest r is e =
    node-back kind rest r e (λ links made all. ap row_value (sym made) ∙ value links ∙ ap₂ (λ t ds. list (string t ∷ ds)) (sym is) all)

inner-back : (letter : Bytes) (rest : List Data) (r : Form Bytes) → letter ≡ codes "i" → inner_form rest ≡ Some r → IsRow letter rest r
inner-back letter [] r is e = absurd (none-some r e)
inner-back letter (h ∷ rest) r is e =
    option_and_then_some (λ n. node_form (inner n) rest) (number_in h) r e (λ n height node_is.
    node-back (inner n) rest r node_is (λ links made all.
    ap row_value (sym made) ∙ ap₂ (λ t ds. list (string t ∷ ds)) (sym is) (ap₂ (λ x ds. x ∷ ds) (number-back h n height) all)))

trie-back : (letter : Bytes) (rest : List Data) (r : Form Bytes) → letter ≡ codes "m" → trie_form rest ≡ Some r → IsRow letter rest r
trie-back letter [] r is e = absurd (none-some r e)
trie-back letter (x ∷ []) r is e = absurd (none-some r e)
trie-back letter (x ∷ y ∷ []) r is e = absurd (none-some r e)
trie-back letter (x ∷ y ∷ z ∷ rest) r is e =
    option_and_then_some (λ d. option_and_then (λ e. option_and_then (λ n. node_form (trie d e n) rest) (number_in z)) (number_in y)) (number_in x) r e (λ d depth after.
    option_and_then_some (λ e. option_and_then (λ n. node_form (trie d e n) rest) (number_in z)) (number_in y) r after (λ m entries last.
    option_and_then_some (λ n. node_form (trie d m n) rest) (number_in z) r last (λ n nodes node_is.
    node-back (trie d m n) rest r node_is (λ links made all.
    ap row_value (sym made)
    ∙ ap₂ (λ t ds. list (string t ∷ ds)) (sym is)
    (ap₂ (λ v ds. v ∷ ds) (number-back x d depth) (ap₂ (λ v ds. v ∷ ds) (number-back y m entries) (ap₂ (λ v ds. v ∷ ds) (number-back z n nodes) all)))))))

same-bytes : (xs ys : Bytes) → bytes_eq xs ys ≡ true → xs ≡ ys
same-bytes xs ys e = (bytes_eq-Decides xs ys).0 e

after-back : (letter : Bytes) (rest : List Data) (r : Form Bytes) → form_after letter rest ≡ Some r → IsRow letter rest r
after-back letter rest r e =
    let letters : (code : Bytes) → bytes_eq letter code ≡ true → letter ≡ code = same-bytes letter in
    choice _ _ _ r e (λ is f. cell-back letter rest r (letters (codes "c") is) f) (λ _ e.
    choice _ _ _ r e (λ is f. simple-back leaf (codes "l") (λ _. refl) letter rest r (letters (codes "l") is) f) (λ _ e.
    choice _ _ _ r e (λ is f. inner-back letter rest r (letters (codes "i") is) f) (λ _ e.
    choice _ _ _ r e (λ is f. trie-back letter rest r (letters (codes "m") is) f) (λ _ e.
    choice _ _ _ r e (λ is f. simple-back chain (codes "k") (λ _. refl) letter rest r (letters (codes "k") is) f) (λ _ e.
    choice _ _ _ r e (λ is f. simple-back pair (codes "p") (λ _. refl) letter rest r (letters (codes "p") is) f) (λ _ e.
    choice _ _ _ r e (λ is f. simple-back state (codes "s") (λ _. refl) letter rest r (letters (codes "s") is) f) (λ _ e.
    absurd (none-some r e))))))))

form-back : (ds : List Data) (r : Form Bytes) → form_from ds ≡ Some r → row_value r ≡ list ds
form-back [] r e = absurd (none-some r e)
form-back (null ∷ ds) r e = absurd (none-some r e)
form-back (boolean b ∷ ds) r e = absurd (none-some r e)
form-back (number n ∷ ds) r e = absurd (none-some r e)
form-back (string s ∷ ds) r e = after-back s ds r e
form-back (array es ∷ ds) r e = absurd (none-some r e)
form-back (object ms ∷ ds) r e = absurd (none-some r e)

row-back : (deepest : ℕ) (d : Data) (r : Form Bytes) → row_in deepest d ≡ Some r → row_value r ≡ d
row-back deepest d r e =
    option_and_then_some (λ x. cond (is_in_range_to deepest x) (Some x) None) (option_and_then form_from (elements_in d)) r e (λ x found kept.
    choice (is_in_range_to deepest x) (Some x) None r kept (λ _ same.
    option_and_then_some form_from (elements_in d) x found (λ ds are form.
    ap row_value (sym (same_Some x r same)) ∙ form-back ds x form ∙ elements-back d ds are))
    (λ _ none. absurd (none-some r none)))

-- The document.

abbrev members_with : List Bytes → List Data → Members
members_with [] ds = no_members
members_with (k ∷ ks) [] = no_members
members_with (k ∷ ks) (d ∷ ds) = member k d (members_with ks ds)

members-back : (ks : List Bytes) (ms : Members) (ds : List Data) → values_at ks ms ≡ Some ds → members_with ks ds ≡ ms
members-back [] no_members ds e = refl
members-back [] (member l d ms) ds e = absurd (none-some ds e)
members-back (k ∷ ks) no_members ds e = absurd (none-some ds e)
members-back (k ∷ ks) (member l d ms) ds e =
    choice (bytes_eq l k) (option_map (λ es. d ∷ es) (values_at ks ms)) None ds e
    (λ same more. mapped (λ es. d ∷ es) (values_at ks ms) ds more (λ es are made.
    ap (members_with (k ∷ ks)) (sym made) ∙ ap₂ (λ key rest. member key d rest) (sym (same-bytes l k same)) (members-back ks ms es are)))
    (λ _ none. absurd (none-some ds none))

-- as many values as keys
members-length : (ks : List Bytes) (ms : Members) (ds : List Data) → values_at ks ms ≡ Some ds → length ds ≡ length ks
members-length [] no_members ds e = ap length (sym (same_Some [] ds e))
members-length [] (member l d ms) ds e = absurd (none-some ds e)
members-length (k ∷ ks) no_members ds e = absurd (none-some ds e)
members-length (k ∷ ks) (member l d ms) ds e =
    choice (bytes_eq l k) (option_map (λ es. d ∷ es) (values_at ks ms)) None ds e
    (λ _ more. mapped (λ es. d ∷ es) (values_at ks ms) ds more (λ es are made. ap length (sym made) ∙ ap suc (members-length ks ms es are)))
    (λ _ none. absurd (none-some ds none))

-- the values that the parts of a document of the version that is written are read from
abbrev values_of : DocumentParts → List Data
values_of p = natural p.bits ∷ string (codes "ewig-pool") ∷ natural p.history ∷ naturals p.roots ∷ list p.rows ∷ natural p.version ∷ []

four-same : (ns ks : List ℕ) → four ns ≡ Some ks → ks ≡ ns
four-same [] ks e = absurd (none-some ks e)
four-same (a ∷ []) ks e = absurd (none-some ks e)
four-same (a ∷ b ∷ []) ks e = absurd (none-some ks e)
four-same (a ∷ b ∷ c ∷ []) ks e = absurd (none-some ks e)
four-same (a ∷ b ∷ c ∷ d ∷ []) ks e = sym (same_Some (a ∷ b ∷ c ∷ d ∷ []) ks e)
four-same (a ∷ b ∷ c ∷ d ∷ x ∷ ns) ks e = absurd (none-some ks e)

-- what passes a test is what was there
pub kept-same : {X P : Type 0} (test : X → Bool) (o : Option X) (x : X) → kept_if test o ≡ Some x → (o ≡ Some x → test x ≡ true → P) → P
kept-same test o x e k =
    option_and_then_some (λ y. cond (test y) (Some y) None) o x e (λ y there kept.
    choice (test y) (Some y) None x kept
    (λ pass same. let is : y ≡ x = same_Some y x same in k (there ∙ ap (λ z. Some z) is) (ap test (sym is) ∙ pass))
    (λ _ none. absurd (none-some x none)))

-- what the parts say of the values that they were read from, of which that of the history may be missing
pub record AreRead (bits : Data) (value : Option Data) (roots rows version : Data) (p : DocumentParts) : Type 0 where
  pub bits_are : natural p.bits ≡ bits
  pub history_is : history_in value ≡ Some p.history
  pub roots_are : naturals p.roots ≡ roots
  pub rows_are : list p.rows ≡ rows
  pub version_is : natural p.version ≡ version
  pub fits : fits_version value p.version ≡ true

pub read-back : (bits : Data) (value : Option Data) (roots rows version : Data) (p : DocumentParts) → parts_read bits value roots rows version ≡ Some p → AreRead bits value roots rows version p
read-back bits value roots rows version p e =
    option_and_then_some _ (number_in bits) p e (λ b is_bits after.
    option_and_then_some _ (history_in value) p after (λ h is_history then.
    option_and_then_some _ (option_and_then four (numbers_in roots)) p then (λ rs are_four next.
    option_and_then_some _ (elements_in rows) p next (λ ds are last.
    mapped (λ v. record { bits = b; history = h; roots = rs; rows = ds; version = v }) (kept_if (fits_version value) (number_in version)) p last (λ v kept made.
    kept-same (fits_version value) (number_in version) v kept (λ is_version pass.
    option_and_then_some four (numbers_in roots) rs are_four (λ ns are_roots four_kept. record {
      bits_are = ap (λ (q : DocumentParts). natural q.bits) (sym made) ∙ number-back bits b is_bits;
      history_is = is_history ∙ ap (λ (q : DocumentParts). Some q.history) made;
      roots_are = ap (λ (q : DocumentParts). naturals q.roots) (sym made) ∙ ap naturals (four-same ns rs four_kept) ∙ numbers-back roots ns are_roots;
      rows_are = ap (λ (q : DocumentParts). list q.rows) (sym made) ∙ elements-back rows ds are;
      version_is = ap (λ (q : DocumentParts). natural q.version) (sym made) ∙ number-back version v is_version;
      fits = ap (λ (q : DocumentParts). fits_version value q.version) (sym made) ∙ pass;
    })))))))

-- parts of which the format is the pool's
pub format-back : {P : Type 0} (format : Data) (parts : Option DocumentParts) (p : DocumentParts) → parts_by_format format parts ≡ Some p → (string (codes "ewig-pool") ≡ format → parts ≡ Some p → P) → P
format-back null parts p e k = absurd (none-some p e)
format-back (boolean b) parts p e k = absurd (none-some p e)
format-back (number n) parts p e k = absurd (none-some p e)
format-back (array es) parts p e k = absurd (none-some p e)
format-back (object ms) parts p e k = absurd (none-some p e)
format-back (string s) parts p e k =
    choice (bytes_eq s (codes "ewig-pool")) parts None p e
    (λ same is. k (ap string (sym (same-bytes s (codes "ewig-pool") same))) is)
    (λ _ none. absurd (none-some p none))

-- the version that is written says its history
from-back : (ds : List Data) (p : DocumentParts) → parts_from ds ≡ Some p → length ds ≡ 6 → values_of p ≡ ds
from-back [] p e six = absurd (none-some p e)
from-back (a ∷ []) p e six = absurd (none-some p e)
from-back (a ∷ f ∷ []) p e six = absurd (none-some p e)
from-back (a ∷ f ∷ c ∷ []) p e six = absurd (none-some p e)
from-back (a ∷ f ∷ c ∷ d ∷ []) p e six = absurd (none-some p e)
from-back (a ∷ f ∷ c ∷ d ∷ v ∷ []) p e six = absurd (omega (arith, six))
from-back (a ∷ f ∷ h ∷ c ∷ d ∷ v ∷ x ∷ xs) p e six = absurd (none-some p e)
from-back (a ∷ f ∷ h ∷ c ∷ d ∷ v ∷ []) p e six =
    format-back f (parts_read a (Some h) c d v) p e (λ format read.
    let are = read-back a (Some h) c d v p read in
    ap₂ (λ x xs. x ∷ xs) are.bits_are (ap₂ (λ x xs. x ∷ xs) format
    (ap₂ (λ x xs. x ∷ xs) (history-back h p.history are.history_is)
    (ap₂ (λ x xs. x ∷ xs) are.roots_are (ap₂ (λ x xs. x ∷ xs) are.rows_are (ap (λ x. x ∷ []) are.version_is))))))
  where
    history-back : (h : Data) (n : ℕ) → history_in (Some h) ≡ Some n → natural n ≡ h
    history-back h n e = kept-same (is_between 0 MOST_HISTORY) (number_in h) n e (λ is _. number-back h n is)

-- an older document has another version
older-version : (ds : List Data) (p : DocumentParts) → parts_from ds ≡ Some p → length ds ≡ 5 → p.version ≡ 3 → ⊥
older-version [] p e five now = none-some p e
older-version (a ∷ []) p e five now = none-some p e
older-version (a ∷ f ∷ []) p e five now = none-some p e
older-version (a ∷ f ∷ c ∷ []) p e five now = none-some p e
older-version (a ∷ f ∷ c ∷ d ∷ []) p e five now = none-some p e
older-version (a ∷ f ∷ h ∷ c ∷ d ∷ v ∷ []) p e five now = omega (arith, five)
older-version (a ∷ f ∷ h ∷ c ∷ d ∷ v ∷ x ∷ xs) p e five now = none-some p e
older-version (a ∷ f ∷ c ∷ d ∷ v ∷ []) p e five now =
    format-back f (parts_read a None c d v) p e (λ _ read.
    let other : not (eqb p.version 3) ≡ true = (read-back a None c d v p read).fits in
    both_ways false refl (ap (λ n. not (eqb n 3)) (sym now) ∙ other))

parts-back : (d : Data) (p : DocumentParts) → parts_in d ≡ Some p → p.version ≡ 3 → object (members_with document_keys (values_of p)) ≡ d
parts-back null p e now = absurd (none-some p e)
parts-back (boolean b) p e now = absurd (none-some p e)
parts-back (number n) p e now = absurd (none-some p e)
parts-back (string s) p e now = absurd (none-some p e)
parts-back (array ds) p e now = absurd (none-some p e)
parts-back (object ms) p e now =
    option_and_then_some parts_from (option_or (values_at document_keys ms) (values_at older_keys ms)) p e (λ vs are from.
    either-of (values_at document_keys ms) (values_at older_keys ms) vs are
    (λ new. ap (λ ds. object (members_with document_keys ds)) (from-back vs p from (members-length document_keys ms vs new)) ∙ ap object (members-back document_keys ms vs new))
    (λ old. absurd (older-version vs p from (members-length older_keys ms vs old) now)))

pub document-back : (d : Data) (P : Pool) → pool_in d ≡ Some P → P.version ≡ PRESENT_VERSION → document P ≡ d
unfolding pool_in document
document-back d P is now =
    option_and_then_some pool_from (parts_in d) P is (λ p parts found.
    option_and_then_some (pool_by p) (rules_of p.version) P found (λ rules version pool_is.
    mapped (λ rows. record { bits = p.bits; version = p.version; history = p.history; rows = rows; roots = p.roots }) (rows_in p rules) P pool_is (λ rows are made.
    let v : p.version ≡ PRESENT_VERSION = ap (λ (Q : Pool). Q.version) made ∙ now in
    ap document (sym made)
    ∙ ap₂ (λ ds n. object (member (codes "bits") (natural p.bits) (member (codes "format") (string (codes "ewig-pool")) (member (codes "history") (natural p.history)
    (member (codes "roots") (naturals p.roots) (member (codes "rows") (list ds) (member (codes "version") (natural n) no_members)))))))
    (all_of-back (row_in rules.deepest) row_value (row-back rules.deepest) p.rows rows are) (sym v)
    ∙ parts-back d p parts v)))

pub compact-stays : (bytes : Bytes) (P : Pool) → pool_in_bytes bytes ≡ Some P → P.version ≡ PRESENT_VERSION → IsCompact bytes → text P ≡ bytes
compact-stays bytes P is now compact =
    option_and_then_some pool_in (value_in bytes) P is (λ d read pool_is.
    let same : bytes ≡ compact_text d = subst (λ o. IsSomeAnd o (λ x. bytes ≡ compact_text x)) read compact in
    ap compact_text (document-back d P pool_is now) ∙ sym same)
