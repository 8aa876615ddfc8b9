-- The document of a pool, as a JSON value and as its compact text, and what a document stands for.
use Rattle.std.specs.Prelude.{◌≡◌, ◌≤◌, ℕ, not, ◌==◌, List, [], ◌∷◌, map, Bool, true, Option, Some, None, is_some, IsSomeAnd, option_map, option_and_then, if◌then◌else◌, codes}
use Rattle.std.specs.List.{list_all}
use Rattle.std.specs.Option.{option_or}
use Rattle.std.specs.Str.{bytes_eq, is_utf8}
use Rattle.node_heap.specs.Forms.{Form, Kind, cell, node, leaf, inner, trie, chain, pair, state}
use Rattle.serde_json.specs.Data.{unsigned, Data, number, string, array, object, Items, no_items, item, Members, no_members, member}
use Rattle.serde_json.specs.Read.{read}
use Rattle.serde_json.specs.View.{items_of}
use Rattle.serde_json.specs.Written.{compact_text}
use Rattle.pool_text.specs.Rows.{Bytes, is_between, is_in_range_to}
use Rattle.pool_text.specs.Rules.{Rules, present_rules, rules_of, bits_by}
use Rattle.pool_text.specs.declared.pool.Pool.{Pool}
use Rattle.pool_text.specs.declared.rules.TheConstants.{PRESENT_VERSION, MOST_HISTORY}
use Rattle.pool_text.specs.declared.damage.Damage.{Damage}
use Rattle.pool_text.specs.declared.damage.Damage.TheVariants.{Json, Form as FormDamage, Version, Bits, Row}

-- Writing.

-- an array
abbrev pub list : List Data → Data
list ds = array (items_of ds)

abbrev pub natural : ℕ → Data
natural n = number (unsigned n)

abbrev pub naturals : List ℕ → Data
naturals ns = list (map natural ns)

-- a row: its letter, its numbers and its links
abbrev pub row_value : Form Bytes → Data
row_value (cell text) = list (string (codes "c") ∷ string text ∷ [])
row_value (node leaf links) = list (string (codes "l") ∷ naturals links ∷ [])
row_value (node (inner height) links) = list (string (codes "i") ∷ natural height ∷ naturals links ∷ [])
row_value (node (trie depth entries nodes) links) = list (string (codes "m") ∷ natural depth ∷ natural entries ∷ natural nodes ∷ naturals links ∷ [])
row_value (node chain links) = list (string (codes "k") ∷ naturals links ∷ [])
row_value (node pair links) = list (string (codes "p") ∷ naturals links ∷ [])
row_value (node state links) = list (string (codes "s") ∷ naturals links ∷ [])

-- the document of a pool; its keys are in byte order
unfoldable pub document : Pool → Data
document P =
    object (member (codes "bits") (natural P.bits) (member (codes "format") (string (codes "ewig-pool")) (member (codes "history") (natural P.history)
    (member (codes "roots") (naturals P.roots) (member (codes "rows") (list (map row_value P.rows)) (member (codes "version") (natural PRESENT_VERSION) no_members))))))

-- the compact text of that document
abbrev pub text : Pool → Bytes
text P = compact_text (document P)

-- Reading.

-- a number that fits 64 bits without a sign
abbrev pub number_in : Data → Option ℕ
number_in (number (unsigned n)) = Some n
number_in _ = None

abbrev pub item_list : Items → List Data
item_list no_items = []
item_list (item d ds) = d ∷ item_list ds

abbrev pub elements_in : Data → Option (List Data)
elements_in (array ds) = Some (item_list ds)
elements_in _ = None

-- what f gives of each, if it gives something of each
abbrev pub all_of : {X Y : Type 0} → (X → Option Y) → List X → Option (List Y)
all_of f [] = Some []
all_of f (x ∷ xs) = option_and_then (λ y. option_map (λ ys. y ∷ ys) (all_of f xs)) (f x)

abbrev pub numbers_in : Data → Option (List ℕ)
numbers_in d = option_and_then (all_of number_in) (elements_in d)

-- the forms after their letter
abbrev pub cell_form : List Data → Option (Form Bytes)
cell_form (string text ∷ []) = Some (cell text)
cell_form _ = None

abbrev pub node_form : Kind → List Data → Option (Form Bytes)
node_form kind (links ∷ []) = option_map (node kind) (numbers_in links)
node_form kind _ = None

abbrev pub inner_form : List Data → Option (Form Bytes)
inner_form (height ∷ rest) = option_and_then (λ n. node_form (inner n) rest) (number_in height)
inner_form _ = None

abbrev pub trie_form : List Data → Option (Form Bytes)
trie_form (depth ∷ entries ∷ nodes ∷ rest) = option_and_then (λ d. option_and_then (λ e. option_and_then (λ n. node_form (trie d e n) rest) (number_in nodes)) (number_in entries)) (number_in depth)
trie_form _ = None

abbrev pub form_after : Bytes → List Data → Option (Form Bytes)
form_after letter rest =
    if bytes_eq letter (codes "c") then cell_form rest else
    if bytes_eq letter (codes "l") then node_form leaf rest else
    if bytes_eq letter (codes "i") then inner_form rest else
    if bytes_eq letter (codes "m") then trie_form rest else
    if bytes_eq letter (codes "k") then node_form chain rest else
    if bytes_eq letter (codes "p") then node_form pair rest else
    if bytes_eq letter (codes "s") then node_form state rest else None

abbrev pub form_from : List Data → Option (Form Bytes)
form_from (string letter ∷ rest) = form_after letter rest
form_from _ = None

-- what is found, where it passes the test
abbrev pub kept_if : {X : Type 0} → (X → Bool) → Option X → Option X
kept_if test o = option_and_then (λ x. if test x then Some x else None) o

-- the row that a value stands for, if its numbers and its links are in range, where tries go so deep
abbrev pub row_in : ℕ → Data → Option (Form Bytes)
row_in deepest d = kept_if (is_in_range_to deepest) (option_and_then form_from (elements_in d))

-- the values of a document beside its format; one without a history has the greatest
pub record DocumentParts : Type 0 where
  pub bits : ℕ
  pub history : ℕ
  pub roots : List ℕ
  pub rows : List Data
  pub version : ℕ

abbrev pub four : List ℕ → Option (List ℕ)
four (a ∷ b ∷ c ∷ d ∷ []) = Some (a ∷ b ∷ c ∷ d ∷ [])
four _ = None

-- the keys of a document, in byte order: of one that says how many states undo keeps, and of an older one
abbrev pub document_keys : List Bytes
document_keys = codes "bits" ∷ codes "format" ∷ codes "history" ∷ codes "roots" ∷ codes "rows" ∷ codes "version" ∷ []

abbrev pub older_keys : List Bytes
older_keys = codes "bits" ∷ codes "format" ∷ codes "roots" ∷ codes "rows" ∷ codes "version" ∷ []

-- the values of the members, if their keys are exactly these
abbrev pub values_at : List Bytes → Members → Option (List Data)
values_at [] no_members = Some []
values_at (k ∷ ks) (member l d ms) = if bytes_eq l k then option_map (λ ds. d ∷ ds) (values_at ks ms) else None
values_at _ _ = None

-- the number of states that the value of `history` says, which is within the greatest bound; where no value is there, that bound
abbrev pub history_in : Option Data → Option ℕ
history_in (Some value) = kept_if (is_between 0 MOST_HISTORY) (number_in value)
history_in None = Some MOST_HISTORY

-- a document says its history exactly where it has the version that brought it
abbrev pub fits_version : Option Data → ℕ → Bool
fits_version (Some value) version = version == PRESENT_VERSION
fits_version None version = not (version == PRESENT_VERSION)

-- the parts that the values stand for beside the format
abbrev pub parts_read : Data → Option Data → Data → Data → Data → Option DocumentParts
parts_read bits value roots rows version =
    option_and_then (λ b. option_and_then (λ h. option_and_then (λ rs. option_and_then (λ ds.
    option_map (λ v. record { bits = b; history = h; roots = rs; rows = ds; version = v }) (kept_if (fits_version value) (number_in version)))
    (elements_in rows)) (option_and_then four (numbers_in roots))) (history_in value)) (number_in bits)

-- the parts of which the format is the pool's
abbrev pub parts_by_format : Data → Option DocumentParts → Option DocumentParts
parts_by_format (string format) parts = if bytes_eq format (codes "ewig-pool") then parts else None
parts_by_format _ parts = None

-- the values of a document's keys, or of an older one's
abbrev pub parts_from : List Data → Option DocumentParts
parts_from (bits ∷ format ∷ history ∷ roots ∷ rows ∷ version ∷ []) = parts_by_format format (parts_read bits (Some history) roots rows version)
parts_from (bits ∷ format ∷ roots ∷ rows ∷ version ∷ []) = parts_by_format format (parts_read bits None roots rows version)
parts_from _ = None

abbrev pub parts_in : Data → Option DocumentParts
parts_in (object ms) = option_and_then parts_from (option_or (values_at document_keys ms) (values_at older_keys ms))
parts_in _ = None

-- what the bytes read as
abbrev pub value_in : Bytes → Option Data
value_in bytes = if is_utf8 bytes then read bytes else None

-- the rows of a document, each in its form and in range by these rules
abbrev pub rows_in : DocumentParts → Rules → Option (List (Form Bytes))
rows_in p rules = all_of (row_in rules.deepest) p.rows

-- the pool that the parts of a document stand for by these rules
abbrev pub pool_by : DocumentParts → Rules → Option Pool
pool_by p rules = option_map (λ rows. record { bits = p.bits; version = p.version; history = p.history; rows = rows; roots = p.roots }) (rows_in p rules)

-- the pool that the parts of a document stand for by the rules of its version, if that is one that is read
abbrev pub pool_from : DocumentParts → Option Pool
pool_from p = option_and_then (pool_by p) (rules_of p.version)

-- the pool that a document stands for
unfoldable pub pool_in : Data → Option Pool
pool_in d = option_and_then pool_from (parts_in d)

-- the pool that the bytes stand for
abbrev pub pool_in_bytes : Bytes → Option Pool
pool_in_bytes bytes = option_and_then pool_in (value_in bytes)

-- the pool has a version that is read, and by its rules each row is in range
abbrev pub IsInRange : Pool → Type 0
IsInRange P = IsSomeAnd (rules_of P.version) (λ rules. list_all (is_in_range_to rules.deepest) P.rows ≡ true)

-- the pool's history is within the greatest bound, and is that bound where its version says none
pub record HistoryFitsVersion (P : Pool) : Type 0 where
  pub within : P.history ≤ MOST_HISTORY
  pub older : (P.version ≡ PRESENT_VERSION → ⊥) → P.history ≡ MOST_HISTORY

-- what the next test says of what is there, and the damage where nothing is
abbrev pub or_damage : {X : Type 0} → Damage → (X → Option Damage) → Option X → Option Damage
or_damage d next None = Some d
or_damage d next (Some x) = next x

-- the first of the tests that the parts fail by these rules, of `Bits` and `Row`, in a space of so many bits
abbrev pub parts_damage_by : ℕ → DocumentParts → Rules → Option Damage
parts_damage_by bits p rules =
    if not (p.bits == bits_by p.version bits) then Some Bits else
    if is_some (rows_in p rules) then None else Some Row

-- the first of the tests that the parts fail, of `Version`, `Bits` and `Row`, in a space of so many bits
abbrev pub parts_damage : ℕ → DocumentParts → Option Damage
parts_damage bits p = or_damage Version (parts_damage_by bits p) (rules_of p.version)

-- the first of the tests `Form` to `Row` that the value fails, if any
unfoldable pub value_damage : ℕ → Data → Option Damage
value_damage bits d = or_damage FormDamage (parts_damage bits) (parts_in d)

-- the first of the tests `Json` to `Row` that the bytes fail, if any
unfoldable pub bytes_damage : ℕ → Bytes → Option Damage
bytes_damage bits bytes = or_damage Json (value_damage bits) (value_in bytes)

-- Of the version that is written alone.

-- the first of the tests `Version`, `Bits` and `Row` that the parts fail, of which the first is that the version is the one that is
-- written
abbrev pub present_parts_damage : ℕ → DocumentParts → Option Damage
present_parts_damage bits p = if not (p.version == PRESENT_VERSION) then Some Version else parts_damage_by bits p present_rules

-- the first of the tests `Form` to `Row` that the value fails so, if any
unfoldable pub present_value_damage : ℕ → Data → Option Damage
present_value_damage bits d = or_damage FormDamage (present_parts_damage bits) (parts_in d)

-- the first of the tests `Json` to `Row` that the bytes fail so, if any
unfoldable pub present_bytes_damage : ℕ → Bytes → Option Damage
present_bytes_damage bits bytes = or_damage Json (present_value_damage bits) (value_in bytes)
