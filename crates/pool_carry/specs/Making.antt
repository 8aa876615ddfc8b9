-- Inside: rows that are being made.
use Rattle.std.specs.Prelude.{◌≡◌, ℕ, ◌<◌, ◌≤◌, ◌++◌, true, false, List, ◌∷◌, length, map, nat_eq, Option, Some, option_map, option_to_list, slice_get, slice_index}
use Rattle.std.specs.List.{All, filter}
use Rattle.std.specs.Ordering.{nat_cmp}
use Rattle.std.specs.Cmp.Lexicographic.{slice_cmp}
use Rattle.indexmap.specs.IndexMap.{get}
use Rattle.elem_core.specs.Codes.{digit_at}
use Rattle.node_heap.specs.Links.{count, HasLink}
use Rattle.node_heap.specs.Forms.{Form, node, trie, chain}
use Rattle.champ_chain.specs.Entry.{Entry, entry, IsEntry}
use Rattle.champ_trie.specs.Trie.{AreSets, IsPlace, IsTrie, IsCanonTo, code_by, part, place_of}
use Rattle.pool_text.specs.Rows.{Bytes, row_form}
use Rattle.pool_text.specs.Rules.{Rules}
use Rattle.pool_text.specs.Pool.{links_from, forms_in, row_count, relink}
use Rattle.pool_text.specs.declared.pool.Pool.{Pool}
use Rattle.pool_check.specs.Tries.{entries_below}
use Rattle.pool_check.specs.Kinds.{is_trie_root}
use Rattle.pool_check.specs.Readings.{moved}
use Rattle.pool_carry.specs.Carried.{is_of_trie, AreImages}
use Rattle.pool_carry.specs.declared.entries.Entry.{Entry as CodedEntry}
use Rattle.pool_carry.specs.declared.shared_parts.Part.{Part}
use Rattle.pool_carry.specs.declared.sets_and_links.SetsAndLinks.{SetsAndLinks}
use Rattle.pool_carry.specs.declared.made.MadeRows.{MadeRows}
use Rattle.pool_carry.specs.declared.made.MadeRow.{MadeRow}
use Rattle.pool_carry.specs.declared.made.MadeRow.TheVariants.{Trie, Chain}
use Rattle.pool_carry.specs.contracts.made.MadeRowPartialEq.TheImpl as same

-- Rows.

-- the forms of the rows so far
abbrev pub forms_made : MadeRows → List (Form Bytes)
forms_made made = map row_form made.rows.items

-- a row of a trie as a form
abbrev pub trie_row_form : MadeRow → Form Bytes
trie_row_form (Trie depth entries nodes links) = node (trie depth entries nodes) links.items
trie_row_form (Chain first rest) = node chain (first ∷ option_to_list rest)

-- each row stands after those that it links to, no row of a trie stands twice, and the table has just the rows of tries
pub record AreKept (rows : List (Form Bytes)) (table : MadeRow → Option ℕ) : Type 0 where
  pub linked : (l k : ℕ) → HasLink (links_from rows) l k → k < l
  pub once : (k l : ℕ) → is_of_trie (slice_get rows k) ≡ true → slice_get rows k ≡ slice_get rows l → k ≡ l
  pub named : (l : ℕ) (row : MadeRow) → table row ≡ Some l → slice_get rows l ≡ Some (trie_row_form row)
  pub kept : (l : ℕ) (row : MadeRow) → slice_get rows l ≡ Some (trie_row_form row) → table row ≡ Some l

abbrev pub AreMade : MadeRows → Type 0
AreMade made = AreKept (forms_made made) (get (same.ghosts).eq made.places)

-- the second list begins with the first
pub record IsBegun {X : Type 0} (xs ys : List X) : Type 0 where
  pub more : List X
  pub whole : ys ≡ xs ++ more

-- Entries.

-- an entry without its code
abbrev pub seen : CodedEntry → Entry Bytes
seen e = entry e.key.now e.place

-- each has the code of its key
abbrev pub AreCoded : (Bytes → ℕ) → List CodedEntry → Type 0
AreCoded code es = All (λ e. e.code ≡ code e.key.now) es

-- each names a row with its key, and has the code of its key
pub record AreCodedEntries (code : Bytes → ℕ) (rows : List (Form Bytes)) (es : List CodedEntry) : Type 0 where
  pub codes : AreCoded code es
  pub named : All (λ e. IsEntry (slice_get rows) (seen e)) es

-- those with this digit of their codes
abbrev pub with_digit : ℕ → ℕ → List CodedEntry → List CodedEntry
with_digit depth p es = filter (λ e. nat_eq (digit_at e.code depth) p) es

-- Rows that stand for entries, by these codes, which have their last digits at this depth.

module _ (code : Bytes → ℕ) (deepest : ℕ) (rows : List (Form Bytes)) where
  -- the part of these entries, two or more: their codes have its digit at depth 0, and at its place is their trie from depth 1 on
  pub record IsPart (E : List (Entry Bytes)) (it : Part) : Type 0 where
    pub two : 2 ≤ length E
    pub small : it.digit < 32
    pub digit : All (λ e. digit_at (code e.key) 0 ≡ it.digit) E
    pub low : it.place < length rows
    pub trie : IsTrie (slice_cmp nat_cmp) code (slice_get rows) deepest 1 it.place E

  -- at each position of these sets and links stands what stands for the entries with that digit at depth 0
  pub record IsRowOver (E : List (Entry Bytes)) (row : SetsAndLinks) : Type 0 where
    pub sets : AreSets row.entries row.nodes row.links.items
    pub low : (k : ℕ) → 0 < count k row.links.items → k < length rows
    pub places : (p : ℕ) → p < 32
        → IsPlace (slice_get rows) (λ k E. IsTrie (slice_cmp nat_cmp) code (slice_get rows) deepest 1 k E) (place_of row.entries row.nodes row.links.items p) (part (slice_cmp nat_cmp) code 0 p E)

-- Images.

-- the entries in and below a row of the pool, under the names of their images
abbrev pub image_entries : Pool → List ℕ → ℕ → List (Entry Bytes)
image_entries P images l = map (moved (slice_index images)) (entries_below (row_count P) (forms_in P) l)

module _ (rules : Rules) (bits : ℕ) (P : Pool) where
  -- the image is that of the row after those whose images these are, and a row of the second list, which begins with the first: a
  -- row of its own that is new, or the canonical trie of the same entries
  pub record ImageIsMade (old new : List (Form Bytes)) (images : List ℕ) (image : ℕ) : Type 0 where
    pub low : image < length new
    pub own : is_of_trie (forms_in P (length images)) ≡ false → (image ≡ length old) × (slice_get new image ≡ option_map (relink (slice_index images)) (forms_in P (length images)))
    pub trie : is_trie_root (forms_in P (length images)) ≡ true
        → IsCanonTo (slice_cmp nat_cmp) (code_by rules.code_of bits) rules.deepest (slice_get new) image (image_entries P images (length images))

  -- these are the images of the first rows, among these rows
  pub record AreImagesOfFirst (rows : List (Form Bytes)) (images : List ℕ) : Type 0 where
    pub low : (l : ℕ) → l < length images → slice_index images l < length rows
    pub own : (l : ℕ) → l < length images → is_of_trie (forms_in P l) ≡ false → slice_get rows (slice_index images l) ≡ option_map (relink (slice_index images)) (forms_in P l)
    pub apart : (k l : ℕ) → k < length images → l < length images → is_of_trie (forms_in P k) ≡ false → is_of_trie (forms_in P l) ≡ false → slice_index images k ≡ slice_index images l → k ≡ l
    pub tries : (l : ℕ) → l < length images → is_trie_root (forms_in P l) ≡ true
        → IsCanonTo (slice_cmp nat_cmp) (code_by rules.code_of bits) rules.deepest (slice_get rows) (slice_index images l) (image_entries P images l)

  -- each of these is the part of the entries of its row
  abbrev pub ArePartsOfFirst : List (Form Bytes) → List ℕ → List (Option Part) → Type 0
  ArePartsOfFirst rows images parts = (l : ℕ) (it : Part) → slice_get parts l ≡ Some (Some it) → IsPart (code_by rules.code_of bits) rules.deepest rows (image_entries P images l) it

  -- these rows are the images of the pool's rows, each after those that it links to, and these are the images of its roots
  pub record AreCarriedRows (rows : List (Form Bytes)) (roots : List ℕ) : Type 0 where
    pub image : ℕ → ℕ
    pub images : AreImages rules bits P image (slice_get rows)
    pub linked : (l k : ℕ) → HasLink (links_from rows) l k → k < l
    pub tops : roots ≡ map image P.roots
    pub low : (r : ℕ) → 0 < count r roots → r < length rows
