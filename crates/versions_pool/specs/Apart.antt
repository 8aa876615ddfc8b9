-- What the cells of a store of maps are as texts, and which cells of a pool are keys and which are values.
use Rattle.std.specs.Prelude.{◌≡◌, ℕ, ◌<◌, Bool, true, false, not, List, [], ◌∷◌, length, Option, Some, None, nat_eq, slice_get, slice_index_or}
use Rattle.std.specs.List.{filter_map, list_all, list_any}
use Rattle.node_heap.specs.Links.{count}
use Rattle.node_heap.specs.Forms.{Form, node, pair, links_of}
use Rattle.pool_text.specs.Rows.{Bytes}
use Rattle.versions.specs.declared.piece.Piece.{Piece}
use Rattle.versions.specs.declared.piece.Piece.TheVariants.{Key, Value}

module _ {K V : Type 0} where
  -- the text of a key or of a value
  abbrev pub piece_text : (K → Bytes) → (V → Bytes) → Piece K V → Bytes
  piece_text key_text value_text (Key k) = key_text k
  piece_text key_text value_text (Value v) = value_text v

  -- what a text is read as: a value or a key
  abbrev pub piece_of : (Bytes → K) → (Bytes → V) → Bool → Bytes → Piece K V
  piece_of of_key of_value true text = Value (of_value text)
  piece_of of_key of_value false text = Key (of_key text)

-- the first link of a pair, and the second
abbrev pub key_link : Form Bytes → Option ℕ
key_link (node pair (k ∷ v ∷ [])) = Some k
key_link _ = None

abbrev pub value_link : Form Bytes → Option ℕ
value_link (node pair (k ∷ v ∷ [])) = Some v
value_link _ = None

-- whether some pair has its value at the place
abbrev pub is_value_in : List (Form Bytes) → ℕ → Bool
is_value_in rows place = list_any (nat_eq place) (filter_map value_link rows)

-- whether no place is that of a key and of a value
abbrev pub are_apart : List (Form Bytes) → Bool
are_apart rows = list_all (λ k. not (is_value_in rows k)) (filter_map key_link rows)

-- each link is the place of a row
abbrev pub AreLinkedInside : List (Form Bytes) → Type 0
AreLinkedInside rows = (i k : ℕ) → 0 < count k (links_of (slice_get rows i)) → k < length rows

-- by these marks each place is that of a value or isn't
pub record AreMarked (rows : List (Form Bytes)) (marks : List Bool) : Type 0 where
  pub many : length marks ≡ length rows
  pub each : (p : ℕ) → p < length rows → slice_index_or marks p false ≡ is_value_in rows p
