-- What the cells of a store of maps hold: keys and values.
use Rattle.std.specs.Prelude.{◌≡◌, ◌≢◌, ℕ, List, [], ◌∷◌, Option, Some, None, T, refl}
use Rattle.std.proofs.Common.{sym, subst, ◌∙◌}
use Rattle.std.specs.Ordering.{is_eq}
use Rattle.std.specs.declared.cmp.Ordering.{Ordering}
use Rattle.std.specs.declared.cmp.Ordering.TheVariants.{Less, Equal, Greater}
use Rattle.node_heap.specs.Heap.{Heap, links_at}
use Rattle.versions.specs.declared.piece.Piece.{Piece}
use Rattle.versions.specs.declared.piece.Piece.TheVariants.{Key, Value}
use Rattle.versions.specs.Rooted.{value_at}

module _ {K V : Type 0} where
  -- the code of a key, and no code of a value
  abbrev pub piece_code : (K → ℕ) → Piece K V → ℕ
  piece_code code (Key k) = code k
  piece_code code (Value v) = 0

  -- the value, and none of a key
  abbrev pub piece_value : Piece K V → Option V
  piece_value (Key k) = None
  piece_value (Value v) = Some v

  -- a key and a value
  abbrev pub entry_of : Option (Piece K V) → Option (Piece K V) → Option (K × V)
  entry_of None q = None
  entry_of (Some (Value w)) q = None
  entry_of (Some (Key k)) None = None
  entry_of (Some (Key k)) (Some (Key j)) = None
  entry_of (Some (Key k)) (Some (Value v)) = Some (k, v)

  -- the entry whose key and value these cells hold
  abbrev pub entry_in : Heap (Piece K V) → List ℕ → Option (K × V)
  entry_in h [] = None
  entry_in h (k ∷ []) = None
  entry_in h (k ∷ v ∷ _) = entry_of (value_at h k) (value_at h v)

  -- the entry of the pair that a link names
  abbrev pub entry_at : Heap (Piece K V) → ℕ → Option (K × V)
  entry_at h l = entry_in h (links_at h l)

module _ {K V : Type 0} (cmp : K → K → Ordering) (value_cmp : V → V → Ordering) where
  -- all keys come before all values
  abbrev pub piece_order : Piece K V → Piece K V → Ordering
  piece_order (Key a) (Key b) = cmp a b
  piece_order (Key a) (Value w) = Less
  piece_order (Value v) (Key b) = Greater
  piece_order (Value v) (Value w) = value_cmp v w

-- this is the order of the pieces
pub record IsPieceOrder {K V : Type 0} (order : Piece K V → Piece K V → Ordering) (cmp : K → K → Ordering) (value_cmp : V → V → Ordering) : Type 0 where
  pub keys : (a b : K) → order (Key a) (Key b) ≡ cmp a b
  pub before : (a : K) (w : V) → order (Key a) (Value w) ≡ Less
  pub after : (v : V) (b : K) → order (Value v) (Key b) ≡ Greater
  pub values : (v w : V) → order (Value v) (Value w) ≡ value_cmp v w

less-unequal : Less ≢ Equal
less-unequal e = subst (λ r. T (is_eq r)) (sym e) tt

greater-unequal : Greater ≢ Equal
greater-unequal e = subst (λ r. T (is_eq r)) (sym e) tt

-- pieces that are equal have one code
pub piece-codes : {K V : Type 0} (order : Piece K V → Piece K V → Ordering) (cmp : K → K → Ordering) (value_cmp : V → V → Ordering) (code : K → ℕ) → IsPieceOrder order cmp value_cmp → ((a b : K) → cmp a b ≡ Equal → code a ≡ code b) → (x y : Piece K V) → order x y ≡ Equal → piece_code code x ≡ piece_code code y
piece-codes order cmp value_cmp code is codes (Key a) (Key b) same = codes a b (sym (is.keys a b) ∙ same)
piece-codes order cmp value_cmp code is codes (Key a) (Value v) same = absurd (less-unequal (sym (is.before a v) ∙ same))
piece-codes order cmp value_cmp code is codes (Value v) (Key a) same = absurd (greater-unequal (sym (is.after v a) ∙ same))
piece-codes order cmp value_cmp code is codes (Value v) (Value w) same = refl
