-- What a pool has more than a chain: a partial document that makes the chain stand for the pool.
use Rattle.std.specs.Prelude.{ℕ, ◌+◌, ◌==◌, not, ◌&&◌, List, [], ◌∷◌, ◌++◌, map, length, fold, slice_index, nat_eq, if◌then◌else◌}
use Rattle.std.specs.List.{list_any}
use Rattle.node_heap.specs.Forms.{Form}
use Rattle.pool_text.specs.Rows.{Bytes}
use Rattle.pool_text.specs.Pool.{row_count, relink}
use Rattle.pool_text.specs.declared.pool.Pool.{Pool}
use Rattle.pool_delta.specs.Forms.{same_form}
use Rattle.pool_delta.specs.Parts.{Part}

-- the chain places of a pool's rows so far, and those of them that the chain hasn't
pub record Placing : Type 0 where
  pub places : List ℕ
  pub own : List (Form Bytes)

abbrev pub no_rows : Placing
no_rows = record { places = []; own = [] }

-- the first place from this one on of a row like this that isn't taken, and the place past the last row where there is none
abbrev pub free_place : List ℕ → Form Bytes → ℕ → List (Form Bytes) → ℕ
free_place taken row place [] = place
free_place taken row place (r ∷ rows) = if same_form row r && not (list_any (nat_eq place) taken) then place else free_place taken row (place + 1) rows

-- the row at the place, which is a chain row's or the first one past the chain's rows
abbrev pub placed_at : List (Form Bytes) → Placing → Form Bytes → ℕ → Placing
placed_at rows g row place =
    if place == length rows then record { places = g.places ++ (length rows + length g.own) ∷ []; own = g.own ++ row ∷ [] } else record g { places = g.places ++ place ∷ [] }

-- the row, its links replaced by places, gets the place of a chain row like it that no earlier row was given, or the next one
abbrev pub placed_row : List (Form Bytes) → Placing → Form Bytes → Placing
placed_row rows g row = placed_at rows g row (free_place g.places row 0 rows)

abbrev pub placed : List (Form Bytes) → Placing → Form Bytes → Placing
placed rows g row = placed_row rows g (relink (slice_index g.places) row)

-- the places of all rows of the pool
unfoldable pub placing : Pool → Pool → Placing
placing C P = fold (placed C.rows) no_rows P.rows

-- what a partial document says of the pool after the chain
unfoldable pub delta : Pool → Pool → Part
delta C P = record {
  after = row_count C;
  bits = P.bits;
  history = P.history;
  roots = map (slice_index (placing C P).places) P.roots;
  rows = (placing C P).own;
}
