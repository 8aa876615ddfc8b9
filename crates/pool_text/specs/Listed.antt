-- Inside: rows of a list that are listed in some order.
use Rattle.std.specs.Prelude.{◌≡◌, ◌<◌, ℕ, length, slice_index}
use Rattle.node_heap.specs.Links.{count}
use Rattle.pool_text.specs.Pool.{place_in}
use Rattle.pool_text.specs.declared.from_rows.Listed.{Listed}

-- there is a number for each of so many rows, which is the place of each that is listed
pub record HasPlaces (rows : ℕ) (listed : Listed) : Type 0 where
  pub many : length listed.places.items ≡ rows
  pub at : (k : ℕ) → 0 < count k listed.rows.items → slice_index listed.places.items k ≡ place_in listed.rows.items k
