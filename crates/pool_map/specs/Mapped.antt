-- A pool with its lines changed: each line cell has one image, and what is a key or a star stays.
use Rattle.std.specs.Prelude.{ℕ, ◌+◌, nat_eq, List, ◌++◌, map, length, Option, Some, None, slice_get, position}
use Rattle.node_heap.specs.Forms.{Form, cell, node, leaf, inner}
use Rattle.pool_text.specs.Rows.{Bytes}
use Rattle.pool_text.specs.Pool.{row_count, settings_by, pool}
use Rattle.pool_text.specs.declared.pool.Pool.{Pool}
use Rattle.pool_map.specs.Lines.{line_cells, line_texts}

-- the name that comes after so many, where there is an index, and else the name itself
abbrev pub later : ℕ → ℕ → Option ℕ → ℕ
later n l None = l
later n l (Some i) = n + i

-- the name of an element's image: those of the line cells come after so many places, and every other row keeps its place
abbrev pub image_among : ℕ → List ℕ → ℕ → ℕ
image_among n lines l = later n l (position (nat_eq l) lines)

-- a row of a vector has the images of its links
abbrev pub with_images : (ℕ → ℕ) → Form Bytes → Form Bytes
with_images image (node leaf links) = node leaf (map image links)
with_images image (node (inner height) links) = node (inner height) (map image links)
with_images image row = row

module _ (P : Pool) where
  abbrev pub image_of : ℕ → ℕ
  image_of = image_among (row_count P) (line_cells P)

  -- the rows by their names: the pool's own, and then the changed lines
  abbrev pub mapped_rows : (Bytes → Bytes) → List (Form Bytes)
  mapped_rows change = map (with_images image_of) P.rows ++ map (λ text. cell (change text)) (line_texts P)

  abbrev pub pool_of : List (Form Bytes) → Pool
  pool_of rows = pool (length rows) (slice_get rows) P.roots (settings_by P.bits P.history)

-- the mapped pool: that of these rows from the same roots, with the same bits and history
unfoldable pub mapped : (Bytes → Bytes) → Pool → Pool
mapped change P = pool_of P (mapped_rows P change)
