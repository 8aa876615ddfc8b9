-- What is kept of a vector row, so that no row is looked at twice.
use Rattle.std.specs.Prelude.{◌≡◌, ℕ, ◌<◌, ◌≤◌, ◌==◌, true, List, take, length, slice_get, Option, Some, None}
use Rattle.std.specs.List.{list_all}
use Rattle.node_heap.specs.Forms.{Form, Forms, node, leaf, inner, links_in}
use Rattle.pool_text.specs.Pool.{forms_in, row_count}
use Rattle.pool_text.specs.declared.pool.Pool.{Pool}
use Rattle.pool_check.specs.Vectors.{is_thick, length_at, keeps_fill_rule}
use Rattle.pool_check.specs.declared.vectors.Shape.{Shape}

module _ {K : Type 0} (F : Forms K) where
  -- the shape of the row of this height
  abbrev pub shape_at : ℕ → ℕ → Shape
  shape_at n l = record { height = n; length = length_at F n l; thick = is_thick F n l; bare = length (links_in F l) == 0 }

  -- the shape of a vector row
  abbrev pub shape_of : ℕ → Option (Form K) → Option Shape
  shape_of l (Some (node leaf _)) = Some (shape_at 0 l)
  shape_of l (Some (node (inner height) _)) = Some (shape_at height l)
  shape_of l _ = None

  -- these are the shapes of the first rows
  abbrev pub AreShapes : List (Option Shape) → Type 0
  AreShapes shapes = (k : ℕ) → k < length shapes → slice_get shapes k ≡ Some (shape_of k (F k))

-- the shapes of the first rows of a pool, all of which keep the fill rule
pub record AreFirstShapes (P : Pool) (shapes : List (Option Shape)) : Type 0 where
  pub few : length shapes ≤ row_count P
  pub are : AreShapes (forms_in P) shapes
  pub stand : list_all (keeps_fill_rule (forms_in P)) (take (length shapes) P.rows) ≡ true
