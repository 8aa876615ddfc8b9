-- The test of vector rows.
use Rattle.std.specs.Prelude.{ℕ, zero, suc, ◌-◌, ◌^◌, Bool, true, false, ◌&&◌, ◌==◌, nat_lt, nat_le, List, take, length, sum_by, Option, Some}
use Rattle.std.specs.List.{list_all}
use Rattle.node_heap.specs.Forms.{Form, Forms, node, leaf, inner, links_in}
use Rattle.pool_text.specs.Pool.{forms_in}
use Rattle.pool_text.specs.declared.pool.Pool.{Pool}

module _ {K : Type 0} where
  -- whether the row is a leaf, whose height is 0, or an inner row of this height
  abbrev pub has_height : ℕ → Option (Form K) → Bool
  has_height n (Some (node leaf _)) = n == 0
  has_height n (Some (node (inner height) _)) = n == height
  has_height n _ = false

  module _ (F : Forms K) where
    -- whether the row of this height has at least 16 links, and so have all rows below it
    unfoldable pub is_thick : ℕ → ℕ → Bool
    is_thick zero l = nat_le 16 (length (links_in F l))
    is_thick (suc n) l = nat_le 16 (length (links_in F l)) && list_all (is_thick n) (links_in F l)

    -- the length of a row of this height: a leaf's number of links, or the sum of its children's lengths
    unfoldable pub length_at : ℕ → ℕ → ℕ
    length_at zero l = length (links_in F l)
    length_at (suc n) l = sum_by (length_at n) (links_in F l)

    -- whether the links lead to vector rows of this height, all but the last thick and none without links, whose lengths add up
    -- to less than 2^32
    unfoldable pub are_children : ℕ → List ℕ → Bool
    are_children n links =
        list_all (λ k. has_height n (F k)) links && list_all (is_thick n) (take (length links - 1) links)
        && list_all (λ k. nat_le 1 (length (links_in F k))) links && nat_lt (sum_by (length_at n) links) (2 ^ 32)

    -- whether the row, where it is an inner row, has the children of one
    abbrev pub keeps_fill_rule : Form K → Bool
    keeps_fill_rule (node (inner height) links) = are_children (height - 1) links
    keeps_fill_rule _ = true

-- every inner row keeps the fill rule
unfoldable pub vectors_stand : Pool → Bool
vectors_stand P = list_all (keeps_fill_rule (forms_in P)) P.rows
