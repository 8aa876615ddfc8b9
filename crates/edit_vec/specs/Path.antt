-- The path of an edit, the rows that it must be able to write, from the root down, over forms.
use Rattle.std.specs.Prelude.{ℕ, zero, suc, ◌-◌, Bool, ◌&&◌, nat_lt, nat_le, ◌==◌, List, [], ◌∷◌, length, if◌then◌else◌}
use Rattle.node_heap.specs.Forms.{Forms, links_in}
use Rattle.rrb_core.specs.Seq.{height_in, seq_at, seq}
use Rattle.rrb_core.specs.Push.{last_in}

-- the list up to its last member that passes, and nothing where none does
abbrev pub keep_or_stop : ℕ → Bool → List ℕ → List ℕ
keep_or_stop x fits [] = if fits then x ∷ [] else []
keep_or_stop x fits (y ∷ ys) = x ∷ y ∷ ys

abbrev pub up_to_last : (ℕ → Bool) → List ℕ → List ℕ
up_to_last fits [] = []
up_to_last fits (x ∷ xs) = keep_or_stop x (fits x) (up_to_last fits xs)

module _ {K : Type 0} where
  -- of these rows of height n the one over the element at the index, and the element's index in it
  unfoldable pub row_over : Forms K → ℕ → List ℕ → ℕ → ℕ × ℕ
  row_over F n [] index = (0, index)
  row_over F n (k ∷ ks) index = if nat_lt index (length (seq_at F n k)) then (k, index) else row_over F n ks (index - length (seq_at F n k))

  -- the rows over the element at the index, from a row of height n down to the leaf
  unfoldable pub rows_over : Forms K → ℕ → ℕ → ℕ → List ℕ
  rows_over F zero l index = l ∷ []
  rows_over F (suc n) l index = l ∷ rows_over F n (row_over F n (links_in F l) index).0 (row_over F n (links_in F l) index).1

  -- the row of height n, its last child, that one's last child, and so on down to a leaf
  unfoldable pub spine_at : Forms K → ℕ → ℕ → List ℕ
  spine_at F zero l = l ∷ []
  spine_at F (suc n) l = l ∷ spine_at F n (last_in F l)

  -- the right spine of the vector with this root
  abbrev pub right_spine : Forms K → ℕ → List ℕ
  right_spine F root = spine_at F (height_in F root) root

  -- the path of a set: from the root to the leaf over the element
  abbrev pub set_path : Forms K → ℕ → ℕ → List ℕ
  set_path F root index = rows_over F (height_in F root) root index

  -- that of a push: from the root to the lowest row of the right spine that has room for a link
  abbrev pub push_path : Forms K → ℕ → List ℕ
  push_path F root = up_to_last (λ k. nat_lt (length (links_in F k)) 32) (right_spine F root)

  -- the rows of the right spine from the root to the lowest with two links or more
  abbrev pub pop_spine : Forms K → ℕ → List ℕ
  pop_spine F root = up_to_last (λ k. nat_le 2 (length (links_in F k))) (right_spine F root)

  -- the root is an inner row over two children, of which the last goes with its one element
  abbrev pub root_goes : Forms K → ℕ → Bool
  root_goes F root = nat_le 1 (height_in F root) && (length (links_in F root) == 2) && (length (pop_spine F root) == 1)

  -- that of a pop: this part of the right spine, but the leaf of a vector of one element, and nothing where the root goes
  abbrev pub pop_path : Forms K → ℕ → List ℕ
  pop_path F root = if length (seq F root) == 1 then root ∷ [] else if root_goes F root then [] else pop_spine F root
