-- What listings show, and of which rows.
use Rattle.std.specs.Prelude.{◌≡◌, ℕ, [], ◌∷◌, Some, length}
use Rattle.std.specs.Borrow.{Bor}
use Rattle.node_heap.specs.Forms.{cell, node, pair}
use Rattle.node_heap.specs.Heap.{Heap, form_at}
use Rattle.rrb_core.specs.Vector.{elements, IsGoodVector}
use Rattle.shell_terms.specs.Edit.{Bytes}

-- the text that is lent
abbrev pub shown_text : Bor Bytes → Bytes
shown_text name = name.now

-- the name that is lent, and the number of its lines
abbrev pub shown_size : Bor Bytes × ℕ → Bytes × ℕ
shown_size size = (size.0.now, size.1)

module _ (h : Heap Bytes) (l : ℕ) where
  -- the link is a cell of this text
  abbrev pub IsTextAt : Bytes → Type 0
  IsTextAt text = form_at h l ≡ Some (cell text)

  -- the link is a pair of a cell of this name and some value
  pub record IsEntryAt (name : Bytes) : Type 0 where
    pub key_cell : ℕ
    pub value : ℕ
    pub row : form_at h l ≡ Some (node pair (key_cell ∷ value ∷ []))
    pub key : form_at h key_cell ≡ Some (cell name)

  -- the link is a pair of a cell of this name and a vector of so many elements
  pub record IsSizeAt (size : Bytes × ℕ) : Type 0 where
    pub entry : IsEntryAt size.0
    pub vector : IsGoodVector h entry.value
    pub many : length (elements h entry.value) ≡ size.1
