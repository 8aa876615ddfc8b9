-- What the rows of a heap stand for: the words of reading, over the forms and the vectors of that heap.
use Rattle.std.specs.Prelude.{ℕ, List}
use Rattle.std.specs.List.{AllZip}
use Rattle.node_heap.specs.Heap.{Heap, form_at}
use Rattle.rrb_core.specs.Vector.{IsGoodVector}
use Rattle.shell_terms.specs.Edit.{Bytes}
use Rattle.plain_space.specs.Workspace.{Named, Names, State}
use Rattle.state_rows.specs.Reading.{IsText, AreLines, AreNames, IsNamed, IsState, AreVersions, IsHistory}

module _ (h : Heap Bytes) (bits : ℕ) where
  -- the link is a cell of this text, which is a line
  abbrev pub IsTextIn : ℕ → Bytes → Type 0
  IsTextIn = IsText (form_at h) (IsGoodVector h) bits

  -- the links are cells of these texts, one by one
  abbrev pub AreTextsIn : List ℕ → List Bytes → Type 0
  AreTextsIn = AllZip (IsText (form_at h) (IsGoodVector h) bits)

  -- the link is a vector of cells of these texts
  abbrev pub AreLinesIn : ℕ → List Bytes → Type 0
  AreLinesIn = AreLines (form_at h) (IsGoodVector h) bits

  -- the link is a map from names to lines
  abbrev pub AreBuffersIn : ℕ → Named (List Bytes) → Type 0
  AreBuffersIn = IsNamed (form_at h) (IsGoodVector h) bits (AreLines (form_at h) (IsGoodVector h) bits)

  -- the link is a set of names
  abbrev pub AreNamesIn : ℕ → Names → Type 0
  AreNamesIn = AreNames (form_at h) (IsGoodVector h) bits

  -- the link is a state row
  abbrev pub IsStateIn : ℕ → State → Type 0
  IsStateIn = IsState (form_at h) (IsGoodVector h) bits

  -- the link is a map from names to states
  abbrev pub AreVersionsIn : ℕ → Named State → Type 0
  AreVersionsIn = AreVersions (form_at h) (IsGoodVector h) bits

  -- the link is a vector of states
  abbrev pub IsHistoryIn : ℕ → List State → Type 0
  IsHistoryIn = IsHistory (form_at h) (IsGoodVector h) bits
