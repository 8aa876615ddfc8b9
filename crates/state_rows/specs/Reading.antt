-- What rows stand for: lines, states, versions and histories, over forms, so that it is said of a heap and of a pool at once.
use Rattle.std.specs.Prelude.{◌≡◌, ℕ, List, [], ◌∷◌, Option, Some, None, is_some}
use Rattle.std.specs.List.{All, AllZip}
use Rattle.std.specs.Ordering.{nat_cmp}
use Rattle.std.specs.Cmp.Lexicographic.{slice_cmp}
use Rattle.std.specs.FinMap as map
use Rattle.elem_core.specs.Cell.{IsCell}
use Rattle.elem_core.specs.Naming.{IsName}
use Rattle.node_heap.specs.Forms.{Forms, cell, node, state}
use Rattle.rrb_core.specs.Seq.{seq}
use Rattle.champ_chain.specs.Entry.{Entry, link_with}
use Rattle.champ_trie.specs.Trie.{IsCanonTo, code_by}
use Rattle.champ_kinds.specs.Binding.{Binding, value_with}
use Rattle.champ_kinds.specs.Kinds.{IsKeyCell, IsPair}
use Rattle.pool_text.specs.Rules.{Rules, present_rules}
use Rattle.shell_terms.specs.Edit.{Bytes}
use Rattle.plain_space.specs.Workspace.{Named, Names, State}

-- both are there and the link stands for the value, or neither is
abbrev pub StandsIfThere : {X : Type 0} → (ℕ → X → Type 0) → Option ℕ → Option X → Type 0
StandsIfThere IsValue None None = Unit {0}
StandsIfThere IsValue (Some l) (Some x) = IsValue l x
StandsIfThere IsValue None (Some _) = ⊥
StandsIfThere IsValue (Some _) None = ⊥

-- over the forms of a heap or of a pool, in which the roots of vectors are so, by so many bits of the codes
module _ (F : Forms Bytes) (IsVector : ℕ → Type 0) (bits : ℕ) where
  -- the link is a vector whose elements stand for these values, one by one
  pub record IsVectorOver {X : Type 0} (IsValue : ℕ → X → Type 0) (l : ℕ) (xs : List X) : Type 0 where
    pub vector : IsVector l
    pub values : AllZip IsValue (seq F l) xs

  -- the link is a cell of this text, which is a line
  pub record IsText (l : ℕ) (text : Bytes) : Type 0 where
    pub row : F l ≡ Some (cell text)
    pub line : IsCell text

  -- the link is a vector of cells of these texts
  abbrev pub AreLines : ℕ → List Bytes → Type 0
  AreLines = IsVectorOver IsText

-- the same where tries are, which go by the codes and the deepest depth of these rules
module _ (rules : Rules) (F : Forms Bytes) (IsVector : ℕ → Type 0) (bits : ℕ) where
  -- the link is the root of the trie of these entries, whose keys are names
  pub record IsTrieOfNamesBy (l : ℕ) (entries : List (Entry Bytes)) : Type 0 where
    pub trie : IsCanonTo (slice_cmp nat_cmp) (code_by rules.code_of bits) rules.deepest F l entries
    pub names : All (λ e. IsName e.key) entries

  -- the link is a map from names to values: at each name stands what the finite map has there
  pub record IsNamedBy {X : Type 0} (IsValue : ℕ → X → Type 0) (l : ℕ) (m : Named X) : Type 0 where
    pub entries : List (Entry Bytes)
    pub bindings : List (Binding Bytes)
    pub trie : IsTrieOfNamesBy l entries
    pub pairs : AllZip (IsPair F) entries bindings
    pub reads : (name : Bytes) → StandsIfThere IsValue (value_with (slice_cmp nat_cmp) name bindings) (map.get m name)

  -- the link is a set of names
  pub record AreNamesBy (l : ℕ) (names : Names) : Type 0 where
    pub entries : List (Entry Bytes)
    pub trie : IsTrieOfNamesBy l entries
    pub cells : All (IsKeyCell F) entries
    pub reads : (name : Bytes) → is_some (link_with (slice_cmp nat_cmp) name entries) ≡ map.contains_key names name

  -- the link is a state row: a map of buffers, by their names, and a set of names that are starred
  pub record IsStateBy (l : ℕ) (now : State) : Type 0 where
    pub buffers : ℕ
    pub stars : ℕ
    pub row : F l ≡ Some (node state (buffers ∷ stars ∷ []))
    pub buffers_are : IsNamedBy (AreLines F IsVector bits) buffers now.buffers
    pub stars_are : AreNamesBy stars now.stars

  -- the link is a map from names to states
  abbrev pub AreVersionsBy : ℕ → Named State → Type 0
  AreVersionsBy = IsNamedBy IsStateBy

  -- the link is a vector of states
  abbrev pub IsHistoryBy : ℕ → List State → Type 0
  IsHistoryBy = IsVectorOver F IsVector bits IsStateBy

-- the same by the rules by which pools are made
module _ (F : Forms Bytes) (IsVector : ℕ → Type 0) (bits : ℕ) where
  abbrev pub IsTrieOfNames : ℕ → List (Entry Bytes) → Type 0
  IsTrieOfNames = IsTrieOfNamesBy present_rules F IsVector bits

  abbrev pub IsNamed : {X : Type 0} → (ℕ → X → Type 0) → ℕ → Named X → Type 0
  IsNamed IsValue = IsNamedBy present_rules F IsVector bits IsValue

  abbrev pub AreNames : ℕ → Names → Type 0
  AreNames = AreNamesBy present_rules F IsVector bits

  abbrev pub IsState : ℕ → State → Type 0
  IsState = IsStateBy present_rules F IsVector bits

  abbrev pub AreVersions : ℕ → Named State → Type 0
  AreVersions = AreVersionsBy present_rules F IsVector bits

  abbrev pub IsHistory : ℕ → List State → Type 0
  IsHistory = IsHistoryBy present_rules F IsVector bits
