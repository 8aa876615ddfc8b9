-- Roots of sets of cells: what they reach is known, and they are of their kind.
use Rattle.std.proofs.Common.{◌≡◌, ℕ, ◌+◌, ◌<◌, true, List, Some, ap, arith}
use Rattle.std.specs.List.{All, list_all}
use Rattle.std.specs.Ordering.{nat_cmp}
use Rattle.std.specs.Cmp.Lexicographic.{slice_cmp}
use Rattle.std.proofs.lemmas.Bool.{and_from}
use Rattle.elem_core.specs.Cell.{IsCell}
use Rattle.elem_core.specs.Codes.{text_code}
use Rattle.elem_core.specs.declared.codes.TheConstants.{CODE_BITS, DEEPEST}
use Rattle.node_heap.specs.Links.{Reaches, LeadsDown}
use Rattle.node_heap.specs.Forms.{Form, Forms, cell, links_in}
use Rattle.champ_chain.specs.Entry.{Entry}
use Rattle.champ_trie.specs.Trie.{IsCanonTo, code_by}
use Rattle.pool_text.specs.Rows.{Bytes}
use Rattle.pool_check.specs.Tries.{entries_below}
use Rattle.pool_check.specs.Kinds.{is_trie_root, is_cell_of, is_any_cell, is_cell_set}
use Rattle.state_rows.proofs.CoverRows.{IsKnown, cell-known, trie-known}
use Rattle.state_rows.proofs.PassesKinds.{trie-form}
use Rattle.state_rows.proofs.PassesTries.{each-below}

-- the codes of texts, by all of their bits
abbrev pub whole_code : Bytes → ℕ
whole_code = code_by text_code CODE_BITS

module _ (F : Forms Bytes) where
  -- the entry is a cell of its key, whose text is one
  pub record IsTextCell (e : Entry Bytes) : Type 0 where
    pub row : F e.link ≡ Some (cell e.key)
    pub line : IsCell e.key

  -- the root of a set of cells
  pub record IsSetRoot (l : ℕ) : Type 0 where
    pub entries : List (Entry Bytes)
    pub trie : IsCanonTo (slice_cmp nat_cmp) whole_code DEEPEST F l entries
    pub cells : All IsTextCell entries

  pub set-known : (l m : ℕ) → IsSetRoot l → Reaches (links_in F) l m → IsKnown F whole_code DEEPEST m
  set-known l m is way =
      trie-known F whole_code DEEPEST (DEEPEST + 1) 0 l 0 is.entries (omega arith) is.trie.trie (λ i d low. omega arith) (λ some. absurd (omega (arith, some)))
      (λ i d low. let at = is.cells i d low in (cell-known F whole_code DEEPEST _ _ at.row at.line).1) m way

  -- whose links lead down, each row below n
  module _ (falls : LeadsDown (λ l. l) (links_in F)) (n : ℕ) (there : (l : ℕ) (r : Form Bytes) → F l ≡ Some r → l < n) where
    pub set-is : (l : ℕ) → IsSetRoot l → is_cell_set n F l ≡ true
    set-is l is =
        let row = trie-form F whole_code DEEPEST 0 l is.entries is.trie.trie in
        and_from (is_trie_root (F l)) (list_all (λ e. is_any_cell n F e.link) (entries_below n F l)) (ap is_trie_root row.3)
        (each-below F falls n whole_code DEEPEST (λ e. is_any_cell n F e.link) (DEEPEST + 1) 0 l is.entries (there l _ row.3) is.trie.trie
        (λ i d low. ap (is_cell_of (λ _. true)) (is.cells i d low).row))
