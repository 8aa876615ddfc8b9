-- Roots of maps from cells to cells: what they reach is known, and they are of their kind.
use Rattle.std.proofs.Common.{◌≡◌, ℕ, ◌+◌, ◌<◌, true, List, [], ◌∷◌, Some, ap, ◌∙◌, arith}
use Rattle.std.specs.List.{All, list_all}
use Rattle.std.specs.Ordering.{nat_cmp}
use Rattle.std.specs.Cmp.Lexicographic.{slice_cmp}
use Rattle.std.proofs.lemmas.Bool.{and_from}
use Rattle.elem_core.specs.Cell.{IsCell}
use Rattle.elem_core.specs.declared.codes.TheConstants.{DEEPEST}
use Rattle.node_heap.specs.Links.{Reaches, LeadsDown}
use Rattle.node_heap.specs.Forms.{Form, Forms, cell, node, pair, links_in}
use Rattle.champ_chain.specs.Entry.{Entry}
use Rattle.champ_trie.specs.Trie.{IsCanonTo}
use Rattle.pool_text.specs.Rows.{Bytes}
use Rattle.pool_check.specs.Tries.{entries_below}
use Rattle.pool_check.specs.Kinds.{is_trie_root, is_cell_of, is_any_cell, is_pair_of, is_cell_map}
use Rattle.state_rows.proofs.CoverRows.{IsKnown, cell-known, pair-known, trie-known}
use Rattle.state_rows.proofs.PassesKinds.{trie-form}
use Rattle.state_rows.proofs.PassesTries.{each-below}
use Rattle.versions_pool.proofs.SetRoots.{whole_code}

module _ (F : Forms Bytes) where
  -- the entry is a pair of a cell of its key and a cell, whose texts are ones
  pub record IsTextPair (e : Entry Bytes) : Type 0 where
    pub key_cell : ℕ
    pub value_cell : ℕ
    pub value : Bytes
    pub row : F e.link ≡ Some (node pair (key_cell ∷ value_cell ∷ []))
    pub key_row : F key_cell ≡ Some (cell e.key)
    pub value_row : F value_cell ≡ Some (cell value)
    pub key_line : IsCell e.key
    pub value_line : IsCell value

  -- the root of a map from cells to cells
  pub record IsMapRoot (l : ℕ) : Type 0 where
    pub entries : List (Entry Bytes)
    pub trie : IsCanonTo (slice_cmp nat_cmp) whole_code DEEPEST F l entries
    pub pairs : All IsTextPair entries

  pub map-known : (l m : ℕ) → IsMapRoot l → Reaches (links_in F) l m → IsKnown F whole_code DEEPEST m
  map-known l m is way =
      trie-known F whole_code DEEPEST (DEEPEST + 1) 0 l 0 is.entries (omega arith) is.trie.trie (λ i d low. omega arith) (λ some. absurd (omega (arith, some)))
      (λ i d low.
      let at = is.pairs i d low in
      (pair-known F whole_code DEEPEST _ at.key_cell at.value_cell at.row (cell-known F whole_code DEEPEST at.key_cell _ at.key_row at.key_line) (cell-known F whole_code DEEPEST at.value_cell at.value at.value_row at.value_line)).1)
      m way

  -- whose links lead down, each row below n
  module _ (falls : LeadsDown (λ l. l) (links_in F)) (n : ℕ) (there : (l : ℕ) (r : Form Bytes) → F l ≡ Some r → l < n) where
    pair-passes : (e : Entry Bytes) → IsTextPair e → is_pair_of (is_any_cell n F) (is_any_cell n F) (F e.link) ≡ true
    pair-passes e at =
        ap (is_pair_of (is_any_cell n F) (is_any_cell n F)) at.row
        ∙ and_from (is_any_cell n F at.key_cell) (is_any_cell n F at.value_cell) (ap (is_cell_of (λ _. true)) at.key_row) (ap (is_cell_of (λ _. true)) at.value_row)

    pub map-is : (l : ℕ) → IsMapRoot l → is_cell_map n F l ≡ true
    map-is l is =
        let row = trie-form F whole_code DEEPEST 0 l is.entries is.trie.trie in
        and_from (is_trie_root (F l)) (list_all (λ e. is_pair_of (is_any_cell n F) (is_any_cell n F) (F e.link)) (entries_below n F l)) (ap is_trie_root row.3)
        (each-below F falls n whole_code DEEPEST (λ e. is_pair_of (is_any_cell n F) (is_any_cell n F) (F e.link)) (DEEPEST + 1) 0 l is.entries (there l _ row.3) is.trie.trie
        (λ i d low. pair-passes _ (is.pairs i d low)))
