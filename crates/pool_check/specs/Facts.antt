-- What is kept of a row for the test of the roots' kinds.
use Rattle.std.specs.Prelude.{◌≡◌, ℕ, ◌<◌, Bool, true, false, ◌&&◌, ◌||◌, List, length, slice_get, Option, Some}
use Rattle.std.specs.List.{list_all}
use Rattle.node_heap.specs.Forms.{Form, Forms, node, leaf, inner, trie, chain}
use Rattle.pool_text.specs.Rows.{Bytes}
use Rattle.pool_text.specs.Rules.{Rules}
use Rattle.pool_text.specs.Pool.{forms_in, row_count}
use Rattle.pool_text.specs.declared.pool.Pool.{Pool}
use Rattle.pool_check.specs.Rows.{rows_in_range_by, links_lead_back}
use Rattle.pool_check.specs.Vectors.{vectors_stand}
use Rattle.pool_check.specs.Tries.{entries_below, tries_stand_by}
use Rattle.pool_check.specs.Kinds.{is_vector_root, is_trie_root, is_pair_of, elements_pass, is_any_cell, is_name_cell, is_lines_vector, is_state}
use Rattle.pool_check.specs.declared.kinds.RowFacts.{RowFacts}
use Rattle.pool_check.specs.declared.root.RootKind.{RootKind}
use Rattle.pool_check.specs.declared.root.RootKind.TheVariants.{Lines, Cells, CellMap, LinesMap, Names, NamedLines, State, Versions, History}

-- whether the row is a vector row, and the test holds of each element below it
abbrev pub are_elements : {K : Type 0} → Forms K → (ℕ → Bool) → ℕ → Option (Form K) → Bool
are_elements F test l (Some (node leaf _)) = elements_pass F test 0 l
are_elements F test l (Some (node (inner height) _)) = elements_pass F test height l
are_elements F test l _ = false

module _ (n : ℕ) (F : Forms Bytes) where
  -- whether the row is a trie row or a chain row, and the test holds of each entry below it
  abbrev pub are_entries : (ℕ → Bool) → ℕ → Option (Form Bytes) → Bool
  are_entries test l (Some (node (trie _ _ _) _)) = list_all (λ e. test e.link) (entries_below n F l)
  are_entries test l (Some (node chain _)) = list_all (λ e. test e.link) (entries_below n F l)
  are_entries test l _ = false

  abbrev pub is_cell_pair : ℕ → Bool
  is_cell_pair l = is_pair_of (is_any_cell n F) (is_any_cell n F) (F l)

  abbrev pub is_lines_pair : ℕ → Bool
  is_lines_pair l = is_pair_of (is_any_cell n F) (is_lines_vector n F) (F l)

  abbrev pub is_named_lines : ℕ → Bool
  is_named_lines l = is_pair_of (is_name_cell n F) (is_lines_vector n F) (F l)

  abbrev pub is_named_state : ℕ → Bool
  is_named_state l = is_pair_of (is_name_cell n F) (is_state n F) (F l)

  -- the facts of the row
  unfoldable pub facts_at : ℕ → RowFacts
  facts_at l = record {
    cell = is_any_cell n F l;
    name = is_name_cell n F l;
    state = is_state n F l;
    named_lines = is_named_lines l;
    named_state = is_named_state l;
    cell_pair = is_cell_pair l;
    lines_pair = is_lines_pair l;
    root = is_vector_root (F l) || is_trie_root (F l);
    over_cells = are_elements F (is_any_cell n F) l (F l);
    over_states = are_elements F (is_state n F) l (F l);
    over_names = are_entries (is_name_cell n F) l (F l);
    over_named_lines = are_entries is_named_lines l (F l);
    over_named_states = are_entries is_named_state l (F l);
    over_keys = are_entries (is_any_cell n F) l (F l);
    over_cell_pairs = are_entries is_cell_pair l (F l);
    over_lines_pairs = are_entries is_lines_pair l (F l);
  }

-- the facts of a pool's row
abbrev pub facts_in : Pool → ℕ → RowFacts
facts_in P = facts_at (row_count P) (forms_in P)

-- no fact at all
abbrev pub no_facts : RowFacts
no_facts = record {
  cell = false;
  name = false;
  state = false;
  named_lines = false;
  named_state = false;
  cell_pair = false;
  lines_pair = false;
  root = false;
  over_cells = false;
  over_states = false;
  over_names = false;
  over_named_lines = false;
  over_named_states = false;
  over_keys = false;
  over_cell_pairs = false;
  over_lines_pairs = false;
}

-- whether a row of these facts is the root of what the kind says
abbrev pub facts_are : RootKind → RowFacts → Bool
facts_are Lines row = row.root && row.over_cells
facts_are Cells row = row.root && row.over_keys
facts_are CellMap row = row.root && row.over_cell_pairs
facts_are LinesMap row = row.root && row.over_lines_pairs
facts_are Names row = row.root && row.over_names
facts_are NamedLines row = row.root && row.over_named_lines
facts_are State row = row.state
facts_are Versions row = row.root && row.over_named_states
facts_are History row = row.root && row.over_states

-- the facts of a trie row or a chain row, by those of all its entries and those of all rows below it
abbrev pub facts_over_entries : Bool → RowFacts → RowFacts → RowFacts
facts_over_entries root entries below = record no_facts {
  root = root;
  over_names = entries.name && below.over_names;
  over_named_lines = entries.named_lines && below.over_named_lines;
  over_named_states = entries.named_state && below.over_named_states;
  over_keys = entries.cell && below.over_keys;
  over_cell_pairs = entries.cell_pair && below.over_cell_pairs;
  over_lines_pairs = entries.lines_pair && below.over_lines_pairs;
}

-- the facts that hold of both rows
abbrev pub of_both : RowFacts → RowFacts → RowFacts
of_both a b = record {
  cell = a.cell && b.cell;
  name = a.name && b.name;
  state = a.state && b.state;
  named_lines = a.named_lines && b.named_lines;
  named_state = a.named_state && b.named_state;
  cell_pair = a.cell_pair && b.cell_pair;
  lines_pair = a.lines_pair && b.lines_pair;
  root = a.root && b.root;
  over_cells = a.over_cells && b.over_cells;
  over_states = a.over_states && b.over_states;
  over_names = a.over_names && b.over_names;
  over_named_lines = a.over_named_lines && b.over_named_lines;
  over_named_states = a.over_named_states && b.over_named_states;
  over_keys = a.over_keys && b.over_keys;
  over_cell_pairs = a.over_cell_pairs && b.over_cell_pairs;
  over_lines_pairs = a.over_lines_pairs && b.over_lines_pairs;
}

module _ (facts : ℕ → RowFacts) where
  -- these are the facts of the first rows
  abbrev pub AreFacts : List RowFacts → Type 0
  AreFacts kept = (k : ℕ) → k < length kept → slice_get kept k ≡ Some (facts k)

  -- the facts that hold of all these rows
  unfoldable pub common_facts : List ℕ → RowFacts
  common_facts links = record {
    cell = list_all (λ k. (facts k).cell) links;
    name = list_all (λ k. (facts k).name) links;
    state = list_all (λ k. (facts k).state) links;
    named_lines = list_all (λ k. (facts k).named_lines) links;
    named_state = list_all (λ k. (facts k).named_state) links;
    cell_pair = list_all (λ k. (facts k).cell_pair) links;
    lines_pair = list_all (λ k. (facts k).lines_pair) links;
    root = list_all (λ k. (facts k).root) links;
    over_cells = list_all (λ k. (facts k).over_cells) links;
    over_states = list_all (λ k. (facts k).over_states) links;
    over_names = list_all (λ k. (facts k).over_names) links;
    over_named_lines = list_all (λ k. (facts k).over_named_lines) links;
    over_named_states = list_all (λ k. (facts k).over_named_states) links;
    over_keys = list_all (λ k. (facts k).over_keys) links;
    over_cell_pairs = list_all (λ k. (facts k).over_cell_pairs) links;
    over_lines_pairs = list_all (λ k. (facts k).over_lines_pairs) links;
  }

-- a pool that passes the tests before that of the roots' kinds, by some rules
pub record HasRowsThatStand (P : Pool) : Type 0 where
  pub rules : Rules
  pub in_range : rows_in_range_by rules P ≡ true
  pub lead_back : links_lead_back P ≡ true
  pub vectors : vectors_stand P ≡ true
  pub tries : tries_stand_by rules P ≡ true
