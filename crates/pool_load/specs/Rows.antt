-- The rows of a pool that are to be made: what they passed, the lengths of vector rows by place, and the sums of inner rows.
use Rattle.std.specs.Prelude.{◌≡◌, ℕ, suc, ◌+◌, ◌-◌, ◌*◌, ◌^◌, ◌<◌, true, List, [], length, take, slice_get, slice_index, sum_by}
use Rattle.std.specs.List.{list_all}
use Rattle.node_heap.specs.Forms.{Form, cell, node, leaf, inner, trie, chain, pair, state}
use Rattle.pool_text.specs.Rows.{Bytes, is_in_range}
use Rattle.pool_check.specs.Rows.{rows_lead_back, is_line_or_node}
use Rattle.pool_check.specs.Vectors.{has_height, length_at, keeps_fill_rule}

-- rows that passed the tests of ranges, links, texts and vectors
pub record AreSound (rows : List (Form Bytes)) : Type 0 where
  pub in_range : list_all is_in_range rows ≡ true
  pub lead_back : rows_lead_back 0 rows ≡ true
  pub lines : list_all is_line_or_node rows ≡ true
  pub filled : list_all (keeps_fill_rule (slice_get rows)) rows ≡ true

-- each vector row has this length
abbrev pub HaveLengths : List (Form Bytes) → List ℕ → Type 0
HaveLengths rows lengths = (p n : ℕ) → p < length lengths → has_height n (slice_get rows p) ≡ true → slice_index lengths p ≡ length_at (slice_get rows) n p

-- what the rows at these places have together
abbrev pub sum_over : List ℕ → List ℕ → ℕ
sum_over lengths places = sum_by (slice_index lengths) places

-- the length of a row over rows of these lengths
abbrev pub length_over : {K : Type 0} → List ℕ → Form K → ℕ
length_over lengths (node leaf links) = length links
length_over lengths (node (inner _) links) = sum_over lengths links
length_over lengths (node (trie _ _ _) _) = 0
length_over lengths (node chain _) = 0
length_over lengths (node pair _) = 0
length_over lengths (node state _) = 0
length_over lengths (cell _) = 0

-- all of the rows at these places but the last have as many elements as rows of height n can
abbrev pub AreFull : List ℕ → ℕ → List ℕ → Type 0
AreFull lengths n places = sum_over lengths (take (length places - 1) places) ≡ (length places - 1) * 32 ^ suc n

-- the sums that the row over these rows of height n keeps: none where they are full, and else their running sums
pub record AreSumsOver (lengths : List ℕ) (n : ℕ) (places sums : List ℕ) : Type 0 where
  pub none : AreFull lengths n places → sums ≡ []
  pub count : ¬ AreFull lengths n places → length sums ≡ length places
  pub each : ¬ AreFull lengths n places → (i : ℕ) → i < length places → slice_index sums i ≡ sum_over lengths (take (i + 1) places)

-- the same of an inner row, and nothing of another
abbrev pub KeepsSumsOver : {K : Type 0} → List ℕ → Form K → List ℕ → Type 0
KeepsSumsOver lengths (node (inner height) places) sums = AreSumsOver lengths (height - 1) places sums
KeepsSumsOver lengths (node leaf _) sums = Unit {0}
KeepsSumsOver lengths (node (trie _ _ _) _) sums = Unit {0}
KeepsSumsOver lengths (node chain _) sums = Unit {0}
KeepsSumsOver lengths (node pair _) sums = Unit {0}
KeepsSumsOver lengths (node state _) sums = Unit {0}
KeepsSumsOver lengths (cell _) sums = Unit {0}
