-- The rows of a mapped pool are in range where the pool's are.
use Rattle.std.proofs.Common.{◌≡◌, ℕ, true, ◌&&◌, List, [], ◌∷◌, map, length, refl, ap, ◌∙◌}
use Rattle.std.specs.Prelude.{slice_get, nat_le}
use Rattle.std.specs.List.{list_all}
use Rattle.std.proofs.lemmas.Bool.{and_from}
use Rattle.std.proofs.lemmas.List.{length-map}
use Rattle.std.proofs.lemmas.List.Folds.{list_all-append}
use Rattle.node_heap.specs.Forms.{Form, cell, node, leaf, inner, trie, chain, pair, state}
use Rattle.node_heap.specs.declared.row.TheConstants.{MOST_HEIGHT}
use Rattle.pool_text.specs.Rows.{Bytes, is_between, is_in_range}
use Rattle.pool_text.specs.Rules.{present_rules}
use Rattle.pool_text.specs.Pool.{settings_by}
use Rattle.pool_text.specs.declared.pool.Pool.{Pool}
use Rattle.pool_check.specs.Rows.{links_lead_back, rows_in_range_by}
use Rattle.pool_check.proofs.TestLemmas.{and-first, and-second, all-at, leads-down, roots-low}
use Rattle.pool_check.proofs.PoolPasses.{passes-as-made}
use Rattle.pool_map.specs.Lines.{line_texts}
use Rattle.pool_map.specs.Mapped.{image_of, with_images, mapped_rows, mapped}
use Rattle.pool_map.proofs.MappedRows.{rows-rooted}

images-range : (image : ℕ → ℕ) (row : Form Bytes) → is_in_range (with_images image row) ≡ is_in_range row
images-range image (cell text) = refl
images-range image (node leaf links) = ap (λ n. nat_le n 32) (length-map links image)
images-range image (node (inner height) links) = ap (λ n. is_between 1 MOST_HEIGHT height && is_between 1 32 n) (length-map links image)
images-range image (node (trie depth entries nodes) links) = refl
images-range image (node chain links) = refl
images-range image (node pair links) = refl
images-range image (node state links) = refl

all-images : (image : ℕ → ℕ) (rows : List (Form Bytes)) → list_all is_in_range rows ≡ true → list_all is_in_range (map (with_images image) rows) ≡ true
all-images image [] passed = refl
all-images image (row ∷ rows) passed =
    and_from (is_in_range (with_images image row)) (list_all is_in_range (map (with_images image) rows)) (images-range image row ∙ and-first (is_in_range row) (list_all is_in_range rows) passed)
    (all-images image rows (and-second (is_in_range row) (list_all is_in_range rows) passed))

all-cells : (change : Bytes → Bytes) (texts : List Bytes) → list_all is_in_range (map (λ text. cell (change text)) texts) ≡ true
all-cells change [] = refl
all-cells change (text ∷ texts) = all-cells change texts

pub mapped-range : (change : Bytes → Bytes) (P : Pool) → links_lead_back P ≡ true → list_all is_in_range P.rows ≡ true → list_all is_in_range (mapped change P).rows ≡ true
unfolding mapped rows_in_range_by
mapped-range change P back passed =
    let rows : List (Form Bytes) = mapped_rows P change in
    let old : List (Form Bytes) = map (with_images (image_of P)) P.rows in
    let new : List (Form Bytes) = map (λ text. cell (change text)) (line_texts P) in
    let all : list_all is_in_range rows ≡ true =
    list_all-append is_in_range old new ∙ and_from (list_all is_in_range old) (list_all is_in_range new) (all-images (image_of P) P.rows passed) (all-cells change (line_texts P)) in
    (passes-as-made (length rows) (slice_get rows) P.roots (rows-rooted change P (leads-down P back) P.roots (roots-low P back)) (settings_by P.bits P.history)).in_range present_rules
    (λ r l row root down at. all-at is_in_range rows all l row at)
