-- The rows of a document: as values, without floats, and no deeper than a document may be.
use Rattle.std.proofs.Common.{◌≡◌, ℕ, ◌≤◌, false, ◌||◌, List, [], ◌∷◌, map, refl, ap, ◌∙◌, arith}
use Rattle.node_heap.specs.Forms.{Form, cell, node, leaf, inner, trie, chain, pair, state}
use Rattle.serde_json.specs.View.{items_of}
use Rattle.serde_json.specs.Data.{depth, items_depth}
use Rattle.serde_json.specs.Read.{max_depth}
use Rattle.serde_json.specs.Written.{has_float, items_have_float}
use Rattle.pool_text.specs.Rows.{Bytes, row_form}
use Rattle.pool_text.specs.Document.{natural, row_value, document}
use Rattle.pool_text.specs.declared.pool.Pool.{Pool}
use Rattle.pool_text.specs.declared.row.Row.{Row}

-- rows are written by their forms
pub map-forms : (rs : List Row) → map (λ row. row_value (row_form row)) rs ≡ map row_value (map row_form rs)
map-forms [] = refl
map-forms (r ∷ rs) = ap (λ ys. row_value (row_form r) ∷ ys) (map-forms rs)

pub naturals-no-float : (ns : List ℕ) → items_have_float (items_of (map natural ns)) ≡ false
naturals-no-float [] = refl
naturals-no-float (n ∷ ns) = naturals-no-float ns

row-no-float : (r : Form Bytes) → has_float (row_value r) ≡ false
row-no-float (cell text) = refl
row-no-float (node leaf links) = ap (λ b. b || false) (naturals-no-float links)
row-no-float (node (inner height) links) = ap (λ b. b || false) (naturals-no-float links)
row-no-float (node (trie depth entries nodes) links) = ap (λ b. b || false) (naturals-no-float links)
row-no-float (node chain links) = ap (λ b. b || false) (naturals-no-float links)
row-no-float (node pair links) = ap (λ b. b || false) (naturals-no-float links)
row-no-float (node state links) = ap (λ b. b || false) (naturals-no-float links)

pub rows-no-float : (rs : List (Form Bytes)) → items_have_float (items_of (map row_value rs)) ≡ false
rows-no-float [] = refl
rows-no-float (r ∷ rs) = ap (λ b. b || items_have_float (items_of (map row_value rs))) (row-no-float r) ∙ rows-no-float rs

pub document-no-float : (P : Pool) → has_float (document P) ≡ false
unfolding document
document-no-float P =
    ap (λ b. b || (items_have_float (items_of (map row_value P.rows)) || false)) (naturals-no-float P.roots)
    ∙ ap (λ b. b || false) (rows-no-float P.rows)

pub naturals-depth : (ns : List ℕ) → items_depth (items_of (map natural ns)) ≤ 0
naturals-depth [] = omega arith
naturals-depth (n ∷ ns) = omega (arith, naturals-depth ns)

row-depth : (r : Form Bytes) → depth (row_value r) ≤ 2
row-depth (cell text) = omega arith
row-depth (node leaf links) = omega (arith, naturals-depth links)
row-depth (node (inner height) links) = omega (arith, naturals-depth links)
row-depth (node (trie depth entries nodes) links) = omega (arith, naturals-depth links)
row-depth (node chain links) = omega (arith, naturals-depth links)
row-depth (node pair links) = omega (arith, naturals-depth links)
row-depth (node state links) = omega (arith, naturals-depth links)

pub rows-depth : (rs : List (Form Bytes)) → items_depth (items_of (map row_value rs)) ≤ 2
rows-depth [] = omega arith
rows-depth (r ∷ rs) = omega (arith, row-depth r, rows-depth rs)

pub document-shallow : (P : Pool) → depth (document P) ≤ max_depth
unfolding document
document-shallow P = omega (arith, naturals-depth P.roots, rows-depth P.rows)
