use Rattle.std.proofs.Common.{◌<◌, ℕ, List, [], ◌∷◌, length, Option, Some, refl, ap, sym, subst, ◌∙◌, arith}
use Rattle.elem_core.specs.Codes.{masked_code}
use Rattle.node_heap.specs.Forms.{Form, node, trie, chain, pair}
use Rattle.champ_trie.specs.Trie.{code_by}
use Rattle.pool_text.specs.Rows.{Bytes, row_form}
use Rattle.pool_text.specs.Rules.{rules_named}
use Rattle.pool_text.specs.declared.row.Row.{Row}
use Rattle.pool_check.specs.Keeping.{forms_at, canonical_kept, AreKept}
use Rattle.pool_check.specs.declared.trie_row.KeptRow.TheVariants.{Entry as At}
use Rattle.pool_check.proofs.ChainRowLemmas.{canonical-is}
use Rattle.pool_check.proofs.RowsKept.{form-at, links-low, first-low, trie-range, other-kept}
use Rattle.pool_check.proofs.tries.kept_row.Goals as goal

-- the form of a row
abbrev form_of_row : Row → Option (Form Bytes)
form_of_row row = Some (row_form row)

pub kept_pair-requires-clause-below : goal.kept_pair-requires-clause-below
kept_pair-requires-clause-below c =
    let rows = c.args.rows.now in
    let l = length c.args.kept.now in
    let is = form-at rows l c.index-rows-kept.result c.requires.place c.index-rows-kept.is ∙ ap form_of_row c.in-Pair.is in
    first-low l c.in-Pair.key (c.in-Pair.field-1 ∷ []) (links-low (forms_at rows) c.requires.kept.falls l pair (c.in-Pair.key ∷ c.in-Pair.field-1 ∷ []) is)

pub kept_pair-requires-clause-rows : goal.kept_pair-requires-clause-rows
kept_pair-requires-clause-rows c =
    let rows = c.args.rows.now in
    let l = length c.args.kept.now in
    let is = form-at rows l c.index-rows-kept.result c.requires.place c.index-rows-kept.is ∙ ap form_of_row c.in-Pair.is in
    let below : c.in-Pair.key < l = first-low l c.in-Pair.key (c.in-Pair.field-1 ∷ []) (links-low (forms_at rows) c.requires.kept.falls l pair (c.in-Pair.key ∷ c.in-Pair.field-1 ∷ []) is) in
    omega (arith, below, c.requires.place)

pub trie_row-requires-clause-depth : goal.trie_row-requires-clause-depth
trie_row-requires-clause-depth c =
    let rows = c.args.rows.now in
    let l = length c.args.kept.now in
    let is = form-at rows l c.index-rows-kept.result c.requires.place c.index-rows-kept.is ∙ ap form_of_row c.in-Trie.is in
    let low = (trie-range (rules_named c.args.rules).deepest rows l c.in-Trie.depth c.in-Trie.entries c.in-Trie.nodes c.in-Trie.links c.requires.rows is).0 in
    omega (arith, low, c.deepest.ensures.value, c.deepest.ensures.low)

pub trie_row-requires-clause-few : goal.trie_row-requires-clause-few
trie_row-requires-clause-few c =
    let rows = c.args.rows.now in
    let l = length c.args.kept.now in
    let is = form-at rows l c.index-rows-kept.result c.requires.place c.index-rows-kept.is ∙ ap form_of_row c.in-Trie.is in
    let few = (trie-range (rules_named c.args.rules).deepest rows l c.in-Trie.depth c.in-Trie.entries c.in-Trie.nodes c.in-Trie.links c.requires.rows is).1 in
    omega (arith, few, ap length c.as_slice.ensures)

pub trie_row-requires-clause-below : goal.trie_row-requires-clause-below
trie_row-requires-clause-below c =
    let rows = c.args.rows.now in
    let l = length c.args.kept.now in
    let is = form-at rows l c.index-rows-kept.result c.requires.place c.index-rows-kept.is ∙ ap form_of_row c.in-Trie.is in
    links-low (forms_at rows) c.requires.kept.falls l (trie c.in-Trie.depth c.in-Trie.entries c.in-Trie.nodes) c.as_slice.result.now
    (is ∙ ap (λ (ks : List ℕ). Some (node (trie c.in-Trie.depth c.in-Trie.entries c.in-Trie.nodes) ks)) (sym c.as_slice.ensures))

pub chain_row-requires-clause-below : goal.chain_row-requires-clause-below
chain_row-requires-clause-below c =
    let rows = c.args.rows.now in
    let l = length c.args.kept.now in
    let is = form-at rows l c.index-rows-kept.result c.requires.place c.index-rows-kept.is ∙ ap form_of_row c.in-Chain.is in
    links-low (forms_at rows) c.requires.kept.falls l chain c.as_slice-in-Chain.result.now (is ∙ ap (λ (ks : List ℕ). Some (node chain ks)) (sym c.as_slice-in-Chain.ensures))

pub returns-in-Cell : goal.returns-in-Cell
returns-in-Cell c =
    let rows = c.args.rows.now in
    let l = length c.args.kept.now in
    let is = form-at rows l c.index-rows-kept.result c.requires.place c.index-rows-kept.is ∙ ap form_of_row c.in-Cell.is in
    ap (λ b. Some (At l b)) (c.masked.ensures.kept ∙ ap (λ b. masked_code b c.args.bits) (c.code.ensures ∙ ap (rules_named c.args.rules).code_of c.as_str.ensures))
    ∙ canonical-is (length rows) (forms_at rows) (code_by (rules_named c.args.rules).code_of c.args.bits) (rules_named c.args.rules).deepest l _ is refl

pub returns-in-Pair : goal.returns-in-Pair
returns-in-Pair c =
    let rows = c.args.rows.now in
    let l = length c.args.kept.now in
    let is = form-at rows l c.index-rows-kept.result c.requires.place c.index-rows-kept.is ∙ ap form_of_row c.in-Pair.is in
    ap Some (c.kept_pair.ensures (length rows) (code_by (rules_named c.args.rules).code_of c.args.bits) (rules_named c.args.rules).deepest c.requires.kept) ∙ canonical-is (length rows) (forms_at rows) (code_by (rules_named c.args.rules).code_of c.args.bits) (rules_named c.args.rules).deepest l _ is refl

pub returns-in-Trie : goal.returns-in-Trie
returns-in-Trie c =
    let rows = c.args.rows.now in
    let l = length c.args.kept.now in
    let is = form-at rows l c.index-rows-kept.result c.requires.place c.index-rows-kept.is ∙ ap form_of_row c.in-Trie.is in
    let code = code_by (rules_named c.args.rules).code_of c.args.bits in
    c.trie_row.ensures (length rows) (forms_at rows) code l (subst (λ deepest. AreKept (length rows) (forms_at rows) code deepest c.args.kept.now) (sym c.deepest.ensures.value) c.requires.kept) c.requires.place
    (is ∙ ap (λ (ks : List ℕ). Some (node (trie c.in-Trie.depth c.in-Trie.entries c.in-Trie.nodes) ks)) (sym c.as_slice.ensures))
    ∙ ap (λ deepest. canonical_kept (length rows) (forms_at rows) code deepest l) c.deepest.ensures.value

pub returns-in-Chain : goal.returns-in-Chain
returns-in-Chain c =
    let rows = c.args.rows.now in
    let l = length c.args.kept.now in
    let is = form-at rows l c.index-rows-kept.result c.requires.place c.index-rows-kept.is ∙ ap form_of_row c.in-Chain.is in
    c.chain_row.ensures (length rows) (code_by (rules_named c.args.rules).code_of c.args.bits) (rules_named c.args.rules).deepest l c.requires.kept c.requires.place (is ∙ ap (λ (ks : List ℕ). Some (node chain ks)) (sym c.as_slice-in-Chain.ensures))

pub returns-in-Leaf : goal.returns-in-Leaf
returns-in-Leaf c = other-kept c.args.rows.now (code_by (rules_named c.args.rules).code_of c.args.bits) (rules_named c.args.rules).deepest (length c.args.kept.now) c.index-rows-kept.result c.requires.place c.index-rows-kept.is c.in-Leaf.is

pub returns-in-Leaf-2 : goal.returns-in-Leaf-2
returns-in-Leaf-2 c = other-kept c.args.rows.now (code_by (rules_named c.args.rules).code_of c.args.bits) (rules_named c.args.rules).deepest (length c.args.kept.now) c.index-rows-kept.result c.requires.place c.index-rows-kept.is c.in-Leaf.is

pub returns-in-Leaf-3 : goal.returns-in-Leaf-3
returns-in-Leaf-3 c = other-kept c.args.rows.now (code_by (rules_named c.args.rules).code_of c.args.bits) (rules_named c.args.rules).deepest (length c.args.kept.now) c.index-rows-kept.result c.requires.place c.index-rows-kept.is c.in-Leaf.is
