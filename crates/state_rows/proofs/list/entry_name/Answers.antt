use Rattle.std.proofs.Common.{◌≡◌, ℕ, List, [], ◌∷◌, get_or, ap, sym, subst, ◌∙◌, length, arith}
use Rattle.std.specs.Prelude.{◌<◌}
use Rattle.node_heap.specs.Forms.{pair}
use Rattle.node_heap.specs.Heap.{row_at}
use Rattle.rrb_core.proofs.Stays.{form-live}
use Rattle.state_rows.specs.Listing.{IsTextAt}
use Rattle.state_rows.proofs.Listed.{node-links}
use Rattle.state_rows.proofs.list.entry_name.Goals as goal

pub links-requires : goal.links-requires
links-requires c = form-live (row_at c.args.heap.now c.args.entry) _ c.requires.1.row

pub bounds-links-0 : goal.bounds-links-0
bounds-links-0 c =
    let is = c.requires.1 in
    subst (λ (xs : List ℕ). 0 < length xs) (sym (c.links.ensures.links ∙ node-links c.args.heap.now c.args.entry pair (is.key_cell ∷ is.value ∷ []) is.row)) (omega arith)

pub cell_text-requires : goal.cell_text-requires
cell_text-requires c =
    let is = c.requires.1 in
    let first : c.index-links-0.result ≡ is.key_cell =
    c.index-links-0.is ∙ ap (λ (xs : List ℕ). get_or xs 0 c.index-links-0.result) (c.links.ensures.links ∙ node-links c.args.heap.now c.args.entry pair (is.key_cell ∷ is.value ∷ []) is.row) in
    (c.requires.0, subst (λ (l : ℕ). IsTextAt c.args.heap.now l c.requires.0) (sym first) is.key)

pub returns : goal.returns
returns c = λ name is.
    let first : c.index-links-0.result ≡ is.key_cell =
    c.index-links-0.is ∙ ap (λ (xs : List ℕ). get_or xs 0 c.index-links-0.result) (c.links.ensures.links ∙ node-links c.args.heap.now c.args.entry pair (is.key_cell ∷ is.value ∷ []) is.row) in
    c.cell_text.ensures name (subst (λ (l : ℕ). IsTextAt c.args.heap.now l name) (sym first) is.key)
