use Rattle.std.proofs.Common.{◌≡◌, ℕ, List, [], ◌∷◌, get_or, ap, sym, subst, ◌∙◌, length, arith}
use Rattle.std.specs.Prelude.{◌<◌}
use Rattle.node_heap.specs.Forms.{pair}
use Rattle.node_heap.specs.Heap.{row_at}
use Rattle.rrb_core.specs.Vector.{elements, IsGoodVector}
use Rattle.rrb_core.proofs.Stays.{form-live}
use Rattle.state_rows.proofs.Listed.{node-links}
use Rattle.state_rows.proofs.list.entry_size.Goals as goal

pub links-requires : goal.links-requires
links-requires c = form-live (row_at c.args.heap.now c.args.entry) _ c.requires.1.entry.row

pub bounds-links-1 : goal.bounds-links-1
bounds-links-1 c =
    let is = c.requires.1.entry in
    subst (λ (xs : List ℕ). 1 < length xs) (sym (c.links.ensures.links ∙ node-links c.args.heap.now c.args.entry pair (is.key_cell ∷ is.value ∷ []) is.row)) (omega arith)

pub len-lines-requires : goal.len-lines-requires
len-lines-requires c =
    let is = c.requires.1.entry in
    let second : c.index-links-1.result ≡ is.value =
    c.index-links-1.is ∙ ap (λ (xs : List ℕ). get_or xs 1 c.index-links-1.result) (c.links.ensures.links ∙ node-links c.args.heap.now c.args.entry pair (is.key_cell ∷ is.value ∷ []) is.row) in
    subst (λ (l : ℕ). IsGoodVector c.args.heap.now l) (sym (c.at.ensures ∙ second)) c.requires.1.vector

pub entry_name-requires : goal.entry_name-requires
entry_name-requires c = (c.requires.0.0, c.requires.1.entry)

pub returns : goal.returns
returns c = λ size is.
    let entry = is.entry in
    let second : c.index-links-1.result ≡ entry.value =
    c.index-links-1.is ∙ ap (λ (xs : List ℕ). get_or xs 1 c.index-links-1.result) (c.links.ensures.links ∙ node-links c.args.heap.now c.args.entry pair (entry.key_cell ∷ entry.value ∷ []) entry.row) in
    let name : c.entry_name.result.now ≡ size.0 = c.entry_name.ensures size.0 entry in
    let many : c.len-lines.result ≡ size.1 = c.len-lines.ensures.value ∙ ap (λ (l : ℕ). length (elements c.args.heap.now l)) (c.at.ensures ∙ second) ∙ is.many in
    λ i. (name i, many i)
