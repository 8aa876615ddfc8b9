use Rattle.std.proofs.Common.{slice_get, ap, sym, ◌∙◌, arith, inl, inr}
use Rattle.std.proofs.lemmas.Bool.{cases_eq}
use Rattle.elem_core.specs.Cell.{IsCell}
use Rattle.node_heap.specs.Heap.{row_at}
use Rattle.pool_text.proofs.Placed.{item_in, get-some, get-none}
use Rattle.versions_pool.proofs.SaysLemmas.{index-of, some-same}
use Rattle.versions_pool.proofs.saving.texts_are_cells.Goals as goal

pub text_is_cell-requires : goal.text_is_cell-requires
text_is_cell-requires g c =
    let at = get-some c.args.listed.now c.loop-place.place c.in-Some.link (sym c.in-Some.is ∙ c.at.ensures) in
    c.requires c.in-Some.link (item_in c.args.listed.now c.loop-place.place c.in-Some.link at.0 (sym at.1))

pub unreachable-requires : goal.unreachable-requires
unreachable-requires g c = let past = get-none c.args.listed.now c.loop-place.place (sym c.in-None.is ∙ c.at.ensures) in omega arith

pub loop-place-preserved : goal.loop-place-preserved
loop-place-preserved g c = λ i k x low at row. elim (cases_eq i c.loop-place.place) as (λ _. IsCell (g.C.CellTexts.bytes_of x)) [
  | inl same ↦ c.text_is_cell.ensures x (ap (row_at c.args.heap.now) (some-same c.in-Some.link k (sym c.in-Some.is ∙ c.at.ensures ∙ ap (slice_get c.args.listed.now) (sym same) ∙ at)) ∙ row)
  | inr other ↦ c.loop-place.invariant i k x (omega (arith, low, other)) at row
]

pub returns : goal.returns
returns g c = λ l x some row. let at = index-of l c.args.listed.now some in c.loop-place.invariant at.0 l x (omega (arith, at.1)) at.2 row
