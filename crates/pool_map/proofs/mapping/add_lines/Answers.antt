use Rattle.std.proofs.Common.{◌≡◌, ◌<◌, ℕ, List, map, length, get_or, append-nil, rules, refl, ap, sym, subst, ◌∙◌, arith}
use Rattle.std.specs.Prelude.{slice_get}
use Rattle.std.proofs.lemmas.List.{map-append, length-map}
use Rattle.std.specs.List.{All}
use Rattle.std.proofs.lemmas.List.Elements.{All-nil}
use Rattle.pool_map.specs.declared.fault.ChangeFault.TheVariants.{Long}
use Rattle.elem_core.specs.Cell.{IsCell}
use Rattle.node_heap.specs.Links.{count}
use Rattle.node_heap.specs.Forms.{Form, cell}
use Rattle.node_heap.proofs.Counts.{get_or-map_default}
use Rattle.pool_order.proofs.Walked.{count-get_or}
use Rattle.pool_text.specs.Rows.{Bytes, row_form}
use Rattle.pool_text.specs.Pool.{forms_in}
use Rattle.pool_map.specs.Lines.{is_cell, text_in, line_cells, line_texts}
use Rattle.pool_map.proofs.CodeLists.{tail-more, all-more}
use Rattle.pool_map.proofs.MappedRows.{listed-cell}
use Rattle.pool_map.proofs.mapping.add_lines.Goals as goal

abbrev one_cell : Bytes → Form Bytes
one_cell t = cell t

pub loop-place-init : goal.loop-place-init
loop-place-init g c = record {
  made = sym (append-nil (map row_form c.args.made.now.items));
  lines = All-nil (λ text. IsCell (g.C.Change.image c.args.change.now text));
  asked = omega arith;
  same = λ text. refl;
}

pub text_of-requires : goal.text_of-requires
text_of-requires g c =
    let P = c.args.pool.now in
    let places : List ℕ = c.as_slice-places.result.now in
    let i : ℕ = c.loop-place.place-index in
    let low : i < length places = omega arith in
    let place : ℕ = get_or places i 0 in
    let same : places ≡ line_cells P = c.as_slice-places.ensures ∙ c.requires.lines in
    ap (λ (fs : List (Form Bytes)). is_cell (slice_get fs place)) c.as_slice-rows.ensures
    ∙ listed-cell (λ t. t) P place (subst (λ (ks : List ℕ). 0 < count place ks) same (count-get_or places i low))

pub changed_line-requires : goal.changed_line-requires
changed_line-requires g c =
    let P = c.args.pool.now in
    let places : List ℕ = c.as_slice-places.result.now in
    let low : c.loop-place.place-index < length places = omega arith in
    let same : places ≡ line_cells P = c.as_slice-places.ensures ∙ c.requires.lines in
    record { few = omega (arith, c.loop-place.invariant.asked, low, ap (λ (ks : List ℕ). length ks) same, c.requires.few) }

pub loop-place-preserved : goal.loop-place-preserved
loop-place-preserved g c =
    let P = c.args.pool.now in
    let F = forms_in P in
    let places : List ℕ = c.as_slice-places.result.now in
    let i : ℕ = c.loop-place.place-index in
    let low : i < length places = omega arith in
    let place : ℕ = get_or places i 0 in
    let same : places ≡ line_cells P = c.as_slice-places.ensures ∙ c.requires.lines in
    let image : Bytes → Bytes = g.C.Change.image c.args.change.now in
    let line : Bytes → Form Bytes = λ text. cell (image text) in
    let d : Bytes = text_in (F 0) in
    let inside : i < length (line_texts P) = omega (arith, low, ap (λ (ks : List ℕ). length ks) same, length-map (line_cells P) (λ l. text_in (F l))) in
    let here : c.text_of.result.now ≡ get_or (line_texts P) i d =
    c.text_of.ensures ∙ ap (λ (fs : List (Form Bytes)). text_in (slice_get fs place)) c.as_slice-rows.ensures
    ∙ ap (λ (ks : List ℕ). text_in (F (get_or ks i 0))) same ∙ sym (get_or-map_default (λ l. text_in (F l)) (line_cells P) i 0) in
    let text : c.in_ok-line.line ≡ image (get_or (line_texts P) i d) = c.in_ok-line.ensures.text ∙ c.loop-place.invariant.same c.text_of.result.now ∙ ap image here in
    record {
      made = tail-more line (line_texts P) i d (map row_form c.args.made.now.items) (map row_form c.loop-place.made.items) _ (cell c.in_ok-line.line) inside c.loop-place.invariant.made (ap one_cell text)
          (ap (map row_form) c.in_ok-push.ensures.items ∙ map-append row_form c.loop-place.made.items _);
      lines = all-more (λ t. IsCell (image t)) (line_texts P) i d inside c.loop-place.invariant.lines
          (subst IsCell (c.loop-place.invariant.same c.text_of.result.now ∙ ap image here) c.in_ok-line.ensures.line);
      asked = omega (arith, c.loop-place.invariant.asked, c.changed_line.ensures.asked);
      same = λ t. c.changed_line.ensures.same t ∙ c.loop-place.invariant.same t;
    }

pub returns-in_err-line-clause-long : goal.returns-in_err-line-clause-long
returns-in_err-line-clause-long g c =
    let P = c.args.pool.now in
    let F = forms_in P in
    let places : List ℕ = c.as_slice-places.result.now in
    let i : ℕ = c.loop-place.place-index in
    let low : i < length places = omega arith in
    let same : places ≡ line_cells P = c.as_slice-places.ensures ∙ c.requires.lines in
    let image : Bytes → Bytes = g.C.Change.image c.args.change.now in
    let d : Bytes = text_in (F 0) in
    let inside : i < length (line_texts P) = omega (arith, low, ap (λ (ks : List ℕ). length ks) same, length-map (line_cells P) (λ l. text_in (F l))) in
    let here : c.text_of.result.now ≡ get_or (line_texts P) i d =
    c.text_of.ensures ∙ ap (λ (fs : List (Form Bytes)). text_in (slice_get fs (get_or places i 0))) c.as_slice-rows.ensures
    ∙ ap (λ (ks : List ℕ). text_in (F (get_or ks i 0))) same ∙ sym (get_or-map_default (λ l. text_in (F l)) (line_cells P) i 0) in
    let bad : c.in_err-line.field-0.0 ≡ Long → All (λ text. IsCell (image text)) (line_texts P) → ⊥ =
    (λ is all. c.in_err-line.ensures.long is (subst IsCell (sym (c.loop-place.invariant.same c.text_of.result.now ∙ ap image here)) (all i d inside))) in
    search rules
