-- Where every line of the states passes a test, so does the text of each line cell: a pool whose lines are changed stands for a
-- workspace, and so is valid, as soon as the lines of the states are changed to lines, and then each of its cells is a line.
use Rattle.std.proofs.Common.{◌≡◌, ℕ, ◌<◌, refl, ap, sym, subst, ◌∙◌, arith, inl, inr, Bool, true, false, cond, List, [], ◌∷◌, length, map, Option, Some, None, option_map}
use Rattle.std.specs.Prelude.{slice_get}
use Rattle.std.specs.List.{All}
use Rattle.std.proofs.lemmas.Bool.{cases_Bool}
use Rattle.std.proofs.lemmas.List.{length-map}
use Rattle.std.proofs.lemmas.List.Elements.{All-map}
use Rattle.std.proofs.lemmas.Option.{slice_get_within}
use Rattle.elem_core.specs.Cell.{IsCell}
use Rattle.node_heap.specs.Links.{count, Reaches, here, below, HasLink}
use Rattle.node_heap.specs.Forms.{Form, Forms, cell, node, leaf, links_of, links_in}
use Rattle.node_heap.proofs.Reach.{Reaches-then}
use Rattle.rrb_core.specs.Seq.{IsWellShaped}
use Rattle.rrb_core.proofs.LinkCounts.{all-counted}
use Rattle.pool_order.specs.Order.{order}
use Rattle.pool_text.specs.Rows.{Bytes}
use Rattle.pool_text.specs.Rules.{Rules}
use Rattle.pool_text.specs.Pool.{forms_in, place_in, relink, settings_by, pool}
use Rattle.pool_text.specs.Renaming.{IsRooted}
use Rattle.pool_text.specs.declared.pool.Pool.{Pool}
use Rattle.pool_text.proofs.Renamed.{count-map}
use Rattle.pool_text.proofs.PoolRows.{pool-renamed}
use Rattle.pool_check.specs.Damages.{IsValidBy}
use Rattle.pool_check.proofs.TestLemmas.{leads-down, roots-low}
use Rattle.plain_space.specs.Workspace.{State, Workspace, HasBoundedUndo}
use Rattle.plain_space.specs.Lines.{IsLineIn}
use Rattle.state_rows.specs.Reading.{IsStateBy}
use Rattle.state_rows.specs.Standing.{IsBase, StandForBy, StandsForBy}
use Rattle.state_rows.proofs.OneSpace.{one-space-by}
use Rattle.state_rows.proofs.PassesSpace.{row-reached}
use Rattle.state_rows.proofs.ValidSpace.{valid-stands}
use Rattle.pool_carry.specs.Laws.{HasDigits}
use Rattle.pool_map.specs.Laws.{LinesAreOfStates}
use Rattle.pool_map.specs.Lines.{is_cell, text_in, line_cells, line_texts}
use Rattle.pool_map.specs.Mapped.{image_of, mapped_rows}
use Rattle.pool_map.specs.Plain.{changed_state, changed_space}
use Rattle.pool_carry.proofs.OwnVectors.{is_of_vector}
use Rattle.pool_map.proofs.ChangedStands.{IsChanged, roots-stand}
use Rattle.pool_map.proofs.MappedRows.{IsElement, rows-changed, rows-rooted, listed-cell, listed-element}
use Rattle.pool_carry.proofs.MadeSpace.{made-valid}
use Rattle.pool_map.proofs.LineTexts.{cell-text, line-at}
use Rattle.pool_map.proofs.LineStates.{linked-no-cell, lines-pass}

module _ (F G : Forms Bytes) (image : ℕ → ℕ) (change : Bytes → Bytes) (IsLine : ℕ → Type 0) (is_changed : IsChanged F G image change IsLine) where
  -- a link to a row that is no cell stays
  link-stays : (l k : ℕ) → HasLink (links_in F) l k → is_cell (F k) ≡ false → HasLink (links_in G) l k
  link-stays l k has none = by_row (F l) refl has
    where
      by_vector : (row : Form Bytes) → F l ≡ Some row → (t : Bool) → is_of_vector row ≡ t → 0 < count k (links_of (Some row)) → HasLink (links_in G) l k
      by_vector row is true vector has =
          let at : G l ≡ Some (relink image row) = is_changed.vectors l row is vector in
          let there : 0 < count k (links_of (Some (relink image row))) = subst (λ j. 0 < count j (links_of (Some (relink image row)))) (is_changed.stays k none) (moved row has) in
          subst (λ r. 0 < count k (links_of r)) (sym at) there
        where
          moved : (row : Form Bytes) → 0 < count k (links_of (Some row)) → 0 < count (image k) (links_of (Some (relink image row)))
          moved (cell text) has = absurd (omega (arith, has))
          moved (node kind links) has = count-map image k links has
      by_vector row is false other has = subst (λ r. 0 < count k (links_of r)) (sym (is_changed.others.kept l row is other)) has

      by_row : (r : Option (Form Bytes)) → F l ≡ r → 0 < count k (links_of r) → HasLink (links_in G) l k
      by_row None is has = absurd (omega (arith, has))
      by_row (Some row) is has = by_vector row is (is_of_vector row) refl has

  -- what a link reaches that is no cell it reaches still
  reach-stays : (r m : ℕ) → Reaches (links_in F) r m → is_cell (F m) ≡ false → Reaches (links_in G) r m
  reach-stays r m (here _) none = here r
  reach-stays r m (below _ k _ has down) none = below r k m (link-stays r k has (no-cell k m down none)) (reach-stays k m down none)
    where
      no-cell : (k m : ℕ) → Reaches (links_in F) k m → is_cell (F m) ≡ false → is_cell (F k) ≡ false
      no-cell k m (here _) none = none
      no-cell k m (below _ j _ has down) none = linked-no-cell (F k) j has

module _ (rules : Rules) (P : Pool) (W : Workspace) (test : Bytes → Bool) (few : HasDigits rules P.bits) (four : length P.roots ≡ 4) (valid : IsValidBy rules P) (stands : StandsForBy rules P W) (bounded : HasBoundedUndo W)
    (each : (text : Bytes) → IsLineIn W text → test text ≡ true) where
  -- what passes stays, and else it is no line
  abbrev told : Bytes → Bytes
  told text = cond (test text) text (10 ∷ [])

  abbrev rows : List (Form Bytes)
  rows = mapped_rows P told

  abbrev F : Forms Bytes
  F = forms_in P

  abbrev G : Forms Bytes
  G = slice_get rows

  changed : IsChanged F G (image_of P) told (IsElement F)
  changed = rows-changed told P

  fits : (l : ℕ) (text : Bytes) → F l ≡ Some (cell text) → IsElement F l → test text ≡ true → IsCell (told text)
  fits l text is element passes = subst IsCell (sym (ap (λ t. cond t text (10 ∷ [])) passes)) (line-at rules P valid l text is)

  -- there is no base
  no-base : (roots : List ℕ) → length roots ≡ 4 → StandForBy rules F (IsWellShaped F) P.bits roots W → (now : State) → W.base ≡ Some now → ⊥
  no-base [] many is now base = is
  no-base (c ∷ []) many is now base = is
  no-base (c ∷ v ∷ []) many is now base = is
  no-base (c ∷ v ∷ u ∷ []) many is now base = is
  no-base (c ∷ v ∷ u ∷ r ∷ []) many is now base = subst (λ b. IsBase (IsStateBy rules F (IsWellShaped F) P.bits) [] b) base is.4
  no-base (c ∷ v ∷ u ∷ r ∷ b ∷ bs) many is now base = absurd (omega (arith, many))

  rooted : IsRooted (length rows) G P.roots
  rooted = rows-rooted told P (leads-down P valid.lead_back) P.roots (roots-low P valid.lead_back)

  abbrev made : Pool
  made = pool (length rows) G P.roots (settings_by P.bits P.history)

  made-is-valid : IsValidBy rules made
  made-is-valid =
      made-valid rules P.bits P.history (length rows) G P.roots rooted (changed_space told W) stands.1
      (roots-stand rules P.bits F G (image_of P) told (IsElement F) changed (λ text. test text ≡ true) fits P.roots W each (λ now base text line. absurd (no-base P.roots four stands.0 now base)) stands.0)
      few (omega (arith, bounded, length-map W.undo (changed_state told)))

  -- each line cell was changed to a line
  told-line : (l : ℕ) (text : Bytes) → F l ≡ Some (cell text) → IsElement F l → IsCell (told text)
  told-line l text is element =
      let m : ℕ = element.leaf_at in
      let from = row-reached P valid.lead_back valid.in_order m (slice_get_within P.rows m (node leaf element.links) element.row) in
      let down : Reaches (links_in G) from.0 m = reach-stays F G (image_of P) told (IsElement F) changed from.0 m from.2 (ap is_cell element.row) in
      let leaf_row : G m ≡ Some (node leaf (map (image_of P) element.links)) = changed.vectors m (node leaf element.links) element.row refl in
      let has : HasLink (links_in G) m (image_of P l) = subst (λ r. 0 < count (image_of P l) (links_of r)) (sym leaf_row) (count-map (image_of P) l element.links element.has) in
      let reached : Reaches (links_in G) from.0 (image_of P l) = Reaches-then (links_in G) from.0 m (image_of P l) down has in
      let place : ℕ → ℕ = place_in (order (length rows) (links_in G) P.roots) in
      line-at rules made made-is-valid (place (image_of P l)) (told text)
      (pool-renamed (length rows) G P.roots rooted (settings_by P.bits P.history) from.0 (image_of P l) from.1 reached (image_of P l) (here (image_of P l))
      ∙ ap (option_map (relink place)) (changed.lines l text is element))

  -- so it passes
  text-passes : (l : ℕ) (text : Bytes) → F l ≡ Some (cell text) → IsElement F l → test text ≡ true
  text-passes l text is element = elim (cases_Bool (test text)) as (λ _. test text ≡ true) [
    | inl passes ↦ passes
    | inr fails ↦
        let line : IsCell (10 ∷ []) = subst IsCell (ap (λ t. cond t text (10 ∷ [])) fails) (told-line l text is element) in
        absurd (line.unbroken (0, omega arith, refl))
  ]

  pub texts-pass : All (λ text. test text ≡ true) (line_texts P)
  texts-pass = All-map (λ text. test text ≡ true) (λ l. text_in (F l)) (line_cells P)
      (all-counted (λ l. test (text_in (F l)) ≡ true) (line_cells P) (λ l some. text-passes l (text_in (F l)) (cell-text (F l) (listed-cell told P l some)) (listed-element told P l some)))

pub lines-of-states : LinesAreOfStates
lines-of-states rules P W test few four valid stands =
    let workspace = valid-stands P valid in
    let same : workspace.0 ≡ W = one-space-by (forms_in P) (IsWellShaped (forms_in P)) P.bits rules P.roots workspace.0 W (workspace.1.1 ∙ sym stands.1) workspace.1.0 stands.0 in
    (λ all. lines-pass P rules W stands (λ text. test text ≡ true) all, λ each. texts-pass rules P W test few four valid stands (subst HasBoundedUndo same workspace.2) each)
