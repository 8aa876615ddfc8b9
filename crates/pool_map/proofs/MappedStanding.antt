-- A mapped pool stands for the workspace with its lines changed, and is valid.
use Rattle.std.proofs.Common.{◌≡◌, List, length, refl, sym, subst, arith}
use Rattle.std.specs.Prelude.{slice_get}
use Rattle.std.proofs.lemmas.List.{length-map}
use Rattle.elem_core.specs.Cell.{IsCell}
use Rattle.node_heap.specs.Forms.{Form}
use Rattle.rrb_core.specs.Seq.{IsWellShaped}
use Rattle.pool_text.specs.Rows.{Bytes}
use Rattle.pool_text.specs.Rules.{Rules}
use Rattle.pool_text.specs.Pool.{forms_in, settings_by, pool}
use Rattle.pool_text.specs.Renaming.{IsRooted}
use Rattle.pool_text.specs.declared.pool.Pool.{Pool}
use Rattle.pool_check.specs.Damages.{IsValidBy}
use Rattle.pool_check.proofs.TestLemmas.{leads-down, roots-low}
use Rattle.plain_space.specs.Workspace.{Workspace}
use Rattle.state_rows.specs.Standing.{StandForBy, StandsForBy}
use Rattle.state_rows.proofs.ValidSpace.{valid-stands}
use Rattle.pool_carry.specs.Laws.{HasDigits}
use Rattle.pool_carry.proofs.MadeSpace.{made-stands, made-valid}
use Rattle.pool_map.specs.Mapped.{image_of, mapped_rows, mapped}
use Rattle.pool_map.specs.Plain.{changed_state, changed_space}
use Rattle.pool_map.specs.Laws.{KeepsCells, MappedStands, MappedIsValid}
use Rattle.pool_map.proofs.ChangedStands.{roots-stand}
use Rattle.pool_map.proofs.MappedRows.{IsElement, rows-changed, listed-says, rows-rooted}

module _ (rules : Rules) (change : Bytes → Bytes) (P : Pool) (valid : IsValidBy rules P) (cells : KeepsCells change P) where
  abbrev rows : List (Form Bytes)
  rows = mapped_rows P change

  rooted : IsRooted (length rows) (slice_get rows) P.roots
  rooted = rows-rooted change P (leads-down P valid.lead_back) P.roots (roots-low P valid.lead_back)

  mapped-is : mapped change P ≡ pool (length rows) (slice_get rows) P.roots (settings_by P.bits P.history)
  unfolding mapped
  mapped-is = refl

  changed-stand : (W : Workspace) → StandForBy rules (forms_in P) (IsWellShaped (forms_in P)) P.bits P.roots W → StandForBy rules (slice_get rows) (IsWellShaped (slice_get rows)) P.bits P.roots (changed_space change W)
  changed-stand W stands =
      roots-stand rules P.bits (forms_in P) (slice_get rows) (image_of P) change (IsElement (forms_in P)) (rows-changed change P) (λ _. Unit {0}) (λ l text is element _. listed-says change P (λ t. IsCell (change t)) cells l text is element) P.roots W
      (λ text line. tt) (λ now is text line. tt) stands

  space-stands : (W : Workspace) → StandsForBy rules P W → StandsForBy rules (mapped change P) (changed_space change W)
  space-stands W stands =
      subst (λ (Q : Pool). StandsForBy rules Q (changed_space change W)) (sym mapped-is)
      (made-stands rules P.bits P.history (length rows) (slice_get rows) P.roots rooted (changed_space change W) stands.1 (changed-stand W stands.0))

  space-valid : HasDigits rules P.bits → IsValidBy rules (mapped change P)
  space-valid few =
      let workspace = valid-stands P valid in
      let W : Workspace = workspace.0 in
      subst (λ (Q : Pool). IsValidBy rules Q) (sym mapped-is)
      (made-valid rules P.bits P.history (length rows) (slice_get rows) P.roots rooted (changed_space change W) workspace.1.1 (changed-stand W workspace.1.0) few
      (omega (arith, workspace.2, length-map W.undo (changed_state change))))

pub mapped-stands : MappedStands
mapped-stands rules change P W valid cells stands = space-stands rules change P valid cells W stands

pub mapped-valid : MappedIsValid
mapped-valid rules change P few valid cells = space-valid rules change P valid cells few
