use Rattle.std.proofs.Common.{◌≤◌, List, ℕ, Ok, length, sym, subst}
use Rattle.elem_core.specs.Shown.{name_bytes}
use Rattle.ewig_shell.specs.Step.{most_stored}
use Rattle.ewig_shell.specs.Loading.{FillsIn}
use Rattle.ewig_shell.proofs.LoadLemmas.{few-lines, FillsIn-refused, FillsIn-ok, FillsIn-lacks}
use Rattle.ewig_shell.proofs.load.fill.Goals as goal

pub returns-in_err-lines : goal.returns-in_err-lines
returns-in_err-lines c =
    subst (λ (w : List ℕ). FillsIn (name_bytes c.args.buffer) w c.args.space.now c.from_residual.result c.args.space.now) c.deref.ensures.value
    (FillsIn-refused c.in_err-lines.field-0.0 _ _ _ c.from_residual.result c.in_err-lines.ensures c.from_residual.ensures.1)

pub fill-requires : goal.fill-requires
fill-requires c = few-lines _ _ (subst (λ (w : List ℕ). length w ≤ most_stored) (sym c.deref.ensures.value) c.requires) c.in_ok-lines.ensures

pub returns-in-Ok : goal.returns-in-Ok
returns-in-Ok c =
    subst (λ (w : List ℕ). FillsIn (name_bytes c.args.buffer) w c.args.space.now (Ok tt) c.fill.new.self) c.deref.ensures.value
    (FillsIn-ok _ _ c.in_ok-lines.lines _ _ tt c.in_ok-lines.ensures c.in-Ok.ensures)

pub returns-in-Err : goal.returns-in-Err
returns-in-Err c = FillsIn-lacks _ _ _ _ c.in-Err.ensures.ends.same
