use Rattle.std.proofs.Common.{ℕ, Some, sym, ap, subst, ◌∙◌}
use Rattle.std.specs.Prelude.{Option}
use Rattle.elem_core.specs.Shown.{name_bytes}
use Rattle.plain_space.specs.Workspace.{lines_of}
use Rattle.state_rows.specs.Reading.{StandsIfThere}
use Rattle.state_rows.specs.InHeap.{AreLinesIn}
use Rattle.state_rows.proofs.Steps.{buffers-at, map-is}
use Rattle.state_rows.proofs.look_up.buffer.Goals as goal

pub get-requires : goal.get-requires
get-requires c =
    let is = c.requires.state.1 in
    (is.buffers_are.bindings, map-is (buffers-at c.requires.bits c.buffers_of.ensures.bits c.buffers_of.ensures.root c.requires.state.0 is))

pub returns : goal.returns
returns c = λ s is.
    let map = map-is (buffers-at c.requires.bits c.buffers_of.ensures.bits c.buffers_of.ensures.root s is) in
    subst (λ (o : Option ℕ). StandsIfThere (AreLinesIn c.args.heap.now c.args.bits) o (lines_of s (name_bytes c.args.name))) (sym (ap Some c.at.ensures ∙ c.in_ok-lines.ensures.value is.buffers_are.bindings map))
    (is.buffers_are.reads (name_bytes c.args.name))

pub returns-in_err-lines : goal.returns-in_err-lines
returns-in_err-lines c = λ s is.
    let map = map-is (buffers-at c.requires.bits c.buffers_of.ensures.bits c.buffers_of.ensures.root s is) in
    subst (λ (o : Option ℕ). StandsIfThere (AreLinesIn c.args.heap.now c.args.bits) o (lines_of s (name_bytes c.args.name))) (sym (c.from_residual.ensures ∙ c.in_err-lines.ensures.value is.buffers_are.bindings map))
    (is.buffers_are.reads (name_bytes c.args.name))
