use Rattle.std.proofs.Common.{sym, ◌∙◌}
use Rattle.elem_core.specs.Shown.{name_bytes}
use Rattle.space_state.proofs.Placing.{key-needless, key-wanted}
use Rattle.space_state.proofs.roots.RootedHeap.new_key.Goals as goal

pub returns-then-is_some : goal.returns-then-is_some
returns-then-is_some c = key-needless c.args.found (name_bytes c.args.name) (sym c.is_some.ensures ∙ c.if-is_some.true)

pub returns : goal.returns
returns c = key-wanted c.args.found (name_bytes c.args.name) (sym c.is_some.ensures ∙ c.if-is_some.false) (c.in_ok-key.ensures.kept ∙ c.as_line.ensures)
