use Rattle.std.proofs.Common.{◌∙◌}
use Rattle.elem_core.specs.Shown.{name_bytes}
use Rattle.state_rows.proofs.Steps.{stars-at, set-is}
use Rattle.state_rows.proofs.look_up.is_starred.Goals as goal

pub has-requires : goal.has-requires
has-requires c =
    let is = c.requires.state.1 in
    (is.stars_are.entries, set-is (stars-at c.requires.bits c.stars_of.ensures.bits c.stars_of.ensures.root c.requires.state.0 is))

pub returns : goal.returns
returns c = λ s is.
    c.has.ensures is.stars_are.entries (set-is (stars-at c.requires.bits c.stars_of.ensures.bits c.stars_of.ensures.root s is)) ∙ is.stars_are.reads (name_bytes c.args.name)
