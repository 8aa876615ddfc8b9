use Rattle.edit_vec.proofs.PopSteps.{not-empty}
use Rattle.std.proofs.Common.{ℕ, ◌≤◌, length, ap, ◌∙◌, arith}
use Rattle.rrb_core.proofs.BuildLemmas.{unchanged-good}
use Rattle.rrb_core.specs.Vector.{elements}
use Rattle.edit_vec.proofs.RoomTop.{pops-room}
use Rattle.edit_vec.proofs.edit.FlexEdit.pop.Goals as goal

pub pop_held-left-requires-clause-good : goal.pop_held-left-requires-clause-good
pop_held-left-requires-clause-good g c = rw (c.from_root.ensures ∙ c.self.view_is) (unchanged-good c.args.self.now c.in_ok-reserve.ensures.rest c.requires.good).0

pub pop_held-left-requires-clause-held : goal.pop_held-left-requires-clause-held
pop_held-left-requires-clause-held g c = rw (c.from_root.ensures ∙ c.self.view_is) (omega (arith, c.requires.held, c.in_ok-reserve.ensures.rest.holds c.args.self.now))

pub pop_held-left-requires-clause-some : goal.pop_held-left-requires-clause-some
pop_held-left-requires-clause-some g c =
    let self : ℕ = c.args.self.now in
    let some : 1 ≤ length (elements c.args.heap.now self) = not-empty (ap (elements c.args.heap.now) c.view.ensures) c.is_empty.ensures c.if-is_empty.false in
    rw (c.from_root.ensures ∙ c.self.view_is, (unchanged-good self c.in_ok-reserve.ensures.rest c.requires.good).1) some

pub returns-clause-pops : goal.returns-clause-pops
returns-clause-pops g c = rw c.into_root-self-inside.ensures (pops-room c.in_ok-reserve.ensures.rest c.requires.good (rw (c.from_root.ensures ∙ c.self.view_is) at c.pop_held-left.ensures.pops))
