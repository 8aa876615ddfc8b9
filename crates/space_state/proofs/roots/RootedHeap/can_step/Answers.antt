use Rattle.std.proofs.Common.{◌≡◌, ◌-◌, [], length, false, refl, sym, ◌∙◌, arith}
use Rattle.std.proofs.lemmas.Option.{slice_get_past}
use Rattle.plain_space.specs.Workspace.{in_batch}
use Rattle.space_state.proofs.Steps.{step-refused, step-empty, has-some, has-none}
use Rattle.space_state.proofs.roots.RootedHeap.can_step.Goals as goal

pub returns-then-in_batch : goal.returns-then-in_batch
returns-then-in_batch c = λ W xs K from next. step-refused W xs next (sym (c.in_batch.ensures [] W K) ∙ c.if-in_batch.true)

pub returns-then-is_empty : goal.returns-then-is_empty
returns-then-is_empty c = λ W xs K from next.
    let outside : in_batch W ≡ false = sym (c.in_batch.ensures [] W K) ∙ c.if-in_batch.false in
    let none = has-none from refl (c.is_empty.ensures.0 c.if-is_empty.true) in
    step-empty W xs next outside (slice_get_past xs (length xs - 1) (omega (arith, none)))

pub returns : goal.returns
returns c = λ W xs K from. record {
  outside = sym (c.in_batch.ensures [] W K) ∙ c.if-in_batch.false;
  some = has-some from refl c.is_empty.ensures c.if-is_empty.false;
}
