use Rattle.std.proofs.Common.{◌∙◌, sym, ap, arith}
use Rattle.work_lines.specs.View.{WorkView}
use Rattle.work_lines.proofs.LineLemmas.{new_changes, made_changes, new-next, made-next, none-next}
use Rattle.work_lines.proofs.WorkLines.next.Goals as goal

pub returns-then-self-gt0-clause-made : goal.returns-then-self-gt0-clause-made
returns-then-self-gt0-clause-made c =
    ap (λ (v : WorkView). v.left) (sym c.self.view_is) ∙ new-next c.self.inside.buffers _ _ c.if-self-gt0.true c.make_new.ensures

pub returns-then-self-gt0-clause-changes : goal.returns-then-self-gt0-clause-changes
returns-then-self-gt0-clause-changes c = λ yes. new_changes _ _ (omega arith) c.make_new.ensures

pub returns-then-self-gt0-2-clause-made : goal.returns-then-self-gt0-2-clause-made
returns-then-self-gt0-2-clause-made c =
    ap (λ (v : WorkView). v.left) (sym c.self.view_is) ∙ made-next c.self.inside.buffers c.self.inside.count c.self.inside.number _ _ c.if-self-gt0.false c.if-self-gt0-2.true c.next_number-self-inside.ensures c.make.ensures

pub returns-then-self-gt0-2-clause-changes : goal.returns-then-self-gt0-2-clause-changes
returns-then-self-gt0-2-clause-changes c = λ yes. made_changes _ _ c.make.ensures

pub returns-else-self-gt0-2-clause-made : goal.returns-else-self-gt0-2-clause-made
returns-else-self-gt0-2-clause-made c =
    ap (λ (v : WorkView). v.left) (sym c.self.view_is) ∙ none-next c.self.inside.buffers c.self.inside.count c.self.inside.number c.if-self-gt0.false c.if-self-gt0-2.false
