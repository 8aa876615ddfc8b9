use Rattle.std.proofs.Common.{◌≡◌, ℕ, List, [], ◌∷◌, ◌++◌, ap, sym, ◌∙◌, rules, append_assoc}
use Rattle.elem_core.specs.declared.TheConstants.{NEWLINE}
use Rattle.ewig_shell.specs.Step.{ended_lines}
use Rattle.ewig_shell.proofs.LinesLemmas.{next_of}
use Rattle.ewig_shell.proofs.SaveLemmas.{ended-more}
use Rattle.ewig_shell.proofs.save.collected.Goals as goal

pub loop-line-preserved : goal.loop-line-preserved
loop-line-preserved c =
    let so_far = c.loop-line.invariant in
    let line = c.in-Some.line.now in
    let e : c.loop-line.line-iterator ≡ line ∷ c.next.new.self = search rules in
    let text : c.as_bytes.result.now ≡ line = c.as_bytes.ensures.value ∙ c.text.ensures.shown in
    let longer : c.extend_from_slice.new.self.items ≡ c.loop-line.bytes.items ++ c.as_bytes.result.now = search rules in
    let ends : c.push.new.self.items ≡ c.extend_from_slice.new.self.items ++ NEWLINE ∷ [] = search rules in
    record {
      so_far = so_far.so_far ++ line ∷ [];
      others = next_of so_far.so_far line _ _ c.args.lines so_far.others e;
      collected =
          ends ∙ ap (λ (w : List ℕ). w ++ NEWLINE ∷ []) (longer ∙ ap (λ (w : List ℕ). c.loop-line.bytes.items ++ w) text ∙ ap (λ (w : List ℕ). w ++ line) so_far.collected)
          ∙ append_assoc (ended_lines so_far.so_far) line (NEWLINE ∷ []) ∙ sym (ended-more so_far.so_far line);
    }
