use Rattle.std.proofs.Common.{◌≡◌, [], ◌∷◌, ◌++◌, ap, rules, arith, length, length-append}
use Rattle.elem_core.specs.declared.TheConstants.{NEWLINE}
use Rattle.ewig_shell.specs.Step.{ended_lines}
use Rattle.ewig_shell.proofs.LinesLemmas.{next_of}
use Rattle.ewig_shell.proofs.SaveLemmas.{ended-more}
use Rattle.ewig_shell.proofs.save.file_size.Goals as goal

pub loop-line-preserved : goal.loop-line-preserved
loop-line-preserved c =
    let so_far = c.loop-line.invariant in
    let line = c.in-Some.line.now in
    let e : c.loop-line.line-iterator ≡ line ∷ c.next.new.self = search rules in
    let more = ap length c.text-more.ensures.shown in
    let longer = ap length (ended-more so_far.so_far line) in
    record {
      so_far = so_far.so_far ++ line ∷ [];
      others = next_of so_far.so_far line _ _ c.args.lines so_far.others e;
      counted = omega (arith, more, longer, so_far.counted, length-append (ended_lines so_far.so_far) (line ++ NEWLINE ∷ []), length-append line (NEWLINE ∷ []));
      few = omega arith;
    }
