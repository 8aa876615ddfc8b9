use Rattle.std.proofs.Common.{◌≡◌, [], ◌∷◌, ◌++◌, ap, sym, subst, refl, rules, arith, length, List, ℕ}
use Rattle.work_lines.specs.Commands.{IsLineOf}
use Rattle.ewig_shell.specs.Step.{done_reply}
use Rattle.ewig_shell.specs.Work.{ChangesBy}
use Rattle.ewig_shell.proofs.WorkLemmas.{length-work_lines, Counts-none, Counts-then, one-more, next_line}
use Rattle.ewig_shell.proofs.work.counted.Goals as goal

pub loop-lines-init : goal.loop-lines-init
loop-lines-init c = record {
  done = [];
  others = c.new-lines.ensures.all;
  counts = Counts-none refl refl;
  few = omega (arith, ap length c.new-lines.ensures.all, length-work_lines c.args.seed c.args.count);
}

pub loop-lines-preserved : goal.loop-lines-preserved
loop-lines-preserved c =
    let before = c.loop-lines.invariant in
    let line = c.next.new.self.line in
    let made : c.loop-lines.lines.left ≡ line ∷ c.next.new.self.left = search rules in
    let changes = c.next.ensures.changes c.loop-lines-test.true in
    let is : IsLineOf c.line.result.now changes.command = subst (λ (w : List ℕ). IsLineOf w changes.command) (sym c.line.ensures) changes.is in
    let change : ChangesBy line c.loop-lines.space (done_reply c.obeyed-done.result) c.obeyed-done.new.space
    = record { command = changes.command; line_is = changes.is; done = c.obeyed-done.result; ends = c.obeyed-done.ensures changes.command is; reply_is = refl } in
    record {
      done = before.done ++ line ∷ [];
      others = next_line before.done c.loop-lines.lines.left c.next.new.self.left _ line before.others made;
      counts = Counts-then before.counts c.obeyed-done.result change c.with_one-tally.ensures;
      few = omega (arith, before.few, one-more c.loop-lines.tally c.with_one-tally.result c.obeyed-done.result c.with_one-tally.ensures, ap length made);
    }
