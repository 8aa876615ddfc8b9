use Rattle.std.proofs.Common.{◌≡◌, ◌-◌, ◌++◌, length, take, drop, ap, sym, ◌∙◌, arith, length-drop, length-take-le}
use Rattle.std.specs.Prelude.{slice_range}
use Rattle.shell_io.proofs.WindowLemmas.{pulled_behind}
use Rattle.shell_io.proofs.window.Window.pull.Goals as goal

pub returns-clause-more : goal.returns-clause-more
returns-clause-more g c =
    let w = c.self.inside in
    let n = c.in_ok-count.count in
    let bytes = c.pull_behind.new.bytes in
    let olds : length w.bytes.items ≡ c.copy_within.new.self.len = sym w.bytes.ok.0 ∙ sym c.copy_within.ensures.len in
    let news : length bytes ≡ c.copy_within.new.self.len =
    c.pull_behind.auto.bytes ∙ ap length c.deref_mut.ensures.value ∙ sym c.copy_within.new.self.ok.0 in
    let held : slice_range w.bytes.items w.start w.end ≡ c.args.self.now.held = ap (λ v. v.held) c.self.view_is in
    record {
      more = take n (drop (w.end - w.start) bytes);
      count = length-take-le n (drop (w.end - w.start) bytes) (omega (arith, c.in_ok-count.ensures.within.1, length-drop (w.end - w.start) bytes));
      held = pulled_behind w.bytes.items c.copy_within.new.self.items bytes w.start w.end n c.copy_within.new.self.len
          c.copy_within.ensures.items olds news c.self.invariant.2
          (omega (arith, c.copy_within.ensures.len, c.self.invariant.3)) (omega (arith, c.in_ok-count.ensures.within.1, news))
          (c.in_ok-count.ensures.front ∙ ap (take (w.end - w.start)) c.deref_mut.ensures.value)
          ∙ ap (λ xs. xs ++ take n (drop (w.end - w.start) bytes)) held;
      moved = c.in_ok-count.ensures.moved;
    }
