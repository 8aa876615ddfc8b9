use Rattle.std.proofs.Common.{◌≡◌, ◌+◌, ◌≤◌, length, drop, ap, ◌∙◌, arith}
use Rattle.std.specs.Prelude.{slice_range}
use Rattle.shell_io.proofs.WindowLemmas.{length-range, range_rest, waiting}
use Rattle.shell_io.proofs.window.Window.skip.Goals as goal

pub returns : goal.returns
returns c =
    let w = c.self.inside in
    let held : slice_range w.bytes.items w.start w.end ≡ c.args.self.now.held = ap (λ v. v.held) c.self.view_is in
    let size = length-range w.bytes.items w.start w.end c.self.invariant.2 (omega arith) in
    let fits : w.start + c.args.count ≤ w.end = omega (arith, ap length held, size, c.requires) in
    waiting _ _ (ap (λ v. v.line) c.self.view_is) (range_rest w.bytes.items w.start w.end c.args.count fits ∙ ap (drop c.args.count) held)
