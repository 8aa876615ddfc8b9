use Rattle.std.proofs.Common.{refl}
use Rattle.ewig_shell.proofs.work.work.Goals as goal

pub returns : goal.returns
returns c =
    let counts = c.counted-tally.ensures in
    let there = c.totals-buffers.ensures in
    record {
      replies = counts.replies;
      steps = counts.steps;
      commands = refl;
      ok = counts.ok;
      refused = counts.refused;
      work = there.0;
      stands = there.1;
      buffers = there.2;
      lines = there.3;
    }
