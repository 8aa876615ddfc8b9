use Rattle.std.proofs.Common.{◌<◌, ◌≤◌, ◌+◌, length, refl, arith}
use Rattle.std.proofs.lemmas.Bool.{le-leb, lt-leb}
use Rattle.plain_space.specs.Edited.{edited}
use Rattle.plain_space.specs.Workspace.{most}
use Rattle.plain_space.proofs.laws.full_lines.Goals as goal

pub returns : goal.returns
unfolding edited
returns c = λ now name text index lines found full.
    let many : most < length lines + 1 = omega arith in
    let no = lt-leb (length lines + 1) most many in
    record {
      no_add = rw (found, no) refl;
      no_put = λ within.
          let e : index ≤ length lines = omega arith in
          let yes = le-leb index (length lines) e in
          rw (found, yes, no) refl;
      range_first = λ past.
          let e : length lines < index = omega arith in
          let out = lt-leb index (length lines) e in
          rw (found, out) refl;
    }
