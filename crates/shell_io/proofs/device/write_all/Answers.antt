use Rattle.std.proofs.Common.{◌≡◌, ◌+◌, ◌-◌, ◌<◌, ℕ, ◌++◌, length, take, drop, ap, sym, subst, ◌∙◌, arith, rules, length-append, append_assoc, take-append-drop, length-take-le, refl, List, ◌≤◌}
use Rattle.std.proofs.lemmas.Grind.{common_steps}
use Rattle.std.specs.Io.KnownBytes.{Appends}
use Rattle.std.proofs.lemmas.List.{take_rest}
use Rattle.shell_io.proofs.FaultLemmas.{CountsFaults-then, CountsFaults-as}
use Rattle.shell_io.proofs.WriteLemmas.{Appends-then, Appends-kept, Appends-none, Sends-stops}
use Rattle.shell_io.proofs.device.write_all.Goals as goal

pub returns : goal.returns
returns g c =
    let inv = c.loop-rest.invariant in
    let all : c.args.piece.now ≡ inv.done = grind (arith, common_steps) in
    let P : List ℕ → Type 0 = λ xs. Appends (g.K.Sink.written c.args.sink.now) (g.K.Sink.written c.loop-rest.sink) xs in
    let Q : List ℕ → Type 0 = λ xs. (room : ℕ) → g.K.Sink.has_room c.args.sink.now room → length c.args.piece.now ≤ room →
    g.K.Sink.has_room c.loop-rest.sink (room - length xs) in record {
      writes = subst P (sym all) inv.written;
      counts = CountsFaults-as inv.counts (λ n. absurd n) (λ e. cc);
      sure = λ room h fits. (refl, (inv.sure room h fits).0, subst Q (sym all) (λ r h' f. (inv.sure r h' f).1) room h fits);
    }

pub returns-in_err-written : goal.returns-in_err-written
returns-in_err-written g c =
    let inv = c.loop-rest.invariant in
    let push = c.in_err-written.ensures in
    let some : 0 < length c.loop-rest.rest.now = search rules in
    Sends-stops _ _ _ _ _ _ _ c.args.piece.now inv.done c.loop-rest.rest.now inv.whole some c.from_residual.ensures.0
    (Appends-kept _ _ _ inv.done inv.written push.kept)
    (CountsFaults-then inv.counts (λ n. n) (CountsFaults-as push.counts (λ _. c.from_residual.ensures.0) (λ _. refl)))
    (λ left h fits. let failed = (push.sure left h fits).1 in cc)
    (λ room h fits. (inv.sure room h fits).1)

pub returns-then-written-eq0 : goal.returns-then-written-eq0
returns-then-written-eq0 g c =
    let inv = c.loop-rest.invariant in
    let push = c.in_ok-written.ensures in
    let some : 0 < length c.loop-rest.rest.now = search rules in
    Sends-stops _ _ _ _ _ _ _ c.args.piece.now inv.done c.loop-rest.rest.now inv.whole some refl
    (Appends-none _ _ _ inv.done c.loop-rest.rest.now _ inv.written c.if-written-eq0.true push.grown)
    (CountsFaults-then inv.counts (λ n. n) (record {
      counted = push.counts.counted;
      cause = λ _. push.stuck c.if-written-eq0.true some;
      told = λ s. ((push.counts.told s).0, λ ok. absurd (ok refl));
    }))
    (λ left h fits. let n = (push.sure left h fits).2.0 some in omega (arith, n, c.if-written-eq0.true))
    (λ room h fits. (inv.sure room h fits).1)

pub loop-rest-preserved : goal.loop-rest-preserved
loop-rest-preserved g c =
    let inv = c.loop-rest.invariant in
    let n = c.in_ok-written.written in
    let rest = c.loop-rest.rest.now in
    let within = c.in_ok-written.ensures.within in
    let some : 0 < length rest = search rules in
    record {
      done = inv.done ++ take n rest;
      whole = inv.whole ∙ ap (λ xs. inv.done ++ xs) (sym (take-append-drop n rest)) ∙ sym (append_assoc inv.done (take n rest) (drop n rest))
          ∙ ap (λ xs. (inv.done ++ take n rest) ++ xs) (sym (take_rest rest n));
      written = Appends-then _ _ _ inv.done (take n rest) inv.written c.in_ok-written.ensures.grown;
      counts = CountsFaults-then inv.counts (λ n. n) (CountsFaults-as c.in_ok-written.ensures.counts (λ e. cc) (λ n. absurd n));
      sure = λ room h fits.
          let before = inv.sure room h fits in
          let lengths : length c.args.piece.now ≡ length inv.done + length rest = ap length inv.whole ∙ length-append inv.done rest in
          let now = c.in_ok-written.ensures.sure (room - length inv.done) before.1 (omega arith) in
          let P : ℕ → Type 0 = λ m. g.K.Sink.has_room c.push.new.self m in
          let left : (room - length inv.done) - n ≡ room - length (inv.done ++ take n rest) =
          omega (arith, length-append inv.done (take n rest), length-take-le n rest within) in
          (now.0 ∙ before.0, subst P left now.2.1);
    }
