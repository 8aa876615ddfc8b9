use Rattle.std.proofs.Common.{◌≡◌, ◌≤◌, [], false, refl, sym, ap, ◌∙◌, arith}
use Rattle.shell_terms.specs.Command.{history}
use Rattle.plain_space.specs.Workspace.{most, in_batch}
use Rattle.plain_space.specs.Cost.{cost}
use Rattle.plain_space.proofs.LastOf.{last-few}
use Rattle.space_state.specs.declared.roots.RootedHeap.{RootedHeap}
use Rattle.space_state.proofs.Keeping.{heap-is, same-heap, keeps-same, keeps-history, rises-same, rises-then, rises-more, turns-of, turns-by}
use Rattle.space_state.proofs.Steps.{history-refused, history-done, may-lack, memory-refused}
use Rattle.state_rows.proofs.Room.{room-then}
use Rattle.space_state.proofs.Hoarding.{room-reserved}
use Rattle.space_state.proofs.roots.RootedHeap.set_history.Goals as goal

pub returns-then-in_batch-clause-ends : goal.returns-then-in_batch-clause-ends
returns-then-in_batch-clause-ends c = λ W K. record { due = history-refused W _ (sym (c.in_batch.ensures [] W K) ∙ c.if-in_batch.true); same = refl }

pub returns-in_err-reserve-clause-ends : goal.returns-in_err-reserve-clause-ends
returns-in_err-reserve-clause-ends c = λ W K.
    let outside : in_batch W ≡ false = sym (c.in_batch.ensures [] W K) ∙ c.if-in_batch.false in
    memory-refused c.from_residual.result c.from_residual.ensures.1 (may-lack (history c.args.count) refl (history-done W c.args.count outside)) (heap-is c.in_err-reserve.ensures.refused)

pub shorten_undo-requires-clause-kept : goal.shorten_undo-requires-clause-kept
shorten_undo-requires-clause-kept c = ([], c.requires.0, keeps-same (same-heap c.reserve.ensures.rest) c.requires.1, omega arith)

pub returns-clause-ends : goal.returns-clause-ends
unfolding cost
returns-clause-ends c = λ W K.
    let outside : in_batch W ≡ false = sym (c.in_batch.ensures [] W K) ∙ c.if-in_batch.false in
    let cut = (c.shorten_undo.ensures.turns [] W (keeps-same (same-heap c.reserve.ensures.rest) K)).turns in
    let within : c.args.count ≤ most = omega (arith, c.ranges.count.fits) in
    let kept = keeps-history c.args.count within (last-few c.args.count W.undo) cut.keeps in
    record {
      after = _;
      told = history-done W c.args.count outside;
      turns = turns-by 256 kept cut.bits (rises-more 256 (rises-then (rises-same c.reserve.ensures.rest) (turns-of cut)) (omega arith));
      few_made = λ placed inside. absurd placed;
    }

pub returns-clause-spares : goal.returns-clause-spares
returns-clause-spares c = λ W K. room-then (room-reserved c.in_ok-reserve.ensures.greater c.reserve.ensures.rest) c.shorten_undo.ensures.spares

-- where undo has no more states than the new bound nothing is cut
pub returns-clause-within : goal.returns-clause-within
returns-clause-within c = λ W K few.
    let same = c.shorten_undo.ensures.short [] W (keeps-same (same-heap c.reserve.ensures.rest) K) few in
    ap (λ (s : RootedHeap). s.heap.made) same ∙ c.reserve.ensures.rest.made
